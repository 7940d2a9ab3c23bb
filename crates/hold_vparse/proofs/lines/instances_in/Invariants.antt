use Rattle.std.proofs.Common.{◌≡◌, ◌++◌, drop}
use Rattle.hold_vparse.specs.inner.Flat.{seen_instances}
use Rattle.hold_vparse.specs.Lines.{instances}
use Rattle.hold_vparse.proofs.lines.instances_in.Given as goal

abbrev pub invariant-loop-item : goal.invariant-loop-item
invariant-loop-item l = seen_instances l.list.items ++ instances (drop l.item-index l.items) ≡ instances l.items
