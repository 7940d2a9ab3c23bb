use Rattle.std.proofs.Common.{◌≡◌, ◌++◌, drop, map}
use Rattle.hold_vparse.specs.inner.Flat.{seen_instances}
use Rattle.hold_vparse.specs.Lines.{instances_of_item}
use Rattle.hold_vparse.proofs.lines.add_instances.Given as goal

abbrev pub invariant-loop-instance : goal.invariant-loop-instance
invariant-loop-instance l = seen_instances l.list.items ++ map (λ x. (l.instances.kind, x)) (drop l.instance-index l.instance-items) ≡ seen_instances l.fn.list.items ++ instances_of_item l.item
