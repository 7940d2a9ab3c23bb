use Rattle.std.proofs.Common.{◌≡◌, ◌++◌, drop}
use Rattle.hold_vparse.specs.inner.Flat.{targets}
use Rattle.hold_vparse.specs.Lines.{assignments}
use Rattle.hold_vparse.proofs.lines.assignments_in.Given as goal

abbrev pub invariant-loop-item : goal.invariant-loop-item
invariant-loop-item l = targets l.list.items ++ assignments (drop l.item-index l.items) ≡ assignments l.items
