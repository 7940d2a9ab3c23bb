use Rattle.std.proofs.Common.{◌≡◌, ◌++◌, drop}
use Rattle.hold_vparse.specs.inner.Flat.{targets}
use Rattle.hold_vparse.specs.Lines.{assignments_of_item}
use Rattle.hold_vparse.proofs.lines.add_assignments.Given as goal

abbrev pub invariant-loop-assignment : goal.invariant-loop-assignment
invariant-loop-assignment l = targets l.list.items ++ drop l.assignment-index l.assignment-items ≡ targets l.fn.list.items ++ assignments_of_item l.item
