use Rattle.std.proofs.Common.{◌≡◌, length}
use Rattle.hold_sdflex.specs.Items.{items_in}
use Rattle.hold_sdf.specs.Shapes.{conditions}
use Rattle.hold_sdf.proofs.check.are_conditions.Given as goal

abbrev pub invariant-loop-rest : goal.invariant-loop-rest
invariant-loop-rest l = conditions (items_in l.rest) ≡ conditions (items_in l.fn.inner)

abbrev pub decreases-loop-rest : goal.decreases-loop-rest
decreases-loop-rest l = length (items_in l.rest)
