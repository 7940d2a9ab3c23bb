use Rattle.std.proofs.Common.{◌≡◌, length}
use Rattle.hold_sdflex.specs.Items.{items_in}
use Rattle.hold_sdf.specs.Shapes.{has_star}
use Rattle.hold_sdf.proofs.cell.has_star.Given as goal

abbrev pub invariant-loop-item : goal.invariant-loop-item
invariant-loop-item l = has_star (items_in l.rest) ≡ has_star (items_in l.fn.inner)

abbrev pub decreases-loop-item : goal.decreases-loop-item
decreases-loop-item l = length l.rest
