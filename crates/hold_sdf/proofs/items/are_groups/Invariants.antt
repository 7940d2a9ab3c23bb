use Rattle.std.proofs.Common.{◌≡◌, length}
use Rattle.hold_sdflex.specs.Items.{items_in}
use Rattle.hold_sdf.specs.Shapes.{are_groups}
use Rattle.hold_sdf.proofs.items.are_groups.Given as goal

abbrev pub invariant-loop-item : goal.invariant-loop-item
invariant-loop-item l = are_groups (items_in l.rest) ≡ are_groups (items_in l.fn.inner)

abbrev pub decreases-loop-item : goal.decreases-loop-item
decreases-loop-item l = length l.rest
