use Rattle.std.proofs.Common.{◌≡◌, length}
use Rattle.hold_sdflex.specs.Items.{items_in}
use Rattle.hold_sdf.specs.Shapes.{retain_among}
use Rattle.hold_sdf.proofs.iopath.retain_among.Given as goal

abbrev pub invariant-loop-item : goal.invariant-loop-item
invariant-loop-item l = retain_among (items_in l.rest) ≡ retain_among (items_in l.fn.inner)

abbrev pub decreases-loop-item : goal.decreases-loop-item
decreases-loop-item l = length l.rest
