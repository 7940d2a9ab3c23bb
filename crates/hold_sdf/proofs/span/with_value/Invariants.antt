use Rattle.std.proofs.Common.{◌≡◌, length}
use Rattle.hold_sdflex.specs.Items.{items_in}
use Rattle.hold_sdf.specs.Shapes.{atoms}
use Rattle.hold_sdf.specs.inner.Hulls.{hulled}
use Rattle.hold_sdf.proofs.span.with_value.Given as goal

abbrev pub invariant-loop-item : goal.invariant-loop-item
invariant-loop-item l = hulled l.scale.exponent l.span (atoms (items_in l.rest)) ≡ hulled l.scale.exponent l.fn.span (atoms (items_in l.fn.value))

abbrev pub decreases-loop-item : goal.decreases-loop-item
decreases-loop-item l = length l.rest
