use Rattle.std.proofs.Common.{◌≡◌, None, length}
use Rattle.hold_sdflex.specs.Items.{items_in}
use Rattle.hold_sdf.specs.Shapes.{numbers_of}
use Rattle.hold_sdf.specs.inner.Hulls.{hulled}
use Rattle.hold_sdf.proofs.span.span_of_delays.Given as goal

abbrev pub invariant-loop-delay : goal.invariant-loop-delay
invariant-loop-delay l = hulled l.scale.exponent l.span (numbers_of (items_in l.rest)) ≡ hulled l.scale.exponent None (numbers_of (items_in l.fn.delays))

abbrev pub decreases-loop-delay : goal.decreases-loop-delay
decreases-loop-delay l = length l.rest
