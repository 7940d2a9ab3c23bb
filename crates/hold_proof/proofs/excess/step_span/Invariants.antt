use Rattle.std.proofs.Common.{◌≡◌, drop, None}
use Rattle.hold_proof.specs.inner.Places.{hull_over}
use Rattle.hold_proof.proofs.excess.step_span.Given as goal

abbrev pub invariant-loop-place : goal.invariant-loop-place
invariant-loop-place l = hull_over l.arcs l.spans l.from l.hull (drop l.place-index l.place-items) ≡ hull_over l.arcs l.spans l.from None l.place-items
