use Rattle.std.proofs.Common.{◌≡◌, ℕ, length}
use Rattle.std.specs.Prelude.{Some, slice_get}
use Rattle.hold_timing.specs.Arrivals.{Times, AtCorner, AreTimesOf}
use Rattle.hold_timing.proofs.corners.side_times.Given as goal

abbrev pub invariant-loop-spans : goal.invariant-loop-spans
invariant-loop-spans l = record {
  each : length l.all.items ≡ l.spans-index;
  right : (corner : ℕ) (times : Times) → slice_get l.all.items corner ≡ Some times →
      AtCorner l.problem l.counts corner (λ spans buffers. AreTimesOf l.side l.problem spans buffers times);
}
