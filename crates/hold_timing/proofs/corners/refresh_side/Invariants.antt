use Rattle.std.proofs.Common.{◌≡◌, ℕ, ◌<◌, ◌≤◌, length}
use Rattle.std.specs.Prelude.{Some, slice_get}
use Rattle.hold_timing.specs.Arrivals.{Times, AtCorner, AreTimesOf}
use Rattle.hold_timing.proofs.corners.refresh_side.Given as goal

abbrev pub invariant-loop-corner : goal.invariant-loop-corner
invariant-loop-corner l = record {
  each : length l.all.items ≡ length l.problem.corners;
  done : (corner : ℕ) (times : Times) → corner < l.corner → slice_get l.all.items corner ≡ Some times →
      AtCorner l.problem l.counts corner (λ spans buffers. AreTimesOf l.side l.problem spans buffers times);
  left : (corner : ℕ) → l.corner ≤ corner → slice_get l.all.items corner ≡ slice_get l.fn.all.items corner;
}
