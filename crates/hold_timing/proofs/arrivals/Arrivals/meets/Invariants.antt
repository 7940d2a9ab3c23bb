use Rattle.std.proofs.Common.{ℕ, ◌<◌}
use Rattle.hold_base.specs.declared.time.Side.{Side}
use Rattle.hold_timing.specs.Arrivals.{AtCorner}
use Rattle.hold_timing.specs.inner.Search.{IsMetAt}
use Rattle.hold_timing.proofs.arrivals.Arrivals.meets.Given as goal

abbrev pub invariant-loop-at : goal.invariant-loop-at
invariant-loop-at l = (corner : ℕ) (side : Side) → corner < l.at → AtCorner l.problem l.self.counts corner (IsMetAt side l.problem)
