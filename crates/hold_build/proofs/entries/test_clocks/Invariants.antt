use Rattle.std.proofs.Common.{ℕ, ◌<◌}
use Rattle.hold_build.specs.Faults.{IsUnknownClock}
use Rattle.hold_build.proofs.entries.test_clocks.Given as goal

-- no earlier entry is unknown
abbrev pub invariant-loop-place : goal.invariant-loop-place
invariant-loop-place l = (k : ℕ) → k < l.place → IsUnknownClock l.bound l.job k → ⊥
