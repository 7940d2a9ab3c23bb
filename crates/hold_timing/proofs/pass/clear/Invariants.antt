use Rattle.std.proofs.Common.{◌≡◌, ℕ, ◌<◌, length, get_or}
use Rattle.std.specs.Prelude.{None}
use Rattle.hold_timing.proofs.pass.clear.Given as goal

abbrev pub invariant-loop-place : goal.invariant-loop-place
invariant-loop-place l = record {
  len : length l.arrivals.items ≡ length l.fn.arrivals.items;
  none : (place : ℕ) → place < l.place → get_or l.arrivals.items place None ≡ None;
}
