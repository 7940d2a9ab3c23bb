use Rattle.std.proofs.Common.{ℕ, ◌<◌, ◌≤◌, length}
use Rattle.hold_graph.specs.inner.Trail.{number_at}
use Rattle.hold_graph.proofs.cycle.place_of_least.Given as goal

abbrev pub invariant-loop-place : goal.invariant-loop-place
invariant-loop-place l = record {
  there : l.least < length l.pins;
  least : (k : ℕ) → k < l.place → number_at l.pins l.least ≤ number_at l.pins k;
}
