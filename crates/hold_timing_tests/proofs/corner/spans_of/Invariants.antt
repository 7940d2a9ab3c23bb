use Rattle.std.proofs.Common.{◌≡◌, length}
use Rattle.std.specs.Prelude.{All, ◌≤ℤ◌}
use Rattle.hold_base.specs.Limits.{time_limit}
use Rattle.hold_graph.specs.Problem.{IsSpan}
use Rattle.hold_timing_tests.proofs.corner.spans_of.Given as goal

abbrev pub invariant-loop-place : goal.invariant-loop-place
invariant-loop-place l = record {
  each : length l.spans.items ≡ l.place;
  spans : All (IsSpan time_limit) l.spans.items;
  floor : All (λ span. l.fn.floor ≤ℤ span.least) l.spans.items;
}
