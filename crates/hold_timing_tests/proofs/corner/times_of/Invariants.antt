use Rattle.std.proofs.Common.{◌≡◌, length}
use Rattle.std.specs.Prelude.{All}
use Rattle.hold_base.specs.Limits.{time_limit}
use Rattle.hold_graph.specs.Problem.{IsWithin}
use Rattle.hold_timing_tests.proofs.corner.times_of.Given as goal

abbrev pub invariant-loop-place : goal.invariant-loop-place
invariant-loop-place l = record {
  each : length l.times.items ≡ l.place;
  within : All (IsWithin time_limit) l.times.items;
}
