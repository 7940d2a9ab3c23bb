use Rattle.std.proofs.Common.{◌≡◌, ◌≤◌, length}
use Rattle.std.specs.Prelude.{All}
use Rattle.hold_base.specs.Limits.{cost_limit}
use Rattle.hold_timing_tests.proofs.problem.costs_of.Given as goal

abbrev pub invariant-loop-kind : goal.invariant-loop-kind
invariant-loop-kind l = record {
  each : length l.costs.items ≡ l.kind;
  least : All (λ cost. 1 ≤ cost) l.costs.items;
  most : All (λ cost. cost ≤ cost_limit) l.costs.items;
}
