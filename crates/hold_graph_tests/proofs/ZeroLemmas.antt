-- A problem in which everything takes no time is valid.
use Rattle.std.proofs.Common.{◌≡◌, ℕ, ◌≤◌, [], ◌∷◌, length, ap, ◌∙◌, subst, sym, arith}
use Rattle.std.specs.Prelude.{All, pos, ◌≤ℤ◌}
use Rattle.std.proofs.lemmas.Int.{ints}
use Rattle.std.proofs.lemmas.List.{length-replicate}
use Rattle.std.proofs.lemmas.List.Elements.{All-nil, All-cons, All-replicate}
use Rattle.hold_base.specs.Limits.{time_limit, launch_limit, bound_pins_limit, arcs_limit, cost_limit}
use Rattle.hold_base.specs.declared.time.Interval.{Interval}
use Rattle.hold_graph.specs.declared.problem.Problem.{Problem}
use Rattle.hold_graph.specs.Problem.{IsWithin, IsSpan, IsValid, IsValidCorner}
use Rattle.hold_graph_tests.specs.Zero.{zero_span, zero_spans}

zero-within : (limit : ℕ) → IsWithin limit (pos 0)
zero-within limit = record { low = omega (arith, ints); high = omega (arith, ints) }

zero-span : (limit : ℕ) → IsSpan limit zero_span
zero-span limit = record { ordered = omega (arith, ints); least = zero-within limit; greatest = zero-within limit }

zero-corner : (problem : Problem) → IsValidCorner problem (zero_spans problem.graph (length problem.costs))
zero-corner problem = record {
  arcs_each = length-replicate (length problem.graph.arcs) zero_span;
  launch_each = length-replicate (length problem.graph.launches) zero_span;
  capture_each = length-replicate (length problem.graph.captures) zero_span;
  setup_each = length-replicate (length problem.graph.captures) (pos 0);
  hold_each = length-replicate (length problem.graph.captures) (pos 0);
  kinds_each = length-replicate (length problem.costs) zero_span;
  arcs = All-replicate (IsSpan time_limit) (length problem.graph.arcs) zero_span (zero-span time_limit);
  launch = All-replicate (IsSpan launch_limit) (length problem.graph.launches) zero_span (zero-span launch_limit);
  capture = All-replicate (IsSpan time_limit) (length problem.graph.captures) zero_span (zero-span time_limit);
  setup = All-replicate (IsWithin time_limit) (length problem.graph.captures) (pos 0) (zero-within time_limit);
  hold = All-replicate (IsWithin time_limit) (length problem.graph.captures) (pos 0) (zero-within time_limit);
  kinds = All-replicate (IsSpan time_limit) (length problem.costs) zero_span (zero-span time_limit);
  kinds_least = All-replicate (λ (kind : Interval). pos 0 ≤ℤ kind.least) (length problem.costs) zero_span (omega (arith, ints));
}

pub zero-valid : (problem : Problem) (first second : ℕ) → problem.graph.pins ≤ bound_pins_limit → length problem.graph.arcs ≤ arcs_limit → 1 ≤ first → first ≤ cost_limit → 1 ≤ second → second ≤ cost_limit →
    problem.costs ≡ first ∷ second ∷ [] → problem.max_chain ≡ 4 → problem.period ≡ pos 1000 → problem.corners ≡ zero_spans problem.graph 2 ∷ [] → IsValid problem
zero-valid problem first second pins arcs first_least first_most second_least second_most costs chain period two =
    let number : length problem.costs ≡ 2 = ap length costs in
    let corners : problem.corners ≡ zero_spans problem.graph (length problem.costs) ∷ [] = two ∙ ap (λ (n : ℕ). zero_spans problem.graph n ∷ []) (sym number) in
    let each : All (λ (cost : ℕ). 1 ≤ cost) (first ∷ second ∷ []) = All-cons (λ (cost : ℕ). 1 ≤ cost) first (second ∷ []) first_least (All-cons (λ (cost : ℕ). 1 ≤ cost) second [] second_least (All-nil (λ (cost : ℕ). 1 ≤ cost))) in
    let most : All (λ (cost : ℕ). cost ≤ cost_limit) (first ∷ second ∷ []) = All-cons (λ (cost : ℕ). cost ≤ cost_limit) first (second ∷ []) first_most (All-cons (λ (cost : ℕ). cost ≤ cost_limit) second [] second_most (All-nil (λ (cost : ℕ). cost ≤ cost_limit))) in
    record {
      pins = pins;
      arcs = arcs;
      some_corner = rw corners (omega arith);
      corner_limit = rw corners (omega arith);
      kinds = rw costs (omega arith);
      costs_least = subst (All (λ (cost : ℕ). 1 ≤ cost)) (sym costs) each;
      costs_most = subst (All (λ (cost : ℕ). cost ≤ cost_limit)) (sym costs) most;
      max_chain = omega arith;
      period_least = rw period (omega (arith, ints));
      period_most = rw period (omega (arith, ints));
      corners = subst (All (IsValidCorner problem)) (sym corners)
          (All-cons (IsValidCorner problem) (zero_spans problem.graph (length problem.costs)) [] (zero-corner problem) (All-nil (IsValidCorner problem)));
    }
