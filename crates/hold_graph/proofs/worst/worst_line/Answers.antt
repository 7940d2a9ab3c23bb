use Rattle.std.proofs.Common.{◌≡◌, ◌∙◌, length, ap, sym, subst}
use Rattle.std.specs.Prelude.{List, ℕ, Option}
use Rattle.hold_graph.specs.declared.graph.Arc.{Arc}
use Rattle.hold_graph.specs.declared.graph.Parts.{Parts}
use Rattle.hold_graph.specs.inner.Order.{AreRanks, IsInto}
use Rattle.hold_graph.proofs.Ranks.{line-ordered}
use Rattle.hold_graph.proofs.worst.worst_line.Goals as goal

pub short_in_problem-requires-clause-line : goal.short_in_problem-requires-clause-line
short_in_problem-requires-clause-line c =
    line-ordered _ c.args.problem.now.graph
    (ap (λ (parts : Parts). parts.pins) c.parts-parts.ensures.same)
    (c.as_slice-arcs.ensures ∙ ap (λ (parts : Parts). parts.arcs) c.parts-parts.ensures.same)
    c.parts-parts.ensures.numbers c.order-order.ensures
    (ap (λ (xs : List ℕ). length xs) c.as_slice.ensures.value ∙ c.in_ok-ranks.ensures.len)
    (subst (AreRanks c.order-order.result.now) (sym c.as_slice.ensures.value) c.in_ok-ranks.ensures.ranks)
    (ap (λ (xs : List (Option ℕ)). length xs) c.as_slice-2.ensures.value ∙ c.in_ok-into.ensures.len)
    (subst (IsInto c.as_slice-arcs.result.now) (sym c.as_slice-2.ensures.value) c.in_ok-into.ensures.places)
