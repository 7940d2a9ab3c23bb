use Rattle.std.proofs.Common.{ℕ, ◌<◌, [], ◌∙◌, length, sym, subst}
use Rattle.std.specs.Prelude.{List, All, slice_index_or, reverse}
use Rattle.hold_base.proofs.Results.{IfOk-weaken}
use Rattle.hold_base.specs.declared.number.PinNo.{PinNo}
use Rattle.hold_graph.specs.declared.graph.Arc.{Arc}
use Rattle.hold_graph.specs.declared.adjacency.End.TheVariants.{From, To}
use Rattle.hold_graph.specs.inner.Marks.{StandsAhead}
use Rattle.hold_graph.proofs.Ahead.{ahead-back, rows-within, leads-from}
use Rattle.hold_graph.proofs.site.leads_to.Goals as goal

pub spread-requires-clause-ahead : goal.spread-requires-clause-ahead
spread-requires-clause-ahead c =
    subst (λ (order : List PinNo). StandsAhead To c.as_slice-arcs.result.now c.args.outgoing.now order) (sym (c.as_slice.ensures.value ∙ c.in_ok-back.ensures))
    (subst (λ (arcs : List Arc). StandsAhead To arcs c.args.outgoing.now (reverse c.args.order.now)) (sym c.as_slice-arcs.ensures)
    (ahead-back c.args.parts.now.pins c.args.parts.now.arcs c.args.order.now c.args.outgoing.now c.requires.order c.requires.numbers.to c.requires.rows))

pub spread-requires-clause-places : goal.spread-requires-clause-places
spread-requires-clause-places c =
    subst (λ (arcs : List Arc). (pin : ℕ) → pin < length c.args.outgoing.now → All (λ (place : ℕ). place < length arcs) (slice_index_or c.args.outgoing.now pin [])) (sym c.as_slice-arcs.ensures)
    (rows-within c.args.parts.now.pins From c.args.parts.now.arcs c.args.outgoing.now c.requires.rows)

pub returns : goal.returns
returns c =
    IfOk-weaken c.spread.result c.spread.ensures
    (λ marks h. leads-from c.args.parts.now c.args.order.now c.as_slice.result.now c.args.outgoing.now c.args.targets.now c.in_ok-seeds.seeds.items c.as_slice-arcs.result.now c.as_slice-2.result.now marks.items
    c.as_slice-arcs.ensures c.as_slice-2.ensures.value (c.as_slice.ensures.value ∙ c.in_ok-back.ensures) c.requires.numbers c.requires.order c.requires.rows c.in_ok-seeds.ensures h)
