use Rattle.std.proofs.Common.{ℕ, ◌<◌, [], length, sym, subst}
use Rattle.std.specs.Prelude.{List, All, slice_index_or}
use Rattle.hold_base.proofs.Results.{IfOk-weaken}
use Rattle.hold_graph.specs.declared.graph.Arc.{Arc}
use Rattle.hold_graph.specs.declared.adjacency.End.TheVariants.{From, To}
use Rattle.hold_graph.specs.inner.Marks.{StandsAhead}
use Rattle.hold_graph.proofs.Ahead.{ahead-forward, rows-within, led-from}
use Rattle.hold_graph.proofs.site.led_to.Goals as goal

pub spread-requires-clause-ahead : goal.spread-requires-clause-ahead
spread-requires-clause-ahead c =
    subst (λ (arcs : List Arc). StandsAhead From arcs c.args.incoming.now c.args.order.now) (sym c.as_slice-arcs.ensures)
    (ahead-forward c.args.parts.now.pins c.args.parts.now.arcs c.args.order.now c.args.incoming.now c.requires.order c.requires.rows)

pub spread-requires-clause-places : goal.spread-requires-clause-places
spread-requires-clause-places c =
    subst (λ (arcs : List Arc). (pin : ℕ) → pin < length c.args.incoming.now → All (λ (place : ℕ). place < length arcs) (slice_index_or c.args.incoming.now pin [])) (sym c.as_slice-arcs.ensures)
    (rows-within c.args.parts.now.pins To c.args.parts.now.arcs c.args.incoming.now c.requires.rows)

pub returns : goal.returns
returns c =
    IfOk-weaken c.spread.result c.spread.ensures
    (λ marks h. led-from c.args.parts.now c.args.order.now c.args.incoming.now c.args.sources.now c.in_ok-seeds.seeds.items c.as_slice-arcs.result.now c.as_slice.result.now marks.items
    c.as_slice-arcs.ensures c.as_slice.ensures.value c.requires.numbers c.requires.order c.requires.rows c.in_ok-seeds.ensures c.requires.sources h)
