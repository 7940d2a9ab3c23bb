use Rattle.std.proofs.Common.{List, length, ap, sym, subst, ◌∙◌}
use Rattle.std.specs.Prelude.{reverse}
use Rattle.hold_base.specs.declared.number.PinNo.{PinNo}
use Rattle.hold_graph.specs.declared.graph.Parts.{Parts}
use Rattle.hold_uses.specs.declared.marks.Way.TheVariants.{Back}
use Rattle.hold_uses.specs.inner.Marks.{AreMarked, StandsAhead}
use Rattle.hold_uses.proofs.Both.{IfOk-both}
use Rattle.hold_uses.proofs.Marking.{ahead-back, stands-reverse, exact}
use Rattle.hold_uses.proofs.marks.captured.Goals as goal

pub spread-requires-clause-ahead : goal.spread-requires-clause-ahead
spread-requires-clause-ahead c =
    let graph = c.args.graph.now in
    subst (λ (order : List PinNo). StandsAhead Back graph.arcs order) (sym (c.as_slice.ensures.value ∙ c.reverse.ensures.items ∙ ap reverse c.in_ok-back.ensures.items))
    (ahead-back graph.pins graph.arcs c.order.result.now c.parts.ensures.numbers.to c.order.ensures)

pub returns : goal.returns
returns c =
    let graph = c.args.graph.now in
    let back = c.as_slice.result.now in
    let is_back = c.as_slice.ensures.value ∙ c.reverse.ensures.items ∙ ap reverse c.in_ok-back.ensures.items in
    let same = c.as_slice-captures.ensures ∙ ap (λ (p : Parts). p.captures) c.parts.ensures.same in
    IfOk-both c.spread.result c.spread.ensures.count c.spread.ensures.marked
    (λ marks count marked. exact Back graph.pins graph.arcs graph.captures (reverse c.order.result.now) marks.items (stands-reverse graph.pins graph.arcs c.order.result.now c.order.ensures) count
    (subst (λ (order : List PinNo). AreMarked Back graph.arcs graph.captures order (length order) marks.items) is_back
    (subst (λ (listed : List PinNo). AreMarked Back graph.arcs listed back (length back) marks.items) same marked)))
