use Rattle.std.proofs.Common.{List, length, ap, ◌∙◌, subst}
use Rattle.hold_base.specs.declared.number.PinNo.{PinNo}
use Rattle.hold_graph.proofs.Ahead.{stands}
use Rattle.hold_graph.specs.declared.graph.Parts.{Parts}
use Rattle.hold_uses.specs.declared.marks.Way.TheVariants.{Forward}
use Rattle.hold_uses.specs.inner.Marks.{AreMarked}
use Rattle.hold_uses.proofs.Both.{IfOk-both}
use Rattle.hold_uses.proofs.Marking.{exact}
use Rattle.hold_uses.proofs.marks.launched.Goals as goal

pub returns : goal.returns
returns c =
    let graph = c.args.graph.now in
    let order = c.order.result.now in
    let same = c.as_slice-launches.ensures ∙ ap (λ (p : Parts). p.launches) c.parts.ensures.same in
    IfOk-both c.spread.result c.spread.ensures.count c.spread.ensures.marked
    (λ marks count marked. exact Forward graph.pins graph.arcs graph.launches order marks.items (stands graph.pins graph.arcs order c.order.ensures) count
    (subst (λ (listed : List PinNo). AreMarked Forward graph.arcs listed order (length order) marks.items) same marked))
