use Rattle.std.proofs.Common.{◌≡◌, ◌-◌, set, sym, ◌∙◌, subst}
use Rattle.std.proofs.lemmas.List.{get_or-set_same}
use Rattle.hold_graph.specs.inner.Waiting.{IsReady}
use Rattle.hold_graph.proofs.Ready.{ready-pushed}
use Rattle.hold_graph.proofs.topological.take_off.Goals as goal

pub returns-in_ok-push-clause-ready : goal.returns-in_ok-push-clause-ready
returns-in_ok-push-clause-ready c =
    let none : c.index_mut.result.now - 1 ≡ 0 =
    sym (c.index.ensures ∙ get_or-set_same c.args.counts.now.items c.args.pin.0 (c.index_mut.result.now - 1) c.index.result.now c.requires.there) ∙ c.if-index-eq0.true in
    subst (IsReady (set c.args.counts.now.items c.args.pin.0 (c.index_mut.result.now - 1))) (sym c.in_ok-push.ensures.items)
    (ready-pushed c.args.counts.now.items c.args.order.now.items c.args.pin (c.index_mut.result.now - 1) c.requires.there c.requires.left none c.requires.ready)
