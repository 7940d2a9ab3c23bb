use Rattle.std.proofs.Common.{◌≡◌, ◌+◌, ◌∷◌, [], ◌++◌, take, sym, subst, arith}
use Rattle.hold_graph.specs.inner.Waiting.{IsReady}
use Rattle.hold_graph.proofs.Ready.{ready-take_more, ready-take_zero}
use Rattle.hold_graph.proofs.topological.ready.Goals as goal
use Rattle.hold_graph.proofs.topological.ready.Goals.{then-counts-pin-eq0+in_ok-push, else-counts-pin-eq0}

pub loop-pin-preserved : goal.loop-pin-preserved
loop-pin-preserved c =
    elim c.if-counts-pin-eq0.branch [
      | then-counts-pin-eq0+in_ok-push w ↦
          let is : c.if-counts-pin-eq0.order.items ≡ c.loop-pin.order.items ++ (record { 0 = c.loop-pin.pin }) ∷ [] = cc (w.order-is, w.in_ok-push.ensures.items) in
          subst (IsReady (take (c.loop-pin.pin + 1) c.args.counts.now)) (sym is)
          (ready-take_zero c.args.counts.now c.loop-pin.order.items c.loop-pin.pin (omega arith) (omega arith) c.loop-pin.invariant)
      | else-counts-pin-eq0 w ↦
          let is : c.if-counts-pin-eq0.order.items ≡ c.loop-pin.order.items = cc w.order-is in
          subst (IsReady (take (c.loop-pin.pin + 1) c.args.counts.now)) (sym is)
          (ready-take_more c.args.counts.now c.loop-pin.order.items c.loop-pin.pin (omega arith) (let differs = w.if-counts-pin-eq0.false in omega arith) c.loop-pin.invariant)
    ]
