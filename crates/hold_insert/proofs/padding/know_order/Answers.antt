use Rattle.hold_insert.proofs.PadLemmas.{no-loop}
use Rattle.hold_insert.proofs.padding.know_order.Goals as goal

pub returns : goal.returns
returns c = no-loop c.args.graph.now.pins c.args.graph.now.arcs c.order-order.result.now c.order-order.ensures c.parts-parts.ensures.numbers.to
