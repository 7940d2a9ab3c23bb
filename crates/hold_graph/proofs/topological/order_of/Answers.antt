use Rattle.std.proofs.Common.{length, arith}
use Rattle.hold_graph.proofs.Acyclic.{no_cycle}
use Rattle.hold_graph.proofs.WorkedOff.{worked_off-topological, worked_off-held_up}
use Rattle.hold_graph.proofs.topological.order_of.Goals as goal

pub returns-in-None-clause-order : goal.returns-in-None-clause-order
returns-in-None-clause-order c =
    worked_off-topological c.args.pins c.args.arcs.now (length c.in_ok-order.order.items) c.worked_off.new.counts.items c.in_ok-order.order.items
    c.worked_off.ensures.each (rw (← c.as_slice.ensures.value) c.in-None.ensures.none) c.in_ok-order.ensures.done

pub returns-in-None-clause-no_cycle : goal.returns-in-None-clause-no_cycle
returns-in-None-clause-no_cycle c =
    no_cycle c.args.pins c.args.arcs.now c.in_ok-order.order.items c.requires.to
    (worked_off-topological c.args.pins c.args.arcs.now (length c.in_ok-order.order.items) c.worked_off.new.counts.items c.in_ok-order.order.items
    c.worked_off.ensures.each (rw (← c.as_slice.ensures.value) c.in-None.ensures.none) c.in_ok-order.ensures.done)

pub cycle_behind-requires-clause-held_up : goal.cycle_behind-requires-clause-held_up
cycle_behind-requires-clause-held_up c =
    rw c.as_slice-in-Some.ensures.value
    (λ pin lt some. worked_off-held_up c.args.arcs.now (length c.in_ok-order.order.items) c.worked_off.new.counts.items c.in_ok-order.order.items pin
    (rw c.worked_off.ensures.each c.requires.from) (omega arith) c.in_ok-order.ensures.done lt some)
