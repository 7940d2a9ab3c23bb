use Rattle.std.proofs.Common.{sym, ◌∙◌, subst}
use Rattle.hold_graph.specs.Cycles.{IsCycle}
use Rattle.hold_graph.proofs.Trail.{cycle-from_least}
use Rattle.hold_graph.proofs.cycle.cycle_behind.Goals as goal

pub returns : goal.returns
returns c =
    subst (IsCycle c.args.arcs.now) (sym (c.from_vec.ensures ∙ c.rotate_left.ensures.items))
    (cycle-from_least c.args.arcs.now c.in_ok-pins.pins.items c.place_of_least-least.result c.in_ok-pins.ensures.round c.in_ok-pins.ensures.different
    (rw (← c.as_slice.ensures.value) c.place_of_least-least.ensures.there) (rw (← c.as_slice.ensures.value) c.place_of_least-least.ensures.least))
