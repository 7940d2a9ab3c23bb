use Rattle.std.proofs.Common.{◌∙◌, ap}
use Rattle.hold_graph.specs.declared.graph.Parts.{Parts}
use Rattle.hold_uses.proofs.UseLemmas.{steps-more}
use Rattle.hold_uses.proofs.uses.used_steps.Goals as goal

pub loop-arc-preserved : goal.loop-arc-preserved
loop-arc-preserved c =
    rw (c.in_ok-push.ensures.items)
    (steps-more c.args.graph.now c.parts.ensures.numbers c.in_ok-led.led.items c.in_ok-leads.leads.items c.in_ok-led.ensures c.in_ok-leads.ensures c.as_slice-arcs.result.now
    (c.as_slice-arcs.ensures ∙ ap (λ (p : Parts). p.arcs) c.parts.ensures.same) c.as_slice.result.now c.as_slice-in-loop-arc.result.now c.as_slice.ensures.value
    c.as_slice-in-loop-arc.ensures.value c.loop-arc.arc-index _ c.loop-arc.used.items c.is_between.result c.loop-arc-test.true c.loop-arc.invariant c.is_between.ensures)
