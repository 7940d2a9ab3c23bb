use Rattle.std.proofs.Common.{◌+◌, drop, refl, sym, ap, ◌∙◌, arith}
use Rattle.std.proofs.lemmas.List.{at_drop_more}
use Rattle.hold_graph.specs.declared.graph.Parts.{Parts}
use Rattle.hold_proof.specs.inner.Places.{hull_over}
use Rattle.hold_proof.proofs.StepLemmas.{place-there, step-end}
use Rattle.hold_proof.proofs.excess.step_span.Goals as goal

pub bounds-arcs-place : goal.bounds-arcs-place
bounds-arcs-place c =
    place-there c.args.graph.now.arcs c.as_slice-arcs.result.now c.incoming-place-items.result.now c.args.to c.loop-place.place-index c.incoming-place-items.ensures
    (c.as_slice-arcs.ensures ∙ ap (λ (p : Parts). p.arcs) c.parts.ensures.same) c.loop-place-test.true

pub bounds-spans-place : goal.bounds-spans-place
bounds-spans-place c =
    let there = place-there c.args.graph.now.arcs c.args.graph.now.arcs c.incoming-place-items.result.now c.args.to c.loop-place.place-index c.incoming-place-items.ensures
    refl c.loop-place-test.true in
    omega (arith, there, c.requires.each)

pub loop-place-preserved : goal.loop-place-preserved
loop-place-preserved c =
    ap (λ h. hull_over c.as_slice-arcs.result.now c.args.spans.now c.args.from h (drop (c.loop-place.place-index + 1) c.incoming-place-items.result.now)) c.joined_from-hull.ensures
    ∙ sym (at_drop_more (hull_over c.as_slice-arcs.result.now c.args.spans.now c.args.from c.loop-place.hull) c.incoming-place-items.result.now c.loop-place.place-index 0 c.loop-place-test.true)
    ∙ c.loop-place.invariant

pub returns : goal.returns
returns c =
    c.or_nothing.ensures
    ∙ step-end c.args.graph.now.arcs c.as_slice-arcs.result.now c.args.spans.now c.args.from c.args.to c.incoming-place-items.result.now c.loop-place.place-index c.loop-place.hull c.incoming-place-items.ensures
    (c.as_slice-arcs.ensures ∙ ap (λ (p : Parts). p.arcs) c.parts.ensures.same) c.requires.each c.loop-place-test.false c.loop-place.invariant
