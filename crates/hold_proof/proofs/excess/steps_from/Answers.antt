use Rattle.std.proofs.Common.{◌+◌, ◌≤◌, get_or, refl, ap, ◌∙◌, arith}
use Rattle.std.proofs.lemmas.Int.{ints}
use Rattle.std.proofs.Math.Nat.{mul-le-mul_right}
use Rattle.hold_base.specs.Interval.{hull_of}
use Rattle.hold_base.specs.Limits.{bound_pins_limit, time_limit}
use Rattle.hold_graph.specs.Sums.{spans_between}
use Rattle.hold_proof.proofs.ExcessLemmas.{summed-none, summed-more, summed-same}
use Rattle.hold_proof.proofs.excess.steps_from.Goals as goal

pub loop-to-init : goal.loop-to-init
loop-to-init c = summed-none _ _ _ _ _

pub overflow_add-sum : goal.overflow_add-sum
overflow_add-sum c =
    let to = get_or c.args.pins.now c.loop-to.to-index (record { 0 = 0 }) in
    let next = summed-more c.args.side c.args.graph.now.arcs c.args.spans.now c.args.first c.args.pins.now c.loop-to.to-index _ _ c.end_of-sum.result c.loop-to.from to (record { 0 = 0 }) c.step_span.result
    c.loop-to.invariant c.loop-to-test.true refl c.requires.spans c.end_of-sum.ensures
    (c.step_span.ensures ∙ ap (λ s. hull_of (spans_between c.args.graph.now.arcs s c.loop-to.from to)) c.as_slice.ensures) refl in
    let low = next.size.low in
    let high = next.size.high in
    let few : c.loop-to.to-index + 1 ≤ bound_pins_limit = let l = c.loop-to-test.true in omega (arith, l, c.requires.few) in
    let room = mul-le-mul_right time_limit few in
    omega (arith, ints, low, high, room)

pub loop-to-preserved : goal.loop-to-preserved
loop-to-preserved c =
    let to = get_or c.args.pins.now c.loop-to.to-index (record { 0 = 0 }) in
    let next = summed-more c.args.side c.args.graph.now.arcs c.args.spans.now c.args.first c.args.pins.now c.loop-to.to-index _ _ c.end_of-sum.result c.loop-to.from to (record { 0 = 0 }) c.step_span.result
    c.loop-to.invariant c.loop-to-test.true refl c.requires.spans c.end_of-sum.ensures
    (c.step_span.ensures ∙ ap (λ s. hull_of (spans_between c.args.graph.now.arcs s c.loop-to.from to)) c.as_slice.ensures) refl in
    let low = next.size.low in
    let high = next.size.high in
    let few : c.loop-to.to-index + 1 ≤ bound_pins_limit = let l = c.loop-to-test.true in omega (arith, l, c.requires.few) in
    let room = mul-le-mul_right time_limit few in
    summed-same _ _ _ _ _ _ _ _ _ next (omega (arith, ints, low, high, room))
