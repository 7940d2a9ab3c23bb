use Rattle.std.proofs.Common.{ap, ◌∙◌, arith}
use Rattle.std.proofs.lemmas.Int.{ints}
use Rattle.std.proofs.Math.Nat.{mul-le-mul_right}
use Rattle.hold_base.specs.Interval.{hull_of}
use Rattle.hold_base.specs.Limits.{launch_limit, time_limit}
use Rattle.hold_graph.specs.Sums.{end_of, items_at}
use Rattle.hold_proof.proofs.ExcessLemmas.{hull_at-ends, ends-within}
use Rattle.hold_proof.proofs.excess.free_sum.Goals as goal

pub overflow_add-result : goal.overflow_add-result
overflow_add-result c =
    let launch = c.end_of.ensures ∙ ap (end_of c.args.side) (c.hull_at-launch.ensures ∙ ap (λ s. hull_of (items_at c.args.launches.now.listed.items s c.args.first)) c.as_slice.ensures) in
    let ends = ends-within c.args.side launch_limit (hull_of (items_at c.args.launches.now.listed.items c.args.spans.now.launch c.args.first))
    (hull_at-ends launch_limit c.args.launches.now.listed.items c.args.spans.now.launch c.args.first c.requires.launch) in
    let low = ends.low in
    let high = ends.high in
    let bottom = (c.steps_from-steps.ensures.size).low in
    let top = (c.steps_from-steps.ensures.size).high in
    let steps = c.steps_from-steps.ensures.sum in
    let room = mul-le-mul_right time_limit c.requires.few in
    omega (arith, ints, launch, low, high, bottom, top, steps, room)

pub returns-clause-sum : goal.returns-clause-sum
returns-clause-sum c =
    let launch = c.end_of.ensures ∙ ap (end_of c.args.side) (c.hull_at-launch.ensures ∙ ap (λ s. hull_of (items_at c.args.launches.now.listed.items s c.args.first)) c.as_slice.ensures) in
    let ends = ends-within c.args.side launch_limit (hull_of (items_at c.args.launches.now.listed.items c.args.spans.now.launch c.args.first))
    (hull_at-ends launch_limit c.args.launches.now.listed.items c.args.spans.now.launch c.args.first c.requires.launch) in
    let low = ends.low in
    let high = ends.high in
    let bottom = (c.steps_from-steps.ensures.size).low in
    let top = (c.steps_from-steps.ensures.size).high in
    let steps = c.steps_from-steps.ensures.sum in
    let room = mul-le-mul_right time_limit c.requires.few in
    omega (arith, ints, launch, low, high, bottom, top, steps, room)

pub returns-clause-size : goal.returns-clause-size
returns-clause-size c =
    let launch = c.end_of.ensures ∙ ap (end_of c.args.side) (c.hull_at-launch.ensures ∙ ap (λ s. hull_of (items_at c.args.launches.now.listed.items s c.args.first)) c.as_slice.ensures) in
    let ends = ends-within c.args.side launch_limit (hull_of (items_at c.args.launches.now.listed.items c.args.spans.now.launch c.args.first))
    (hull_at-ends launch_limit c.args.launches.now.listed.items c.args.spans.now.launch c.args.first c.requires.launch) in
    let low = ends.low in
    let high = ends.high in
    let bottom = (c.steps_from-steps.ensures.size).low in
    let top = (c.steps_from-steps.ensures.size).high in
    let steps = c.steps_from-steps.ensures.sum in
    let room = mul-le-mul_right time_limit c.requires.few in
    record { low = omega (arith, ints, launch, low, high, bottom, top, steps, room); high = omega (arith, ints, launch, low, high, bottom, top, steps, room) }
