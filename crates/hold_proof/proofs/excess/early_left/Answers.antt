use Rattle.std.proofs.Common.{ap, ◌∙◌, arith}
use Rattle.std.proofs.lemmas.Int.{ints}
use Rattle.hold_base.specs.Interval.{hull_of}
use Rattle.hold_base.specs.Limits.{time_limit}
use Rattle.hold_base.specs.declared.time.Interval.{Interval}
use Rattle.hold_graph.specs.Sums.{greatest_of, items_at}
use Rattle.hold_proof.proofs.ExcessLemmas.{hull_at-ends, greatest_at-within}
use Rattle.hold_proof.proofs.excess.early_left.Goals as goal

pub overflow_sub-result : goal.overflow_sub-result
overflow_sub-result c =
    let arrival = ap (λ (i : Interval). i.greatest) (c.hull_at-arrival.ensures ∙ ap (λ s. hull_of (items_at c.args.captures.now.listed.items s c.args.end)) c.as_slice.ensures) in
    let ends = hull_at-ends time_limit c.args.captures.now.listed.items c.args.spans.now.capture c.args.end c.requires.capture in
    let low = (ends.greatest).low in
    let high = (ends.greatest).high in
    let time = c.greatest_at-hold.ensures ∙ ap (λ s. greatest_of (items_at c.args.captures.now.listed.items s c.args.end)) c.as_slice-2.ensures in
    let within = greatest_at-within time_limit c.args.captures.now.listed.items c.args.spans.now.hold c.args.end c.requires.hold in
    let bottom = within.low in
    let top = within.high in
    omega (arith, ints, arrival, low, high, time, bottom, top)

pub overflow_sub-result-2 : goal.overflow_sub-result-2
overflow_sub-result-2 c =
    let arrival = ap (λ (i : Interval). i.greatest) (c.hull_at-arrival.ensures ∙ ap (λ s. hull_of (items_at c.args.captures.now.listed.items s c.args.end)) c.as_slice.ensures) in
    let ends = hull_at-ends time_limit c.args.captures.now.listed.items c.args.spans.now.capture c.args.end c.requires.capture in
    let low = (ends.greatest).low in
    let high = (ends.greatest).high in
    let time = c.greatest_at-hold.ensures ∙ ap (λ s. greatest_of (items_at c.args.captures.now.listed.items s c.args.end)) c.as_slice-2.ensures in
    let within = greatest_at-within time_limit c.args.captures.now.listed.items c.args.spans.now.hold c.args.end c.requires.hold in
    let bottom = within.low in
    let top = within.high in
    omega (arith, ints, arrival, low, high, time, bottom, top)

pub returns-clause-value : goal.returns-clause-value
returns-clause-value c =
    let arrival = ap (λ (i : Interval). i.greatest) (c.hull_at-arrival.ensures ∙ ap (λ s. hull_of (items_at c.args.captures.now.listed.items s c.args.end)) c.as_slice.ensures) in
    let ends = hull_at-ends time_limit c.args.captures.now.listed.items c.args.spans.now.capture c.args.end c.requires.capture in
    let low = (ends.greatest).low in
    let high = (ends.greatest).high in
    let time = c.greatest_at-hold.ensures ∙ ap (λ s. greatest_of (items_at c.args.captures.now.listed.items s c.args.end)) c.as_slice-2.ensures in
    let within = greatest_at-within time_limit c.args.captures.now.listed.items c.args.spans.now.hold c.args.end c.requires.hold in
    let bottom = within.low in
    let top = within.high in
    omega (arith, ints, arrival, low, high, time, bottom, top)

pub returns-clause-size : goal.returns-clause-size
returns-clause-size c =
    let arrival = ap (λ (i : Interval). i.greatest) (c.hull_at-arrival.ensures ∙ ap (λ s. hull_of (items_at c.args.captures.now.listed.items s c.args.end)) c.as_slice.ensures) in
    let ends = hull_at-ends time_limit c.args.captures.now.listed.items c.args.spans.now.capture c.args.end c.requires.capture in
    let low = (ends.greatest).low in
    let high = (ends.greatest).high in
    let time = c.greatest_at-hold.ensures ∙ ap (λ s. greatest_of (items_at c.args.captures.now.listed.items s c.args.end)) c.as_slice-2.ensures in
    let within = greatest_at-within time_limit c.args.captures.now.listed.items c.args.spans.now.hold c.args.end c.requires.hold in
    let bottom = within.low in
    let top = within.high in
    record { low = omega (arith, ints, arrival, low, high, time, bottom, top); high = omega (arith, ints, arrival, low, high, time, bottom, top) }
