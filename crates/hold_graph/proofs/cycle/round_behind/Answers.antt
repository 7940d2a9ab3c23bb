use Rattle.std.proofs.Common.{◌≡◌, ◌<◌, length, drop, get_or, ap, sym, ◌∙◌, subst, arith, List}
use Rattle.std.specs.Prelude.{Some, None, reverse}
use Rattle.std.proofs.lemmas.List.{get_or_read}
use Rattle.hold_base.proofs.Results.{IfOk-weaken}
use Rattle.hold_base.specs.declared.number.PinNo.{PinNo}
use Rattle.hold_graph.specs.Cycles.{AreDifferent, GoesRound}
use Rattle.hold_graph.proofs.ArcRows.{row_into-below, row_into-held_up, row_into-arc}
use Rattle.hold_graph.proofs.Trail.{trail-more, trail-round, trail-different, trail-within}
use Rattle.hold_graph.proofs.cycle.round_behind.Goals as goal

pub turned_from-requires : goal.turned_from-requires
turned_from-requires c =
    let within : c.loop-place.pin.0 < length c.loop-place.places.items = let e = c.loop-place.invariant.each in let t = c.loop-place.invariant.there in omega arith in
    let at : get_or c.loop-place.places.items c.loop-place.pin.0 None ≡ Some c.in-Some.place =
    sym (get_or_read c.loop-place.places.items c.loop-place.pin.0 c.index.result.now within c.index.ensures None) ∙ c.in-Some.is in
    let lt = trail-within c.args.arcs.now c.args.counts.now c.loop-place.places.items c.loop-place.trail.items c.loop-place.pin c.in-Some.place c.loop-place.invariant at in
    let len = c.as_slice.ensures.len in
    omega arith

pub returns-in-Some-clause-round : goal.returns-in-Some-clause-round
returns-in-Some-clause-round c =
    let within : c.loop-place.pin.0 < length c.loop-place.places.items = let e = c.loop-place.invariant.each in let t = c.loop-place.invariant.there in omega arith in
    let at : get_or c.loop-place.places.items c.loop-place.pin.0 None ≡ Some c.in-Some.place =
    sym (get_or_read c.loop-place.places.items c.loop-place.pin.0 c.index.result.now within c.index.ensures None) ∙ c.in-Some.is in
    IfOk-weaken c.turned_from.result c.turned_from.ensures (λ turned is.
    subst (GoesRound c.args.arcs.now) (sym (is ∙ ap (λ (pins : List PinNo). reverse (drop c.in-Some.place pins)) c.as_slice.ensures.value))
    (trail-round c.args.arcs.now c.args.counts.now c.loop-place.places.items c.loop-place.trail.items c.loop-place.pin c.in-Some.place c.loop-place.invariant at))

pub returns-in-Some-clause-different : goal.returns-in-Some-clause-different
returns-in-Some-clause-different c =
    IfOk-weaken c.turned_from.result c.turned_from.ensures (λ turned is.
    subst (AreDifferent) (sym (is ∙ ap (λ (pins : List PinNo). reverse (drop c.in-Some.place pins)) c.as_slice.ensures.value))
    (trail-different c.args.arcs.now c.args.counts.now c.loop-place.places.items c.loop-place.trail.items c.loop-place.pin c.in-Some.place c.loop-place.invariant))

pub pin_before-pin-requires-clause-places : goal.pin_before-pin-requires-clause-places
pin_before-pin-requires-clause-places c =
    rw c.at.ensures (row_into-below (length c.args.counts.now) c.args.arcs.now c.args.incoming.now c.loop-place.pin c.requires.incoming c.loop-place.invariant.there)

pub pin_before-pin-requires-clause-some : goal.pin_before-pin-requires-clause-some
pin_before-pin-requires-clause-some c =
    rw c.at.ensures (row_into-held_up (length c.args.counts.now) c.args.arcs.now c.args.incoming.now c.args.counts.now c.loop-place.pin c.requires.incoming c.loop-place.invariant.there
    (c.requires.held_up c.loop-place.pin.0 c.loop-place.invariant.there c.loop-place.invariant.left))

pub loop-place-preserved : goal.loop-place-preserved
loop-place-preserved c =
    let within : c.loop-place.pin.0 < length c.loop-place.places.items = let e = c.loop-place.invariant.each in let t = c.loop-place.invariant.there in omega arith in
    let new : get_or c.loop-place.places.items c.loop-place.pin.0 None ≡ None =
    sym (get_or_read c.loop-place.places.items c.loop-place.pin.0 c.index.result.now within c.index.ensures None) ∙ c.in_default.is in
    let arc = row_into-arc (length c.args.counts.now) c.args.arcs.now c.args.incoming.now c.args.counts.now c.loop-place.pin c.pin_before-pin.result c.requires.incoming c.loop-place.invariant.there
    (rw (← c.at.ensures) c.pin_before-pin.ensures) in
    let len : c.len.result ≡ length c.loop-place.trail.items = omega arith in
    rw (len, c.in_ok-push.ensures.items)
    (trail-more c.args.arcs.now c.args.counts.now c.loop-place.places.items c.loop-place.trail.items c.loop-place.pin c.pin_before-pin.result c.requires.begins c.loop-place.invariant new arc
    c.pin_before-pin.ensures.waits)
