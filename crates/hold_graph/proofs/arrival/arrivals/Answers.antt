use Rattle.std.proofs.Common.{◌≡◌, ◌<◌, ap, sym, ◌∙◌, arith, rules, get_or, length, subst}
use Rattle.std.specs.Prelude.{List, Option, None, ℤ}
use Rattle.std.proofs.lemmas.Option.{slice_get-get_or}
use Rattle.hold_base.specs.declared.number.PinNo.{PinNo}
use Rattle.hold_base.specs.Limits.{launch_limit}
use Rattle.hold_graph.specs.inner.Arrival.{AreWithin, lesser, offer, sum_limit}
use Rattle.hold_graph.proofs.Pass.{IsPassOver, right_none, right_more, right_all, within_more, AreWithin-weaker, place_below}
use Rattle.hold_graph.proofs.arrival.arrivals.Goals as goal

pub loop-pin-init : goal.loop-pin-init
loop-pin-init c = record {
  len = search rules;
  within = subst (AreWithin launch_limit) (sym c.in_ok-best.ensures.items) c.requires.starts;
  right = right_none _ _ _ _ _ _;
}

pub offer-requires-clause-place : goal.offer-requires-clause-place
offer-requires-clause-place c = λ k is. place_below c.args.line.now.arcs.now c.args.line.now.into.now c.requires.line.places _ k is

pub offer-requires-clause-best : goal.offer-requires-clause-best
offer-requires-clause-best c =
    let count = c.requires.line.in_order.count in
    subst (AreWithin sum_limit) (sym c.as_slice.ensures.value)
    (AreWithin-weaker _ sum_limit c.loop-pin.best.items (omega arith) c.loop-pin.invariant.within)

pub loop-pin-preserved : goal.loop-pin-preserved
loop-pin-preserved c =
    let pin : PinNo = get_or c.args.line.now.order.now c.loop-pin.pin-index (record { 0 = 0 }) in
    let here = slice_get-get_or c.args.line.now.order.now c.loop-pin.pin-index (record { 0 = 0 }) c.loop-pin-test.true in
    let below : pin.0 < length c.loop-pin.best.items =
    (let lt : pin.0 < c.args.line.now.pins = c.requires.line.in_order.below c.loop-pin.pin-index _ c.loop-pin-test.true in
    let len = c.loop-pin.invariant.len in omega arith) in
    let over : IsPassOver c.args.line.now.pins c.args.line.now.arcs.now c.args.line.now.ranks.now c.args.line.now.order.now c.args.line.now.into.now =
    record { rising = c.requires.line.rising; in_order = c.requires.line.in_order; places = c.requires.line.places } in
    let made : c.lesser.result ≡ lesser (get_or c.args.starts.now pin.0 None) (offer c.args.line.now.arcs.now c.args.steps.now c.loop-pin.best.items (get_or c.args.line.now.into.now pin.0 None)) =
    c.lesser.ensures ∙ ap (lesser (get_or c.args.starts.now pin.0 None)) (c.offer.ensures ∙ ap (λ (best : List (Option ℤ)). offer c.args.line.now.arcs.now c.args.steps.now best (get_or c.args.line.now.into.now pin.0 None)) c.as_slice.ensures.value) in
    record {
      len = search rules;
      within = rw made (within_more c.args.line.now.arcs.now c.args.steps.now c.args.starts.now c.loop-pin.best.items c.loop-pin.pin-index pin.0 (get_or c.args.line.now.into.now pin.0 None)
          (λ k is. let lt : k < length c.args.line.now.arcs.now = place_below c.args.line.now.arcs.now c.args.line.now.into.now c.requires.line.places pin.0 k is in let each = c.requires.each in omega arith)
          c.requires.steps c.requires.starts below c.loop-pin.invariant.within);
      right = rw made (right_more c.args.line.now.pins c.args.line.now.arcs.now c.args.line.now.ranks.now c.args.line.now.order.now c.args.line.now.into.now over
          c.args.steps.now c.args.starts.now c.loop-pin.best.items c.loop-pin.pin-index pin here below c.loop-pin.invariant.right);
    }

pub returns-clause-within : goal.returns-clause-within
returns-clause-within c =
    let count = c.requires.line.in_order.count in
    AreWithin-weaker _ sum_limit c.loop-pin.best.items (omega arith) c.loop-pin.invariant.within

pub returns-clause-right : goal.returns-clause-right
returns-clause-right c =
    let over : IsPassOver c.args.line.now.pins c.args.line.now.arcs.now c.args.line.now.ranks.now c.args.line.now.order.now c.args.line.now.into.now =
    record { rising = c.requires.line.rising; in_order = c.requires.line.in_order; places = c.requires.line.places } in
    right_all c.args.line.now.pins c.args.line.now.arcs.now c.args.line.now.ranks.now c.args.line.now.order.now c.args.line.now.into.now over
    c.args.steps.now c.args.starts.now c.loop-pin.best.items c.loop-pin.pin-index c.loop-pin-test.false c.loop-pin.invariant.right
