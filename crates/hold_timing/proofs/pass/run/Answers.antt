use Rattle.std.proofs.Common.{◌≡◌, ◌+◌, ◌<◌, ◌∙◌, ap, sym, subst, arith, rules, get_or, set, length}
use Rattle.std.specs.Prelude.{List, Option, None, ℤ}
use Rattle.std.proofs.lemmas.List.{get_or_default}
use Rattle.std.proofs.lemmas.Option.{slice_get-get_or}
use Rattle.hold_base.specs.declared.number.PinNo.{PinNo}
use Rattle.hold_graph.specs.Sites.{buffers_of}
use Rattle.hold_timing.specs.inner.Pass.{worse, coming, AreWithin, sum_limit, step_limit}
use Rattle.hold_timing.proofs.Bounds.{AreWithin-weaker}
use Rattle.hold_timing.proofs.Passed.{IsPassed, passed_none, passed_more, passed_all, within_more}
use Rattle.hold_timing.proofs.pass.run.Goals as goal

pub loop-pin-init : goal.loop-pin-init
loop-pin-init c = record {
  len = c.requires.len;
  within = AreWithin-weaker step_limit _ _ (omega arith) c.requires.within;
  passed = λ sites are. passed_none c.args.side c.args.problem.now.graph c.args.spans.now _ c.order-order.result.now _ c.requires.starts c.order-order.ensures;
}

pub coming_to-coming-requires-clause-within : goal.coming_to-coming-requires-clause-within
coming_to-coming-requires-clause-within c =
    let count = c.order-order.ensures.count in
    let few = c.requires.valid.pins in
    let below = c.loop-pin-test.true in
    subst (AreWithin sum_limit) (sym c.as_slice.ensures.value) (AreWithin-weaker _ sum_limit c.loop-pin.arrivals.items (omega arith) c.loop-pin.invariant.within)

pub loop-pin-preserved : goal.loop-pin-preserved
loop-pin-preserved c =
    let none : PinNo = record { 0 = 0 } in
    let at = slice_get-get_or c.order-order.result.now c.loop-pin.pin-index (record { 0 = 0 }) c.loop-pin-test.true in
    let below : (get_or c.order-order.result.now c.loop-pin.pin-index (record { 0 = 0 })).0 < length c.loop-pin.arrivals.items =
    (let lt = c.order-order.ensures.below c.loop-pin.pin-index (record { 0 = 0 }) c.loop-pin-test.true in
    let len = c.loop-pin.invariant.len in omega arith) in
    let own : c.index.result.now ≡ get_or c.loop-pin.arrivals.items (get_or c.order-order.result.now c.loop-pin.pin-index (record { 0 = 0 })).0 None =
    c.index.ensures ∙ sym (get_or_default c.loop-pin.arrivals.items (get_or c.order-order.result.now c.loop-pin.pin-index (record { 0 = 0 })).0 None _ below) in
    let is : c.worse.result ≡ worse c.args.side (get_or c.loop-pin.arrivals.items (get_or c.order-order.result.now c.loop-pin.pin-index (record { 0 = 0 })).0 None) c.coming_to-coming.result =
    c.worse.ensures ∙ ap (λ (o : Option ℤ). worse c.args.side o c.coming_to-coming.result) own in
    record {
      len = search rules;
      within = within_more c.args.side c.loop-pin.arrivals.items _ c.loop-pin.pin-index c.coming_to-coming.result c.worse.result below is c.loop-pin.invariant.within
          (c.coming_to-coming.ensures.within _ (subst (AreWithin _) (sym c.as_slice.ensures.value) c.loop-pin.invariant.within));
      passed = λ sites are.
          let comes = c.coming_to-coming.ensures.value sites are
          ∙ ap (λ (times : List (Option ℤ)). coming c.args.side c.args.problem.now.graph c.args.spans.now (buffers_of (length c.args.problem.now.costs) sites c.args.counts.now) times (get_or c.order-order.result.now c.loop-pin.pin-index (record { 0 = 0 }))) c.as_slice.ensures.value in
          subst (λ (o : Option ℤ). IsPassed c.args.side c.args.problem.now.graph c.args.spans.now (buffers_of (length c.args.problem.now.costs) sites c.args.counts.now) c.order-order.result.now (c.loop-pin.pin-index + 1)
          (set c.loop-pin.arrivals.items (get_or c.order-order.result.now c.loop-pin.pin-index (record { 0 = 0 })).0 o))
          (sym (is ∙ ap (worse c.args.side (get_or c.loop-pin.arrivals.items (get_or c.order-order.result.now c.loop-pin.pin-index (record { 0 = 0 })).0 None)) comes))
          (passed_more c.args.side c.args.problem.now.graph c.args.spans.now (buffers_of (length c.args.problem.now.costs) sites c.args.counts.now) c.order-order.result.now c.order-order.ensures
          c.requires.corner.arcs_each c.loop-pin.pin-index _ c.loop-pin.arrivals.items at below (c.loop-pin.invariant.passed sites are));
    }

pub returns-clause-within : goal.returns-clause-within
returns-clause-within c =
    let count = c.order-order.ensures.count in
    let few = c.requires.valid.pins in
    let end = c.loop-pin.auto.pin-index-end in
    AreWithin-weaker _ sum_limit c.loop-pin.arrivals.items (omega arith) c.loop-pin.invariant.within

pub returns-clause-right : goal.returns-clause-right
returns-clause-right c = λ sites are pin below.
    passed_all c.args.side c.args.problem.now.graph c.args.spans.now _ c.order-order.result.now c.order-order.ensures c.loop-pin.pin-index c.loop-pin.arrivals.items
    (let all = c.loop-pin-test.false in omega arith) (c.loop-pin.invariant.passed sites are) pin below
