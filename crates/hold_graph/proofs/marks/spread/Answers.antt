use Rattle.std.proofs.Common.{◌≡◌, ◌<◌, ◌+◌, ◌||◌, [], set, ◌∙◌, ap, sym, subst, arith, rules, Bool, get_or, length, true, false}
use Rattle.std.specs.Prelude.{List}
use Rattle.std.proofs.lemmas.Bool.{or_left}
use Rattle.std.proofs.lemmas.Option.{slice_get-get_or}
use Rattle.hold_base.specs.declared.number.PinNo.{PinNo}
use Rattle.hold_graph.specs.inner.Marks.{any_marked}
use Rattle.hold_graph.proofs.Spread.{AreMarkedUpTo, marked-more, marked-all}
use Rattle.hold_graph.proofs.marks.spread.Goals as goal
use Rattle.hold_graph.proofs.marks.spread.Goals.{then-seeds-at, else-seeds-at}

pub loop-pin-preserved : goal.loop-pin-preserved
loop-pin-preserved c =
    let pin : PinNo = get_or c.args.order.now c.loop-pin.pin-index (record { 0 = 0 }) in
    let made : c.if-seeds-at.value ≡ (get_or c.args.seeds.now pin.0 false || any_marked c.loop-pin.marks.items c.args.far c.args.arcs.now (get_or c.args.rows.now pin.0 [])) =
    elim c.if-seeds-at.branch [
      | then-seeds-at w ↦ w.value-is ∙ w.if-seeds-at.true ∙ sym (or_left _ _ w.if-seeds-at.true)
      | else-seeds-at w ↦
          w.value-is ∙ w.any_marked.ensures
          ∙ ap (λ (marks : List Bool). any_marked marks c.args.far c.args.arcs.now w.at.result.now) w.as_slice.ensures.value
          ∙ ap (any_marked c.loop-pin.marks.items c.args.far c.args.arcs.now) w.at.ensures
          ∙ ap (λ b. b || any_marked c.loop-pin.marks.items c.args.far c.args.arcs.now (get_or c.args.rows.now pin.0 [])) (sym w.if-seeds-at.false)
    ] in
    let below : pin.0 < length c.loop-pin.marks.items = (let lt = c.requires.order c.loop-pin.pin-index (record { 0 = 0 }) c.loop-pin-test.true in let count = c.loop-pin.invariant.count in omega arith) in
    record {
      count = search rules;
      marked = subst (λ (mark : Bool). AreMarkedUpTo c.args.far c.args.arcs.now c.args.rows.now c.args.seeds.now c.args.order.now (c.loop-pin.pin-index + 1) (set c.loop-pin.marks.items pin.0 mark)) (sym made)
          (marked-more c.args.far c.args.arcs.now c.args.rows.now c.args.seeds.now c.args.order.now c.loop-pin.marks.items c.loop-pin.pin-index pin c.requires.different c.requires.ahead
          (slice_get-get_or c.args.order.now c.loop-pin.pin-index (record { 0 = 0 }) c.loop-pin-test.true) below c.loop-pin.invariant.marked);
    }

pub returns : goal.returns
returns c = record {
  count = c.loop-pin.invariant.count;
  each = marked-all c.args.far c.args.arcs.now c.args.rows.now c.args.seeds.now c.args.order.now c.loop-pin.pin-index c.loop-pin.marks.items c.loop-pin-test.false c.loop-pin.invariant.marked;
}
