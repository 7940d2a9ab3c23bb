use Rattle.std.proofs.Common.{◌≡◌, ◌+◌, ◌<◌, ◌∙◌, ap, sym, subst, refl, arith, rules, get_or, length}
use Rattle.std.specs.Prelude.{List, Some, slice_get}
use Rattle.std.proofs.lemmas.Option.{slice_get-get_or, slice_get_within}
use Rattle.hold_graph.specs.declared.problem.Spans.{Spans}
use Rattle.hold_timing.specs.Arrivals.{Times, AreTimesOf}
use Rattle.hold_timing.proofs.AtCorners.{at_corner, turn_done, slice_get-set_other}
use Rattle.hold_timing.proofs.corners.refresh_side.Goals as goal

pub refresh-requires-clause-asked : goal.refresh-requires-clause-asked
refresh-requires-clause-asked c =
    let below : c.loop-corner.corner < length c.loop-corner.all.items = (let each = c.loop-corner.invariant.each in let lt = c.loop-corner-test.true in
    let len = ap (λ (xs : List Spans). length xs) c.as_slice-spans-items.ensures in omega (arith, each, lt, len)) in
    c.requires.room.asked c.loop-corner.corner c.index_mut.result.now c.spans-item.result
    (sym (c.loop-corner.invariant.left c.loop-corner.corner (omega arith)) ∙ slice_get-get_or c.loop-corner.all.items c.loop-corner.corner _ below
    ∙ ap (λ (t : Times). Some t) (sym c.index_mut.ensures.value))
    (subst (λ (xs : List Spans). slice_get xs c.loop-corner.corner ≡ Some c.spans-item.result) c.as_slice-spans-items.ensures
    (slice_get-get_or c.as_slice-spans-items.result.now c.loop-corner.corner c.spans-item.result c.loop-corner-test.true ∙ ap (λ (s : Spans). Some s) (sym c.spans-item.is)))

pub loop-corner-preserved : goal.loop-corner-preserved
loop-corner-preserved c =
    let below : c.loop-corner.corner < length c.loop-corner.all.items = (let each = c.loop-corner.invariant.each in let lt = c.loop-corner-test.true in
    let len = ap (λ (xs : List Spans). length xs) c.as_slice-spans-items.ensures in omega (arith, each, lt, len)) in
    record {
      each = search rules;
      done = turn_done c.args.problem.now c.args.counts.now c.args.side c.loop-corner.corner c.loop-corner.all.items c.refresh.new.self below c.loop-corner.invariant.done
          (at_corner c.args.problem.now c.args.counts.now c.args.counts.now c.loop-corner.corner c.as_slice-spans-items.result.now c.spans-item.result
          (λ spans buffers. AreTimesOf c.args.side c.args.problem.now spans buffers c.refresh.new.self) c.as_slice-spans-items.ensures c.spans-item.is refl c.refresh.ensures);
      left = λ corner le.
          slice_get-set_other c.loop-corner.all.items c.loop-corner.corner corner c.refresh.new.self (λ e. omega (arith, le, e)) ∙ c.loop-corner.invariant.left corner (omega (arith, le));
    }

pub returns : goal.returns
returns c = record {
  each = c.loop-corner.invariant.each;
  right = λ corner times at.
      let each = c.loop-corner.invariant.each in
      let all = c.loop-corner-test.false in
      let len = ap (λ (xs : List Spans). length xs) c.as_slice-spans-items.ensures in
      let lt = slice_get_within c.loop-corner.all.items corner times at in
      c.loop-corner.invariant.done corner times (omega (arith, each, all, len, lt)) at;
}
