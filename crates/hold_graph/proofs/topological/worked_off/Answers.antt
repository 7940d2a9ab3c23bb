use Rattle.std.proofs.Common.{◌≡◌, ℕ, ◌<◌, ◌==◌, List, [], length, get_or, ap, ◌∙◌, refl, arith}
use Rattle.std.specs.Prelude.{Some, slice_get}
use Rattle.std.proofs.lemmas.List.Sums.{count_by-le-length}
use Rattle.std.proofs.lemmas.Option.{slice_get_read}
use Rattle.hold_base.specs.declared.number.PinNo.{PinNo}
use Rattle.hold_graph.specs.inner.Waiting.{ends_among}
use Rattle.hold_graph.proofs.WorkedOff.{worked_off-none, worked_off-more, next-below, next-enough}
use Rattle.hold_graph.proofs.ArcRows.{row_from-below, row_from-ends}
use Rattle.hold_graph.proofs.topological.worked_off.Goals as goal

pub loop-done-init : goal.loop-done-init
loop-done-init c = record {
  each = c.requires.each;
  off = worked_off-none c.args.arcs.now c.args.counts.now.items c.in_ok-order.order.items (rw c.requires.each c.requires.to)
      (λ pin lt. c.requires.counted pin (rw c.requires.each at lt)) (rw (← c.as_slice.ensures.value) c.in_ok-order.ensures);
}

pub at-requires : goal.at-requires
at-requires c =
    let at : slice_get c.loop-done.order.items c.loop-done.done ≡ Some c.index.result.now =
    slice_get_read c.loop-done.order.items (length c.loop-done.order.items) c.loop-done.done c.index.result.now refl (omega arith) c.index.ensures in
    let below = next-below c.args.arcs.now c.loop-done.done c.loop-done.counts.items c.loop-done.order.items c.index.result.now c.loop-done.invariant.off at in
    omega arith

pub work_off-requires-clause-places : goal.work_off-requires-clause-places
work_off-requires-clause-places c =
    let at : slice_get c.loop-done.order.items c.loop-done.done ≡ Some c.index.result.now =
    slice_get_read c.loop-done.order.items (length c.loop-done.order.items) c.loop-done.done c.index.result.now refl (omega arith) c.index.ensures in
    let below = next-below c.args.arcs.now c.loop-done.done c.loop-done.counts.items c.loop-done.order.items c.index.result.now c.loop-done.invariant.off at in
    rw c.at.ensures (row_from-below c.args.pins c.args.arcs.now c.args.outgoing.now c.index.result.now c.requires.outgoing (omega arith))

pub work_off-requires-clause-enough : goal.work_off-requires-clause-enough
work_off-requires-clause-enough c =
    let pin : PinNo = c.index.result.now in
    let at : slice_get c.loop-done.order.items c.loop-done.done ≡ Some pin =
    slice_get_read c.loop-done.order.items (length c.loop-done.order.items) c.loop-done.done pin refl (omega arith) c.index.ensures in
    let below = next-below c.args.arcs.now c.loop-done.done c.loop-done.counts.items c.loop-done.order.items pin c.loop-done.invariant.off at in
    λ p lt.
    let row = row_from-ends c.args.pins c.args.arcs.now c.args.outgoing.now pin p c.requires.outgoing (omega arith) in
    let enough = next-enough c.args.arcs.now c.loop-done.done c.loop-done.counts.items c.loop-done.order.items pin p c.loop-done.invariant.off at lt in
    let same : ends_among c.args.arcs.now c.at.result.now p ≡ ends_among c.args.arcs.now (get_or c.args.outgoing.now pin.0 []) p =
    ap (λ (places : List ℕ). ends_among c.args.arcs.now places p) c.at.ensures in
    omega arith

pub loop-done-preserved : goal.loop-done-preserved
loop-done-preserved c =
    let pin : PinNo = c.index.result.now in
    let at : slice_get c.loop-done.order.items c.loop-done.done ≡ Some pin =
    slice_get_read c.loop-done.order.items (length c.loop-done.order.items) c.loop-done.done pin refl (omega arith) c.index.ensures in
    let below = next-below c.args.arcs.now c.loop-done.done c.loop-done.counts.items c.loop-done.order.items pin c.loop-done.invariant.off at in
    record {
      each = c.work_off.ensures.each ∙ c.loop-done.invariant.each;
      off = worked_off-more c.args.arcs.now c.loop-done.done c.loop-done.counts.items c.work_off.new.counts.items c.loop-done.order.items c.work_off.new.order.items pin
          (rw c.loop-done.invariant.each c.requires.to) c.loop-done.invariant.off at c.work_off.ensures.each
          (λ p lt.
          let row = row_from-ends c.args.pins c.args.arcs.now c.args.outgoing.now pin p c.requires.outgoing (omega arith) in
          let taken = c.in_ok-work_off.ensures.taken p lt in
          let same : ends_among c.args.arcs.now c.at.result.now p ≡ ends_among c.args.arcs.now (get_or c.args.outgoing.now pin.0 []) p =
          ap (λ (places : List ℕ). ends_among c.args.arcs.now places p) c.at.ensures in
          omega arith)
          c.in_ok-work_off.ensures.ready c.in_ok-work_off.ensures.behind;
    }

pub loop-done-smaller : goal.loop-done-smaller
loop-done-smaller c =
    let within : c.loop-done.done < length c.loop-done.order.items = omega arith in
    let count = c.loop-done.invariant.off.ready.count in
    let most = count_by-le-length (λ (n : ℕ). n == 0) c.loop-done.counts.items in
    let each = c.loop-done.invariant.each in
    omega arith
