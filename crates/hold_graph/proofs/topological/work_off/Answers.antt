use Rattle.std.proofs.Common.{◌≡◌, ℕ, ◌+◌, ◌<◌, List, length, take, get_or, ap, sym, ◌∙◌, subst, refl, arith, false}
use Rattle.std.proofs.lemmas.List.{length-set}
use Rattle.hold_graph.specs.inner.Waiting.{arc_at, ends_among}
use Rattle.hold_graph.proofs.Waiting.{ends_among-left, ends_among-taken, goes_on-none, goes_on-more}
use Rattle.hold_graph.proofs.topological.work_off.Goals as goal

pub take_off-requires-clause-left : goal.take_off-requires-clause-left
take_off-requires-clause-left c =
    let place : ℕ = get_or c.args.leaving.now c.loop-place.place-index 0 in
    let to : ℕ = (arc_at c.args.arcs.now place).to.0 in
    let below : to < length c.args.counts.now.items =
    c.requires.to place (record { from = record { 0 = 0 }; to = record { 0 = 0 }; wire = false }) (c.requires.places c.loop-place.place-index 0 c.loop-place-test.true) in
    ends_among-left c.args.arcs.now c.args.leaving.now c.loop-place.place-index to (get_or c.loop-place.counts.items to 0) (get_or c.args.counts.now.items to 0)
    c.loop-place-test.true refl (c.loop-place.invariant.taken to below) (c.requires.enough to below)

pub loop-place-init : goal.loop-place-init
loop-place-init c = record {
  each = refl;
  taken = λ pin lt. omega arith;
  ready = c.requires.ready;
  behind = goes_on-none c.args.order.now.items;
}

pub loop-place-preserved : goal.loop-place-preserved
loop-place-preserved c =
    let place : ℕ = get_or c.args.leaving.now c.loop-place.place-index 0 in
    let to : ℕ = (arc_at c.args.arcs.now place).to.0 in
    let below : to < length c.args.counts.now.items =
    c.requires.to place (record { from = record { 0 = 0 }; to = record { 0 = 0 }; wire = false }) (c.requires.places c.loop-place.place-index 0 c.loop-place-test.true) in
    let there : to < length c.loop-place.counts.items = subst (λ (n : ℕ). to < n) (sym c.loop-place.invariant.each) below in
    let left : 0 < get_or c.loop-place.counts.items to 0 =
    ends_among-left c.args.arcs.now c.args.leaving.now c.loop-place.place-index to (get_or c.loop-place.counts.items to 0) (get_or c.args.counts.now.items to 0)
    c.loop-place-test.true refl (c.loop-place.invariant.taken to below) (c.requires.enough to below) in
    record {
      each = ap length c.take_off.ensures.less ∙ length-set _ _ _ ∙ c.loop-place.invariant.each;
      taken = λ pin lt. subst (λ (xs : List ℕ). get_or xs pin 0 + ends_among c.args.arcs.now (take (c.loop-place.place-index + 1) c.args.leaving.now) pin ≡ get_or c.args.counts.now.items pin 0)
          (sym c.take_off.ensures.less)
          (ends_among-taken c.args.arcs.now c.args.leaving.now c.loop-place.counts.items c.loop-place.place-index to pin (get_or c.args.counts.now.items pin 0)
          c.loop-place-test.true refl there left (c.loop-place.invariant.taken pin lt));
      ready = c.in_ok-take_off.ensures.ready;
      behind = goes_on-more c.args.order.now.items c.loop-place.order.items c.take_off.new.order.items c.loop-place.invariant.behind c.in_ok-take_off.ensures.behind;
    }
