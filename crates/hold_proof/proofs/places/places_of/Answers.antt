use Rattle.std.proofs.Common.{◌≡◌, ◌+◌, ◌-◌, ◌<◌, length, get_or, set, sym, subst, None, Some, arith}
use Rattle.std.proofs.lemmas.List.{get_or_read}
use Rattle.std.proofs.lemmas.Option.{slice_get-get_or}
use Rattle.hold_proof.specs.inner.Places.{AreLinked}
use Rattle.hold_proof.proofs.PlaceLemmas.{linked-more}
use Rattle.hold_proof.proofs.places.places_of.Goals as goal

pub loop-place-preserved : goal.loop-place-preserved
loop-place-preserved c =
    let same : c.loop-place.place ≡ (c.loop-place.place - 1) + 1 = omega arith in
    let linked = subst (λ n. AreLinked c.args.pins c.args.listed.now n c.loop-place.first.items c.loop-place.next.items) same (c.loop-place.invariant.0) in
    let within : c.loop-place.place - 1 < length c.args.listed.now = let l = c.loop-place.invariant.1 in omega arith in
    let pin = get_or c.args.listed.now (c.loop-place.place - 1) (record { 0 = 0 }) in
    let below : pin.0 < c.args.pins = c.requires (c.loop-place.place - 1) (record { 0 = 0 }) within in
    let each = linked.first_each in
    let read = get_or_read c.loop-place.first.items pin.0 c.index.result.now (omega (arith, each, below)) c.index.ensures None in
    let next = linked-more c.args.pins c.args.listed.now (c.loop-place.place - 1) pin c.loop-place.first.items c.loop-place.next.items linked
    (slice_get-get_or c.args.listed.now (c.loop-place.place - 1) (record { 0 = 0 }) within) below in
    (subst (λ n. AreLinked c.args.pins c.args.listed.now (c.loop-place.place - 1) (set c.loop-place.first.items pin.0 (Some (c.loop-place.place - 1))) (set c.loop-place.next.items (c.loop-place.place - 1) n)) (sym read) next, omega arith)
