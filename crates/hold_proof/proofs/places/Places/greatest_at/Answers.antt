use Rattle.std.proofs.Common.{◌+◌, ◌<◌, length, get_or, drop, refl, rules, sym, ap, ◌∙◌, subst, None, pos, FitsSigned, arith}
use Rattle.std.proofs.lemmas.Int.{to_z-of_z}
use Rattle.std.proofs.lemmas.List.{get_or_read}
use mir.Syntax.{w64}
use Rattle.hold_graph.specs.Sums.{items_at}
use Rattle.hold_proof.specs.inner.Places.{greater, greatest_after, time_or_none, links_left}
use Rattle.hold_proof.proofs.PlaceLemmas.{next-is, linked-on, links-fewer, greatest-end, time_or_none-greatest}
use Rattle.hold_proof.proofs.places.Places.greatest_at.Goals as goal

pub bounds-times-place : goal.bounds-times-place
bounds-times-place c =
    let next = next-is c.args.self.now.listed.items c.loop-at.invariant.0 c.args.times.now c.args.pin c.in-Some.place (pos 0)
    (sym (c.loop-at.invariant.1) ∙ c.in-Some.is) c.requires.each in
    let there = next.there in
    omega (arith, there, c.requires.each)

pub offset_bounds-times-place : goal.offset_bounds-times-place
offset_bounds-times-place c =
    let next = next-is c.args.self.now.listed.items c.loop-at.invariant.0 c.args.times.now c.args.pin c.in-Some.place (pos 0)
    (sym (c.loop-at.invariant.1) ∙ c.in-Some.is) c.requires.each in
    let there = next.there in
    let within : c.in-Some.place < length c.args.times.now = omega (arith, there, c.requires.each) in
    search rules

pub index-at-requires-in-Some : goal.index-at-requires-in-Some
index-at-requires-in-Some c =
    let next = next-is c.args.self.now.listed.items c.loop-at.invariant.0 c.args.times.now c.args.pin c.in-Some.place (pos 0)
    (sym (c.loop-at.invariant.1) ∙ c.in-Some.is) c.requires.each in
    let there = next.there in
    let each = c.requires.places.next_each in
    search (rules, arith, there, each)

pub loop-at-init : goal.loop-at-init
loop-at-init c = (0, get_or_read c.args.self.now.first.items c.args.pin.0 c.index-at.result.now c.requires.there c.index-at.ensures None ∙ c.requires.places.firsts c.args.pin c.requires.there, refl)

pub loop-at-smaller : goal.loop-at-smaller
loop-at-smaller c =
    let next = next-is c.args.self.now.listed.items c.loop-at.invariant.0 c.args.times.now c.args.pin c.in-Some.place (pos 0)
    (sym (c.loop-at.invariant.1) ∙ c.in-Some.is) c.requires.each in
    let on = linked-on _ _ _ _ _ _ _ _ _ c.requires.places next in
    let there = next.there in
    let each = c.requires.places.next_each in
    let read = get_or_read c.args.self.now.next.items c.in-Some.place c.index-at-in-Some.result.now (omega (arith, there, each)) c.index-at-in-Some.ensures None in
    let fewer = links-fewer c.args.self.now.listed.items c.in-Some.place c.args.pin c.index-at-in-Some.result.now there (read ∙ on.then) in
    subst (λ at. links_left (length c.args.self.now.listed.items) c.index-at-in-Some.result.now < links_left (length c.args.self.now.listed.items) at) (sym c.in-Some.is) fewer

pub loop-at-preserved : goal.loop-at-preserved
loop-at-preserved c =
    let next = next-is c.args.self.now.listed.items c.loop-at.invariant.0 c.args.times.now c.args.pin c.in-Some.place (pos 0)
    (sym (c.loop-at.invariant.1) ∙ c.in-Some.is) c.requires.each in
    let on = linked-on _ _ _ _ _ _ _ _ _ c.requires.places next in
    let there = next.there in
    let each = c.requires.places.next_each in
    let read = get_or_read c.args.self.now.next.items c.in-Some.place c.index-at-in-Some.result.now (omega (arith, there, each)) c.index-at-in-Some.ensures None in
    let fits : FitsSigned w64 (get_or c.args.times.now c.in-Some.place (pos 0)) = search rules in (
      c.in-Some.place + 1,
      read ∙ on.then,
      ap (λ h. greatest_after h (items_at (drop (c.in-Some.place + 1) c.args.self.now.listed.items) (drop (c.in-Some.place + 1) c.args.times.now) c.args.pin)) c.greater-greatest.ensures
          ∙ ap (λ t. greatest_after (greater c.loop-at.greatest t) (items_at (drop (c.in-Some.place + 1) c.args.self.now.listed.items) (drop (c.in-Some.place + 1) c.args.times.now) c.args.pin))
          (to_z-of_z w64 (get_or c.args.times.now c.in-Some.place (pos 0)) fits)
          ∙ sym (ap (greatest_after c.loop-at.greatest) next.parts) ∙ c.loop-at.invariant.2,
    )

pub returns : goal.returns
returns c =
    let fits : FitsSigned w64 c.time_or_nothing.result = search rules in
    to_z-of_z w64 c.time_or_nothing.result fits
    ∙ c.time_or_nothing.ensures
    ∙ ap time_or_none (sym (greatest-end c.args.self.now.listed.items c.loop-at.invariant.0 c.args.times.now c.args.pin c.loop-at.greatest c.loop-at.at (c.loop-at.invariant.1) c.in_default.is) ∙ c.loop-at.invariant.2)
    ∙ time_or_none-greatest (items_at c.args.self.now.listed.items c.args.times.now c.args.pin)
