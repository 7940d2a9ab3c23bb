use Rattle.std.proofs.Common.{◌+◌, ◌<◌, length, drop, refl, rules, sym, ap, ◌∙◌, subst, None, pos, arith}
use Rattle.std.proofs.lemmas.List.{get_or_read}
use Rattle.hold_graph.specs.Sums.{items_at}
use Rattle.hold_proof.specs.inner.Places.{hull_after, hull_or_none, links_left}
use Rattle.hold_proof.proofs.PlaceLemmas.{next-is, linked-on, links-fewer, hull-end, hull_or_none-hull}
use Rattle.hold_proof.proofs.places.Places.hull_at.Goals as goal

pub bounds-spans-place : goal.bounds-spans-place
bounds-spans-place c =
    let next = next-is c.args.self.now.listed.items c.loop-at.invariant.0 c.args.spans.now c.args.pin c.in-Some.place (record { least = pos 0; greatest = pos 0 })
    (sym (c.loop-at.invariant.1) ∙ c.in-Some.is) c.requires.each in
    let there = next.there in
    omega (arith, there, c.requires.each)

pub offset_bounds-spans-place : goal.offset_bounds-spans-place
offset_bounds-spans-place c =
    let next = next-is c.args.self.now.listed.items c.loop-at.invariant.0 c.args.spans.now c.args.pin c.in-Some.place (record { least = pos 0; greatest = pos 0 })
    (sym (c.loop-at.invariant.1) ∙ c.in-Some.is) c.requires.each in
    let there = next.there in
    let within : c.in-Some.place < length c.args.spans.now = omega (arith, there, c.requires.each) in
    search rules

pub index-at-requires-in-Some : goal.index-at-requires-in-Some
index-at-requires-in-Some c =
    let next = next-is c.args.self.now.listed.items c.loop-at.invariant.0 c.args.spans.now c.args.pin c.in-Some.place (record { least = pos 0; greatest = pos 0 })
    (sym (c.loop-at.invariant.1) ∙ c.in-Some.is) c.requires.each in
    let there = next.there in
    let each = c.requires.places.next_each in
    search (rules, arith, there, each)

pub loop-at-init : goal.loop-at-init
loop-at-init c = (0, get_or_read c.args.self.now.first.items c.args.pin.0 c.index-at.result.now c.requires.there c.index-at.ensures None ∙ c.requires.places.firsts c.args.pin c.requires.there, refl)

pub loop-at-smaller : goal.loop-at-smaller
loop-at-smaller c =
    let next = next-is c.args.self.now.listed.items c.loop-at.invariant.0 c.args.spans.now c.args.pin c.in-Some.place (record { least = pos 0; greatest = pos 0 })
    (sym (c.loop-at.invariant.1) ∙ c.in-Some.is) c.requires.each in
    let on = linked-on _ _ _ _ _ _ _ _ _ c.requires.places next in
    let there = next.there in
    let each = c.requires.places.next_each in
    let read = get_or_read c.args.self.now.next.items c.in-Some.place c.index-at-in-Some.result.now (omega (arith, there, each)) c.index-at-in-Some.ensures None in
    let fewer = links-fewer c.args.self.now.listed.items c.in-Some.place c.args.pin c.index-at-in-Some.result.now there (read ∙ on.then) in
    subst (λ at. links_left (length c.args.self.now.listed.items) c.index-at-in-Some.result.now < links_left (length c.args.self.now.listed.items) at) (sym c.in-Some.is) fewer

pub loop-at-preserved : goal.loop-at-preserved
loop-at-preserved c =
    let next = next-is c.args.self.now.listed.items c.loop-at.invariant.0 c.args.spans.now c.args.pin c.in-Some.place (record { least = pos 0; greatest = pos 0 })
    (sym (c.loop-at.invariant.1) ∙ c.in-Some.is) c.requires.each in
    let on = linked-on _ _ _ _ _ _ _ _ _ c.requires.places next in
    let there = next.there in
    let each = c.requires.places.next_each in
    let read = get_or_read c.args.self.now.next.items c.in-Some.place c.index-at-in-Some.result.now (omega (arith, there, each)) c.index-at-in-Some.ensures None in (
      c.in-Some.place + 1,
      read ∙ on.then,
      ap (λ h. hull_after h (items_at (drop (c.in-Some.place + 1) c.args.self.now.listed.items) (drop (c.in-Some.place + 1) c.args.spans.now) c.args.pin)) c.joined-hull.ensures
          ∙ sym (ap (hull_after c.loop-at.hull) next.parts) ∙ c.loop-at.invariant.2,
    )

pub returns : goal.returns
returns c =
    c.or_nothing.ensures
    ∙ ap hull_or_none (sym (hull-end c.args.self.now.listed.items c.loop-at.invariant.0 c.args.spans.now c.args.pin c.loop-at.hull c.loop-at.at (c.loop-at.invariant.1) c.in_default.is) ∙ c.loop-at.invariant.2)
    ∙ hull_or_none-hull (items_at c.args.self.now.listed.items c.args.spans.now c.args.pin)
