-- Where each arc runs forward in an order of the pins, no list of pins is a cycle: the places would fall round it for ever.
use Rattle.std.proofs.Common.{◌≡◌, ℕ, ◌<◌, ◌≤◌, List, [], ◌∷◌, length, take, refl, ap, sym, ◌∙◌, subst, arith}
use Rattle.std.specs.Prelude.{Some, slice_get, All, Contains}
use Rattle.std.proofs.lemmas.List.{length-take, get_or-take}
use Rattle.std.proofs.lemmas.List.Elements.{All-contains}
use Rattle.std.proofs.lemmas.Option.{slice_get_read}
use Rattle.hold_base.specs.declared.number.PinNo.{PinNo}
use Rattle.hold_graph.specs.declared.graph.Arc.{Arc}
use Rattle.hold_graph.specs.Path.{HasArc, EachNext, last_pin}
use Rattle.hold_graph.specs.Cycles.{IsCycle, GoesRound, IsTopological}

-- the pin stands in the order, at a place that is at most this one
pub record StandsBy (order : List PinNo) (most : ℕ) (pin : PinNo) : Type 0 where
  pub place : ℕ
  pub within : place ≤ most
  pub is : slice_get order place ≡ Some pin

stands_at : (order : List PinNo) (pin : PinNo) → Contains order pin → (k : ℕ) × (slice_get order k ≡ Some pin)
stands_at order pin listed = (listed.0, slice_get_read order (length order) listed.0 pin refl listed.1 (sym listed.2))

pub stands_in_front : (order : List PinNo) (k : ℕ) (pin : PinNo) → Contains (take k order) pin → (j : ℕ) × (j < k) × (slice_get order j ≡ Some pin)
stands_in_front order k pin listed =
    let len = length-take k order in
    let lt : listed.0 < k = let l = listed.1 in omega arith in
    let within : listed.0 < length order = let l = listed.1 in omega arith in
    (listed.0, lt, slice_get_read order (length order) listed.0 pin refl within (sym listed.2 ∙ get_or-take k order listed.0 pin lt))

-- the pin that an arc comes from stands before the pin that it ends at
pub stands_before : (pins : ℕ) (arcs : List Arc) (order : List PinNo) → IsTopological pins arcs order → (a b : PinNo) (k : ℕ) → HasArc arcs a b → slice_get order k ≡ Some b →
    (j : ℕ) × (j < k) × (slice_get order j ≡ Some a)
stands_before pins arcs order h a b k has at =
    let listed : Contains (take k order) has.arc.from = h.forward k has.arc (at ∙ ap (λ (p : PinNo). Some p) (sym has.to)) has.listed in
    stands_in_front order k a (subst (Contains (take k order)) has.from listed)

-- the first pin of a walk stands at most where the last one does
pub stands_along : (pins : ℕ) (arcs : List Arc) (order : List PinNo) → IsTopological pins arcs order → (a : PinNo) (steps : List PinNo) (k : ℕ) → EachNext arcs a steps → slice_get order k ≡ Some (last_pin a steps) →
    StandsBy order k a
stands_along pins arcs order h a [] k next at = record { place = k; within = omega arith; is = at }
stands_along pins arcs order h a (b ∷ rest) k next at =
    let there : StandsBy order k b = stands_along pins arcs order h b rest k next.1 at in
    let here = stands_before pins arcs order h a b there.place next.0 there.is in
    record { place = here.0; within = (let w = there.within in let l = here.1 in omega arith); is = here.2 }

no_round : (pins : ℕ) (arcs : List Arc) (order : List PinNo) → All (λ arc. arc.to.0 < pins) arcs → IsTopological pins arcs order → (cycle : List PinNo) → GoesRound arcs cycle → ⊥
no_round pins arcs order ends h [] round = round
no_round pins arcs order ends h (a ∷ rest) round =
    let below : round.1.arc.to.0 < pins = All-contains (λ (arc : Arc). arc.to.0 < pins) arcs round.1.arc ends round.1.listed in
    let below_a : a.0 < pins = subst (λ (p : PinNo). p.0 < pins) round.1.to below in
    let at = stands_at order a (h.each a.0 below_a) in
    let last = stands_before pins arcs order h (last_pin a rest) a at.0 round.1 at.1 in
    let first : StandsBy order last.0 a = stands_along pins arcs order h a rest last.0 round.0 last.2 in
    let same : first.place ≡ at.0 = h.different first.place at.0 a first.is at.1 in
    let w = first.within in
    let l = last.1 in
    omega arith

pub no_cycle : (pins : ℕ) (arcs : List Arc) (order : List PinNo) → All (λ arc. arc.to.0 < pins) arcs → IsTopological pins arcs order → (cycle : List PinNo) → IsCycle arcs cycle → ⊥
no_cycle pins arcs order ends h cycle is = no_round pins arcs order ends h cycle is.round
