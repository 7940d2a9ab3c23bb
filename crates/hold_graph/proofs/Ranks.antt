-- Places in a topological order as ranks.
use Rattle.std.proofs.Common.{◌≡◌, ℕ, ◌+◌, ◌<◌, ◌≤◌, List, [], ◌∷◌, length, set, get_or, refl, ap, sym, ◌∙◌, subst, ◌⊎◌, inl, inr, arith}
use Rattle.std.specs.Prelude.{Some, slice_get, slice_index, Contains, All}
use Rattle.std.specs.List.Sorted.{IsNonDecreasingBy}
use Rattle.std.proofs.lemmas.Bool.{cases_eq}
use Rattle.std.proofs.lemmas.List.{get_or-set_same, get_or-set_other}
use Rattle.std.proofs.lemmas.List.Elements.{All-contains, Contains-get_or}
use Rattle.std.proofs.lemmas.Option.{slice_get-get_or, slice_get_within, same_Some}
use Rattle.hold_base.specs.declared.number.PinNo.{PinNo}
use Rattle.hold_graph.specs.declared.graph.Arc.{Arc}
use Rattle.hold_graph.specs.declared.graph.Parts.{Parts}
use Rattle.hold_graph.specs.declared.line.Ordered.{Ordered}
use Rattle.hold_graph.specs.Graph.{NamesItsPins, Rises}
use Rattle.hold_graph.specs.Path.{HasArc, EachNext, last_pin}
use Rattle.hold_graph.specs.Cycles.{AreDifferent, IsCycle, GoesRound, IsTopological}
use Rattle.hold_graph.specs.inner.Order.{AreRanks, IsInto, IsOrder}
use Rattle.hold_graph.specs.inner.Ordered.{IsOrderedOf}
use Rattle.hold_graph.proofs.Acyclic.{stands_before}
use Rattle.hold_graph.proofs.Ahead.{stands}
use Rattle.hold_graph.proofs.Places.{same_pin}

-- the ranks of the first n pins of the order are set
pub record AreRanksUpTo (order : List PinNo) (n : ℕ) (ranks : List ℕ) : Type 0 where
  pub at : (k : ℕ) (pin : PinNo) → k < n → slice_get order k ≡ Some pin → get_or ranks pin.0 0 ≡ k

pub ranks-more : (order : List PinNo) (n : ℕ) (new : PinNo) (ranks : List ℕ) → AreDifferent order → slice_get order n ≡ Some new → new.0 < length ranks →
    AreRanksUpTo order n ranks → AreRanksUpTo order (n + 1) (set ranks new.0 n)
ranks-more order n new ranks different at below h = record { at = λ k pin lt is. by_case k pin lt is (cases_eq pin.0 new.0) }
  where
    by_case : (k : ℕ) (pin : PinNo) → k < n + 1 → slice_get order k ≡ Some pin → ((pin.0 ≡ new.0) ⊎ (pin.0 ≡ new.0 → ⊥)) → get_or (set ranks new.0 n) pin.0 0 ≡ k
    by_case k pin lt is (inl same) =
        let here : pin ≡ new = same_pin pin new same in
        let place : k ≡ n = different k n new (is ∙ ap (λ (p : PinNo). Some p) here) at in
        ap (λ (p : PinNo). get_or (set ranks new.0 n) p.0 0) here ∙ get_or-set_same ranks new.0 n 0 below ∙ sym place
    by_case k pin lt is (inr differs) =
        by_place (cases_eq k n)
      where
        by_place : ((k ≡ n) ⊎ (k ≡ n → ⊥)) → get_or (set ranks new.0 n) pin.0 0 ≡ k
        by_place (inl place) = absurd (differs (ap (λ (p : PinNo). p.0) (same_Some pin new (sym is ∙ ap (slice_get order) place ∙ at))))
        by_place (inr before) = get_or-set_other ranks new.0 pin.0 n 0 differs ∙ h.at k pin (omega arith) is

pub ranks-all : (order : List PinNo) (n : ℕ) (ranks : List ℕ) → length order ≤ n → AreRanksUpTo order n ranks → AreRanks order ranks
ranks-all order n ranks all h = record { at = λ k pin is. h.at k pin (let lt = slice_get_within order k pin is in omega arith) is }

pub ranks-rise : (pins : ℕ) (arcs : List Arc) (order : List PinNo) (ranks : List ℕ) → All (λ arc. arc.to.0 < pins) arcs → IsTopological pins arcs order → AreRanks order ranks → Rises arcs ranks
ranks-rise pins arcs order ranks to h are = λ i d below.
    let arc : Arc = get_or arcs i d in
    let end = stands pins arcs order h arc.to (to i d below) in
    let step : HasArc arcs arc.from arc.to = record { arc = arc; listed = Contains-get_or arcs i d below; from = refl; to = refl } in
    let begin = stands_before pins arcs order h arc.from arc.to end.0 step end.1 in
    let high : slice_index ranks arc.to.0 ≡ end.0 = are.at end.0 arc.to end.1 in
    let low : slice_index ranks arc.from.0 ≡ begin.0 = are.at begin.0 arc.from begin.2 in
    let lt = begin.1 in
    omega arith

pub order-ranked : (pins : ℕ) (arcs : List Arc) (order : List PinNo) (ranks : List ℕ) → IsTopological pins arcs order → AreRanks order ranks → IsOrder pins ranks order
order-ranked pins arcs order ranks h are = record {
  count = h.count;
  below = h.below;
  each = h.each;
  rising = λ i j d le lt.
      let low : slice_index ranks (get_or order i d).0 ≡ i = are.at i (get_or order i d) (slice_get-get_or order i d (omega arith)) in
      let high : slice_index ranks (get_or order j d).0 ≡ j = are.at j (get_or order j d) (slice_get-get_or order j d lt) in
      omega arith;
}

-- where ranks rise along each arc, no list of pins is a cycle
rises-step : (arcs : List Arc) (ranks : List ℕ) → Rises arcs ranks → (a b : PinNo) → HasArc arcs a b → slice_index ranks a.0 < slice_index ranks b.0
rises-step arcs ranks rises a b has =
    let up = All-contains (λ (arc : Arc). slice_index ranks arc.from.0 < slice_index ranks arc.to.0) arcs has.arc rises has.listed in
    let from : slice_index ranks has.arc.from.0 ≡ slice_index ranks a.0 = ap (λ (p : PinNo). slice_index ranks p.0) has.from in
    let to : slice_index ranks has.arc.to.0 ≡ slice_index ranks b.0 = ap (λ (p : PinNo). slice_index ranks p.0) has.to in
    omega arith

rises-walk : (arcs : List Arc) (ranks : List ℕ) → Rises arcs ranks → (a : PinNo) (steps : List PinNo) → EachNext arcs a steps → slice_index ranks a.0 ≤ slice_index ranks (last_pin a steps).0
rises-walk arcs ranks rises a [] next = omega arith
rises-walk arcs ranks rises a (b ∷ rest) next =
    let step = rises-step arcs ranks rises a b next.0 in let more = rises-walk arcs ranks rises b rest next.1 in omega arith

pub rises-no_cycle : (arcs : List Arc) (ranks : List ℕ) → Rises arcs ranks → (pins : List PinNo) → IsCycle arcs pins → ⊥
rises-no_cycle arcs ranks rises pins cycle = no_round pins cycle.round
  where
    no_round : (xs : List PinNo) → GoesRound arcs xs → ⊥
    no_round [] round = round
    no_round (a ∷ rest) round =
        let along = rises-walk arcs ranks rises a rest round.0 in let back = rises-step arcs ranks rises (last_pin a rest) a round.1 in absurd (omega arith)

-- what the pass over a graph reads belongs to it
pub line-ordered : (line : Ordered) (parts : Parts) → line.pins ≡ parts.pins → line.arcs.now ≡ parts.arcs → NamesItsPins parts → IsTopological parts.pins parts.arcs line.order.now →
    length line.ranks.now ≡ line.pins → AreRanks line.order.now line.ranks.now → length line.into.now ≡ line.pins → IsInto line.arcs.now line.into.now → IsOrderedOf parts line
line-ordered line parts is_pins is_arcs numbers h ranks_each are into_each places = record {
  pins = is_pins;
  arcs = is_arcs;
  lined = record {
    from = subst (λ (n : ℕ). All (λ arc. arc.from.0 < n) line.arcs.now) (sym is_pins) (subst (λ (xs : List Arc). All (λ arc. arc.from.0 < parts.pins) xs) (sym is_arcs) numbers.from);
    to = subst (λ (n : ℕ). All (λ arc. arc.to.0 < n) line.arcs.now) (sym is_pins) (subst (λ (xs : List Arc). All (λ arc. arc.to.0 < parts.pins) xs) (sym is_arcs) numbers.to);
    rank_each = ranks_each;
    rising = subst (λ (xs : List Arc). Rises xs line.ranks.now) (sym is_arcs) (ranks-rise parts.pins parts.arcs line.order.now line.ranks.now numbers.to h are);
    in_order = subst (λ (n : ℕ). IsOrder n line.ranks.now line.order.now) (sym is_pins) (order-ranked parts.pins parts.arcs line.order.now line.ranks.now h are);
    into_each = into_each;
    places = places;
  };
}
