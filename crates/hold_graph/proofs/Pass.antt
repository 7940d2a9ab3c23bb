-- One turn of the pass: a pin's best is made from that of a pin of lower rank, and the pins of the turns before keep theirs.
use Rattle.std.proofs.Common.{◌≡◌, ℕ, ◌+◌, ◌*◌, ◌<◌, ◌≤◌, List, length, refl, ap, sym, ◌∙◌, arith, get_or, set, ◌⊎◌, inl, inr, subst}
use Rattle.std.specs.Prelude.{Option, Some, None, ℤ, pos, ◌+ℤ◌, All, slice_get, slice_index}
use Rattle.std.specs.Int.{int_min}
use Rattle.std.proofs.lemmas.Int.{ints, clamps}
use Rattle.std.proofs.lemmas.Bool.{cases_eq}
use Rattle.std.proofs.lemmas.List.{get_or-set_same, get_or-set_other}
use Rattle.std.proofs.lemmas.Option.{slice_get-get_or, slice_get_read, slice_get_within, get_or_from_slice_get, same_Some, none-some}
use Rattle.hold_base.specs.declared.number.PinNo.{PinNo}
use Rattle.hold_graph.specs.declared.graph.Arc.{Arc}
use Rattle.hold_graph.specs.Graph.{Rises}
use Rattle.hold_graph.specs.inner.Order.{IsInto, IsOrder}
use Rattle.hold_graph.specs.Problem.{IsWithin}
use Rattle.hold_base.specs.Limits.{launch_limit}
use Rattle.hold_graph.specs.inner.Arrival.{lesser, extended, origin, offer, AreWithin, IsRight}

-- the pins of the first n turns are right
pub record AreRightUpTo (arcs : List Arc) (steps : List ℤ) (starts : List (Option ℤ)) (into : List (Option ℕ)) (order : List PinNo) (n : ℕ) (best : List (Option ℤ)) : Type 0 where
  pub at : (k : ℕ) (q : PinNo) → k < n → slice_get order k ≡ Some q → IsRight arcs steps starts into best q.0

-- what the pass rests on
pub record IsPassOver (pins : ℕ) (arcs : List Arc) (ranks : List ℕ) (order : List PinNo) (into : List (Option ℕ)) : Type 0 where
  pub rising : Rises arcs ranks
  pub in_order : IsOrder pins ranks order
  pub places : IsInto arcs into

offer-set : (arcs : List Arc) (steps : List ℤ) (best : List (Option ℤ)) (p : ℕ) (v : Option ℤ) (place : Option ℕ) →
    ((i : ℕ) → place ≡ Some i → origin (slice_get arcs i) ≡ p → ⊥) → offer arcs steps (set best p v) place ≡ offer arcs steps best place
offer-set arcs steps best p v None differs = refl
offer-set arcs steps best p v (Some i) differs =
    ap (λ (o : Option ℤ). extended o (get_or steps i (pos 0))) (get_or-set_other best p (origin (slice_get arcs i)) v None (differs i refl))

-- the arc that ends at a pin of no greater rank begins elsewhere
origin_differs : (pins : ℕ) (arcs : List Arc) (ranks : List ℕ) (order : List PinNo) (into : List (Option ℕ)) → IsPassOver pins arcs ranks order into →
    (p q : ℕ) → slice_index ranks q ≤ slice_index ranks p → (i : ℕ) → get_or into q None ≡ Some i → origin (slice_get arcs i) ≡ p → ⊥
origin_differs pins arcs ranks order into h p q low i at same =
    let ends = h.places.only q i at in
    let begins : origin (slice_get arcs i) ≡ ends.0.from.0 = ap origin ends.1 in
    let below : i < length arcs = slice_get_within arcs i ends.0 ends.1 in
    let here : get_or arcs i ends.0 ≡ ends.0 = get_or_from_slice_get arcs i ends.0 ends.0 ends.1 in
    let up : slice_index ranks (get_or arcs i ends.0).from.0 < slice_index ranks (get_or arcs i ends.0).to.0 = h.rising i ends.0 below in
    let from : slice_index ranks (get_or arcs i ends.0).from.0 ≡ slice_index ranks p = ap (λ (x : Arc). slice_index ranks x.from.0) here ∙ ap (slice_index ranks) (sym begins ∙ same) in
    let to : slice_index ranks (get_or arcs i ends.0).to.0 ≡ slice_index ranks q = ap (λ (x : Arc). slice_index ranks x.to.0) here ∙ ap (slice_index ranks) ends.2 in
    omega arith

rank_low : (pins : ℕ) (arcs : List Arc) (ranks : List ℕ) (order : List PinNo) (into : List (Option ℕ)) → IsPassOver pins arcs ranks order into →
    (k n : ℕ) (q p : PinNo) → k ≤ n → slice_get order k ≡ Some q → slice_get order n ≡ Some p → slice_index ranks q.0 ≤ slice_index ranks p.0
rank_low pins arcs ranks order into h k n q p le at_k at_n =
    let low : slice_index ranks (get_or order k q).0 ≤ slice_index ranks (get_or order n q).0 = h.in_order.rising k n q le (slice_get_within order n p at_n) in
    let e : slice_index ranks (get_or order k q).0 ≡ slice_index ranks q.0 = ap (λ (x : PinNo). slice_index ranks x.0) (get_or_from_slice_get order k q q at_k) in
    let f : slice_index ranks (get_or order n q).0 ≡ slice_index ranks p.0 = ap (λ (x : PinNo). slice_index ranks x.0) (get_or_from_slice_get order n p q at_n) in
    omega arith

offer_stays : (pins : ℕ) (arcs : List Arc) (ranks : List ℕ) (order : List PinNo) (into : List (Option ℕ)) → IsPassOver pins arcs ranks order into →
    (steps : List ℤ) (best : List (Option ℤ)) (p q : ℕ) (v : Option ℤ) → slice_index ranks q ≤ slice_index ranks p →
    offer arcs steps (set best p v) (get_or into q None) ≡ offer arcs steps best (get_or into q None)
offer_stays pins arcs ranks order into h steps best p q v low =
    offer-set arcs steps best p v (get_or into q None) (origin_differs pins arcs ranks order into h p q low)

pub right_more : (pins : ℕ) (arcs : List Arc) (ranks : List ℕ) (order : List PinNo) (into : List (Option ℕ)) → IsPassOver pins arcs ranks order into →
    (steps : List ℤ) (starts best : List (Option ℤ)) (n : ℕ) (p : PinNo) → slice_get order n ≡ Some p → p.0 < length best →
    AreRightUpTo arcs steps starts into order n best →
    AreRightUpTo arcs steps starts into order (n + 1) (set best p.0 (lesser (get_or starts p.0 None) (offer arcs steps best (get_or into p.0 None))))
right_more pins arcs ranks order into h steps starts best n p at below right = record { at = λ k q lt is. by_case k q lt is (cases_eq q.0 p.0) }
  where
    by_case : (k : ℕ) (q : PinNo) → k < n + 1 → slice_get order k ≡ Some q → ((q.0 ≡ p.0) ⊎ (q.0 ≡ p.0 → ⊥)) →
        IsRight arcs steps starts into (set best p.0 (lesser (get_or starts p.0 None) (offer arcs steps best (get_or into p.0 None)))) q.0
    by_case k q lt is (inl same) =
        let made : Option ℤ = lesser (get_or starts p.0 None) (offer arcs steps best (get_or into p.0 None)) in
        let here : IsRight arcs steps starts into (set best p.0 made) p.0 = record {
          is = get_or-set_same best p.0 made None below
              ∙ ap (lesser (get_or starts p.0 None)) (sym (offer_stays pins arcs ranks order into h steps best p.0 p.0 made (omega arith)));
        } in
        subst (λ (r : ℕ). IsRight arcs steps starts into (set best p.0 made) r) (sym same) here
    by_case k q lt is (inr differs) =
        let made : Option ℤ = lesser (get_or starts p.0 None) (offer arcs steps best (get_or into p.0 None)) in
        let apart : k ≡ n → ⊥ = λ e. differs (ap (λ (x : PinNo). x.0) (same_Some q p (sym is ∙ ap (slice_get order) e ∙ at))) in
        let earlier : k < n = omega (arith, apart) in
        record {
          is = get_or-set_other best p.0 q.0 made None differs
              ∙ (right.at k q earlier is).is
              ∙ ap (lesser (get_or starts q.0 None)) (sym (offer_stays pins arcs ranks order into h steps best p.0 q.0 made
              (rank_low pins arcs ranks order into h k n q p (omega arith) is at)));
        }

-- after the last turn every pin is right
pub right_all : (pins : ℕ) (arcs : List Arc) (ranks : List ℕ) (order : List PinNo) (into : List (Option ℕ)) → IsPassOver pins arcs ranks order into →
    (steps : List ℤ) (starts best : List (Option ℤ)) (n : ℕ) → length order ≤ n → AreRightUpTo arcs steps starts into order n best →
    (pin : ℕ) → pin < pins → IsRight arcs steps starts into best pin
right_all pins arcs ranks order into h steps starts best n all right pin below =
    let there = h.in_order.each pin below in
    right.at there.0 (record { 0 = pin }) (let lt = there.1 in omega arith)
    (slice_get_read order (length order) there.0 (record { 0 = pin }) refl there.1 (sym there.2))

-- bounds
pub within_weaker : (low high : ℕ) (time : ℤ) → low ≤ high → IsWithin low time → IsWithin high time
within_weaker low high time le h = record { low = omega (arith, ints); high = omega (arith, ints) }

pub within_add : (a b : ℕ) (x y : ℤ) → IsWithin a x → IsWithin b y → IsWithin (a + b) (x +ℤ y)
within_add a b x y h k = record { low = omega (arith, ints); high = omega (arith, ints) }

pub AreWithin-weaker : (low high : ℕ) (table : List (Option ℤ)) → low ≤ high → AreWithin low table → AreWithin high table
AreWithin-weaker low high table le h = λ pin time is. within_weaker low high time le (h pin time is)

abbrev pub OptionWithin : ℕ → Option ℤ → Type 0
OptionWithin limit o = (time : ℤ) → o ≡ Some time → IsWithin limit time

extended-within : (limit : ℕ) (o : Option ℤ) (w : ℤ) → OptionWithin limit o → IsWithin launch_limit w → OptionWithin (limit + launch_limit) (extended o w)
extended-within limit None w h k = λ time is. absurd (none-some time is)
extended-within limit (Some a) w h k = λ time is. subst (IsWithin (limit + launch_limit)) (same_Some (a +ℤ w) time is) (within_add limit launch_limit a w (h a refl) k)

pub lesser-within : (limit : ℕ) (a b : Option ℤ) → OptionWithin limit a → OptionWithin limit b → OptionWithin limit (lesser a b)
lesser-within limit None b h k = k
lesser-within limit (Some x) None h k = h
lesser-within limit (Some x) (Some y) h k = λ time is.
    let e : int_min x y ≡ time = same_Some (int_min x y) time is in
    let f : IsWithin limit x = h x refl in
    let g : IsWithin limit y = k y refl in
    record { low = omega (arith, ints, clamps); high = omega (arith, ints, clamps) }

pub offer-within : (arcs : List Arc) (steps : List ℤ) (best : List (Option ℤ)) (limit : ℕ) (place : Option ℕ) → ((k : ℕ) → place ≡ Some k → k < length steps) →
    All (IsWithin launch_limit) steps → AreWithin limit best → OptionWithin (limit + launch_limit) (offer arcs steps best place)
offer-within arcs steps best limit None below h k = λ time is. absurd (none-some time is)
offer-within arcs steps best limit (Some i) below h k =
    extended-within limit (get_or best (origin (slice_get arcs i)) None) (get_or steps i (pos 0)) (k (origin (slice_get arcs i))) (h i (pos 0) (below i refl))

pub within_more : (arcs : List Arc) (steps : List ℤ) (starts best : List (Option ℤ)) (n : ℕ) (p : ℕ) (place : Option ℕ) → ((k : ℕ) → place ≡ Some k → k < length steps) →
    All (IsWithin launch_limit) steps → AreWithin launch_limit starts → p < length best → AreWithin (launch_limit * (n + 1)) best →
    AreWithin (launch_limit * (n + 1 + 1)) (set best p (lesser (get_or starts p None) (offer arcs steps best place)))
within_more arcs steps starts best n p place below h starts_within lt k = λ pin time is. by_case pin time is (cases_eq pin p)
  where
    by_case : (pin : ℕ) (time : ℤ) → get_or (set best p (lesser (get_or starts p None) (offer arcs steps best place))) pin None ≡ Some time →
        ((pin ≡ p) ⊎ (pin ≡ p → ⊥)) → IsWithin (launch_limit * (n + 1 + 1)) time
    by_case pin time is (inl same) =
        let made : Option ℤ = lesser (get_or starts p None) (offer arcs steps best place) in
        let here : made ≡ Some time = sym (get_or-set_same best p made None lt) ∙ ap (λ (q : ℕ). get_or (set best p made) q None) (sym same) ∙ is in
        lesser-within (launch_limit * (n + 1 + 1)) (get_or starts p None) (offer arcs steps best place)
        (λ t e. within_weaker launch_limit (launch_limit * (n + 1 + 1)) t (omega arith) (starts_within p t e))
        (λ t e. within_weaker (launch_limit * (n + 1) + launch_limit) (launch_limit * (n + 1 + 1)) t (omega arith) (offer-within arcs steps best (launch_limit * (n + 1)) place below h k t e))
        time here
    by_case pin time is (inr differs) =
        let made : Option ℤ = lesser (get_or starts p None) (offer arcs steps best place) in
        within_weaker (launch_limit * (n + 1)) (launch_limit * (n + 1 + 1)) time (omega arith)
        (k pin time (sym (get_or-set_other best p pin made None differs) ∙ is))

-- what the code reads of the arc at a place is where the arc leads from
pub offer_read : (arcs : List Arc) (steps : List ℤ) (best : List (Option ℤ)) (place : Option ℕ) (i : ℕ) (d : Arc) → place ≡ Some i → i < length arcs →
    extended (get_or best (get_or arcs i d).from.0 None) (get_or steps i (pos 0)) ≡ offer arcs steps best place
offer_read arcs steps best place i d is below =
    ap (λ (o : Option Arc). extended (get_or best (origin o) None) (get_or steps i (pos 0))) (sym (slice_get-get_or arcs i d below)) ∙ ap (offer arcs steps best) (sym is)

-- the place of an arc in the table is one in the list
pub place_below : (arcs : List Arc) (into : List (Option ℕ)) → IsInto arcs into → (pin k : ℕ) → get_or into pin None ≡ Some k → k < length arcs
place_below arcs into h pin k e = let ends = h.only pin k e in slice_get_within arcs k ends.0 ends.1

-- before the first turn
pub right_none : (arcs : List Arc) (steps : List ℤ) (starts : List (Option ℤ)) (into : List (Option ℕ)) (order : List PinNo) (best : List (Option ℤ)) →
    AreRightUpTo arcs steps starts into order 0 best
right_none arcs steps starts into order best = record { at = λ k q lt is. absurd (omega arith) }
