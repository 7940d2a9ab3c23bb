-- The least of what stands at a pin, for a pin that is listed and for one that is not.
use Rattle.std.proofs.Common.{◌≡◌, ℕ, zero, suc, ◌<◌, ◌==◌, List, [], ◌∷◌, map, length, cond, Bool, true, false, refl, ap, ◌∙◌, arith, get_or, eq-eqb, ◌⊎◌, inl, inr}
use Rattle.std.specs.Prelude.{Some, None, ℤ, neg_ℤ}
use Rattle.hold_base.specs.declared.number.PinNo.{PinNo}
use Rattle.hold_base.specs.declared.time.Interval.{Interval}
use Rattle.hold_base.specs.declared.time.Side.{Side}
use Rattle.hold_base.specs.Interval.{hull_of}
use Rattle.hold_base.proofs.Bools.{cond-cases}
use Rattle.hold_graph.specs.Sums.{greatest_of, items_at}
use Rattle.hold_graph.specs.inner.Arrival.{weight, least_from, least_at}
use Rattle.hold_graph.proofs.Places.{same_pin}
use Rattle.hold_graph.proofs.Weights.{items_at-map, least_from-weights, least_from-negated}

-- a list has an item
pub record IsSomeItem {A : Type 0} (xs : List A) : Type 0 where
  pub first : A
  pub rest : List A
  pub split : xs ≡ first ∷ rest

abbrev pub ItemAtCond : {A : Type 0} → Bool → A → List A → Type 0
ItemAtCond b item rest = IsSomeItem (cond b (item ∷ rest) rest)

at_cond : {A : Type 0} (b : Bool) (item : A) (rest : List A) → ((b ≡ true) ⊎ IsSomeItem rest) → ItemAtCond b item rest
at_cond true item rest h = record { first = item; rest = rest; split = refl }
at_cond false item rest (inl e) = cc
at_cond false item rest (inr s) = s

-- a list that names the pin has an item for it
pub items_at-listed : {A : Type 0} (pins : List PinNo) (items : List A) (pin : PinNo) (k : ℕ) →
    length items ≡ length pins → k < length pins → get_or pins k pin ≡ pin → IsSomeItem (items_at pins items pin)
items_at-listed [] items pin k len below at = absurd (omega arith)
items_at-listed (p ∷ pins) [] pin k len below at = absurd (omega arith)
items_at-listed (p ∷ pins) (item ∷ items) pin zero len below at =
    at_cond (p.0 == pin.0) item (items_at pins items pin) (inl (eq-eqb p.0 pin.0 (ap (λ (q : PinNo). q.0) at)))
items_at-listed (p ∷ pins) (item ∷ items) pin (suc k) len below at =
    at_cond (p.0 == pin.0) item (items_at pins items pin) (inr (items_at-listed pins items pin k (omega arith) (omega arith) at))

pub record IsListed (pins : List PinNo) (pin : PinNo) : Type 0 where
  pub place : ℕ
  pub below : place < length pins
  pub at : get_or pins place pin ≡ pin

listed_more : (p : PinNo) (pins : List PinNo) (pin : PinNo) → IsListed pins pin → IsListed (p ∷ pins) pin
listed_more p pins pin h = record { place = suc h.place; below = omega arith; at = h.at }

-- an item for a pin comes from a list that names it
pub listed_from_items : {A : Type 0} (pins : List PinNo) (items : List A) (pin : PinNo) (first : A) (more : List A) →
    items_at pins items pin ≡ first ∷ more → IsListed pins pin
listed_from_items [] items pin first more e = cc
listed_from_items (p ∷ pins) [] pin first more e = cc
listed_from_items (p ∷ pins) (item ∷ items) pin first more e =
    by_case (cond-cases (p.0 == pin.0) (item ∷ items_at pins items pin) (items_at pins items pin) (first ∷ more) e)
    (λ h. listed_from_items pins items pin first more h)
  where
    by_case : {P Q : Type 0} → (((p.0 == pin.0) ≡ true) × P) ⊎ (((p.0 == pin.0) ≡ false) × Q) → (Q → IsListed pins pin) → IsListed (p ∷ pins) pin
    by_case (inl here) later = record { place = 0; below = omega arith; at = same_pin p pin (let h = here.0 in grind arith) }
    by_case (inr there) later = listed_more p pins pin (later there.1)

least-weights : (side : Side) (spans : List Interval) → IsSomeItem spans →
    least_from None (map (weight side) spans) ≡ Some (weight side (hull_of spans))
least-weights side [] h = let e = h.split in cc
least-weights side (span ∷ spans) h = least_from-weights side span spans

least-negated : (times : List ℤ) → IsSomeItem times → least_from None (map neg_ℤ times) ≡ Some (neg_ℤ (greatest_of times))
least-negated [] h = let e = h.split in cc
least-negated (time ∷ times) h = least_from-negated time times

-- a listed pin has the hull's end
pub least_at-weights : (side : Side) (pins : List PinNo) (spans : List Interval) (pin : PinNo) →
    length spans ≡ length pins → IsListed pins pin →
    least_at pins (map (weight side) spans) pin ≡ Some (weight side (hull_of (items_at pins spans pin)))
least_at-weights side pins spans pin len h =
    ap (λ (xs : List ℤ). least_from None xs) (items_at-map (weight side) pins spans pin)
    ∙ least-weights side (items_at pins spans pin) (items_at-listed pins spans pin h.place len h.below h.at)

-- a listed pin has the greatest of its times, negated
pub least_at-negated : (pins : List PinNo) (times : List ℤ) (pin : PinNo) →
    length times ≡ length pins → IsListed pins pin →
    least_at pins (map neg_ℤ times) pin ≡ Some (neg_ℤ (greatest_of (items_at pins times pin)))
least_at-negated pins times pin len h =
    ap (λ (xs : List ℤ). least_from None xs) (items_at-map neg_ℤ pins times pin)
    ∙ least-negated (items_at pins times pin) (items_at-listed pins times pin h.place len h.below h.at)

some_item : (xs : List ℤ) (least : ℤ) → least_from None xs ≡ Some least → IsSomeItem xs
some_item [] least e = cc
some_item (x ∷ xs) least e = record { first = x; rest = xs; split = refl }

-- only a listed pin has a least number
pub listed_from_least : (pins : List PinNo) (numbers : List ℤ) (pin : PinNo) (least : ℤ) →
    least_at pins numbers pin ≡ Some least → IsListed pins pin
listed_from_least pins numbers pin least e =
    let h : IsSomeItem (items_at pins numbers pin) = some_item (items_at pins numbers pin) least e in
    listed_from_items pins numbers pin h.first h.rest h.split
