-- Lists by pin: links from one place of a pin to the next, and hulls over them.
use Rattle.std.proofs.Common.{◌≡◌, ◌≢◌, ℕ, suc, ◌+◌, ◌<◌, ◌≤◌, ◌==◌, true, false, List, [], ◌∷◌, length, get_or, set, drop, refl, sym, ap, ◌∙◌, ◌⊎◌, inl, inr, arith}
use Rattle.std.specs.Prelude.{Option, Some, None, slice_get, fold, ℤ}
use Rattle.std.specs.Int.{int_max}
use Rattle.std.proofs.lemmas.Bool.{cases_order}
use Rattle.std.proofs.lemmas.Bool.Decides.{nat_tests}
use Rattle.std.proofs.lemmas.Option.{none-some, same_Some, slice_get_within, slice_get-get_or, get_or_from_slice_get}
use Rattle.std.proofs.lemmas.List.{length-set, get_or-set_same, get_or-set_other, length-drop, get_or-drop, drop-drop, drop_more}
use Rattle.hold_base.proofs.Bools.{cond-cases}
use Rattle.hold_base.specs.Interval.{hull, hull_of}
use Rattle.hold_base.specs.declared.number.PinNo.{PinNo}
use Rattle.hold_base.specs.declared.time.Interval.{Interval}
use Rattle.hold_graph.specs.Sums.{items_at, greatest_of}
use Rattle.hold_proof.specs.inner.Places.{place_from, next_place, AreLinked, links_left, hull_or_none, hull_after, time_or_none, greatest_after}

drop-at : (pins : List PinNo) (place : ℕ) (pin : PinNo) → slice_get pins place ≡ Some pin → drop place pins ≡ pin ∷ drop (place + 1) pins
drop-at pins place pin at =
    drop_more pins place pin (slice_get_within pins place pin at) ∙ ap (λ p. p ∷ drop (place + 1) pins) (get_or_from_slice_get pins place pin pin at)

place_from-here : (first : ℕ) (p : PinNo) (pins : List PinNo) (pin : PinNo) → p.0 ≡ pin.0 → place_from first (p ∷ pins) pin ≡ Some first
place_from-here first p pins pin same = let test : (p.0 == pin.0) ≡ true = grind (arith, nat_tests) in rw test refl

place_from-other : (first : ℕ) (p : PinNo) (pins : List PinNo) (pin : PinNo) → p.0 ≢ pin.0 → place_from first (p ∷ pins) pin ≡ place_from (first + 1) pins pin
place_from-other first p pins pin other = let test : (p.0 == pin.0) ≡ false = grind (arith, nat_tests) in rw test refl

-- one place more, from behind
pub linked-more : (count : ℕ) (pins : List PinNo) (place : ℕ) (pin : PinNo) (first next : List (Option ℕ)) → AreLinked count pins (place + 1) first next → slice_get pins place ≡ Some pin → pin.0 < count →
    AreLinked count pins place (set first pin.0 (Some place)) (set next place (get_or first pin.0 None))
linked-more count pins place pin first next h at there = record {
  first_each = length-set first pin.0 (Some place) ∙ h.first_each;
  next_each = length-set next place _ ∙ h.next_each;
  firsts = λ other below. first_of other below (cases_order other.0 pin.0);
  nexts = λ other p past is. next_of other p past is (cases_order other place);
}
  where
    here : drop place pins ≡ pin ∷ drop (place + 1) pins
    here = drop-at pins place pin at

    each : length first ≡ count
    each = h.first_each

    many : length next ≡ length pins
    many = h.next_each

    not_here : (other : PinNo) → other.0 < count → other.0 ≢ pin.0 → get_or (set first pin.0 (Some place)) other.0 None ≡ next_place pins place other
    not_here other below differs =
        get_or-set_other first pin.0 other.0 (Some place) None differs ∙ h.firsts other below ∙ sym (ap (λ l. place_from place l other) here ∙ place_from-other place pin (drop (place + 1) pins) other (λ same. differs (sym same)))

    first_of : (other : PinNo) → other.0 < count → (other.0 ≡ pin.0) ⊎ ((other.0 < pin.0) ⊎ (pin.0 < other.0)) → get_or (set first pin.0 (Some place)) other.0 None ≡ next_place pins place other
    first_of other below order = elim order [
      | inl same ↦ ap (λ n. get_or (set first pin.0 (Some place)) n None) same ∙ get_or-set_same first pin.0 (Some place) None (omega (arith, each, there))
          ∙ sym (ap (λ l. place_from place l other) here ∙ place_from-here place pin (drop (place + 1) pins) other (sym same))
      | inr apart ↦ elim apart [ inl less ↦ not_here other below (λ same. omega arith) | inr more ↦ not_here other below (λ same. omega arith) ]
    ]

    later : (other : ℕ) (p : PinNo) → (other < place → ⊥) → slice_get pins other ≡ Some p → other ≢ place → get_or (set next place (get_or first pin.0 None)) other None ≡ next_place pins (other + 1) p
    later other p past is differs =
        get_or-set_other next place other _ None differs ∙ h.nexts other p (λ below. elim (cases_order other place) [ inl same ↦ differs same | inr order ↦ elim order [ inl less ↦ past less | inr more ↦ absurd (omega arith) ] ]) is

    next_of : (other : ℕ) (p : PinNo) → (other < place → ⊥) → slice_get pins other ≡ Some p → (other ≡ place) ⊎ ((other < place) ⊎ (place < other)) → get_or (set next place (get_or first pin.0 None)) other None ≡ next_place pins (other + 1) p
    next_of other p past is order = elim order [
      | inl same ↦ ap (λ n. get_or (set next place (get_or first pin.0 None)) n None) same
          ∙ get_or-set_same next place _ None (let within = slice_get_within pins place pin at in omega (arith, many, within))
          ∙ h.firsts pin there ∙ ap (λ q. next_place pins (place + 1) q) (same_Some _ _ (sym at ∙ ap (slice_get pins) (sym same) ∙ is)) ∙ ap (λ n. next_place pins (n + 1) p) (sym same)
      | inr apart ↦ elim apart [ inl less ↦ absurd (past less) | inr more ↦ later other p past is (λ same. omega arith) ]
    ]

-- what stands at a pin from a place on: nothing without a next place, else that and what stands behind it
pub items_at-none : {A : Type 0} (pins : List PinNo) (first : ℕ) (items : List A) (pin : PinNo) → place_from first pins pin ≡ None → items_at pins items pin ≡ []
items_at-none [] first items pin h = refl
items_at-none (p ∷ pins) first [] pin h = refl
items_at-none (p ∷ pins) first (item ∷ items) pin h = elim (cond-cases (p.0 == pin.0) (Some first) (place_from (first + 1) pins pin) None h) [
  | inl same ↦ absurd (none-some _ (sym (same.1)))
  | inr other ↦ let test = other.0 in rw test (items_at-none pins (first + 1) items pin (other.1))
]

record IsFoundAt {A : Type 0} (pins : List PinNo) (first : ℕ) (items : List A) (pin : PinNo) (place : ℕ) (none : A) : Type 0 where
  over : ℕ
  is : place ≡ first + over
  there : over < length pins
  pin_is : slice_get pins over ≡ Some pin
  parts : items_at pins items pin ≡ get_or items over none ∷ items_at (drop (over + 1) pins) (drop (over + 1) items) pin

pin-same : (a b : PinNo) → a.0 ≡ b.0 → a ≡ b
pin-same a b same = ap (λ (n : ℕ). record { 0 = n }) same

found-here : {A : Type 0} (p : PinNo) (pins : List PinNo) (first : ℕ) (item : A) (items : List A) (pin : PinNo) (place : ℕ) (none : A) → (p.0 == pin.0) ≡ true → Some first ≡ Some place →
    IsFoundAt (p ∷ pins) first (item ∷ items) pin place none
found-here p pins first item items pin place none test h =
    let number : p.0 ≡ pin.0 = grind (arith, nat_tests) in
    record {
      over = 0;
      is = sym (same_Some _ _ h) ∙ omega arith;
      there = omega arith;
      pin_is = ap (λ q. Some q) (pin-same p pin number);
      parts = rw test refl;
    }

found-later : {A : Type 0} (p : PinNo) (pins : List PinNo) (first : ℕ) (item : A) (items : List A) (pin : PinNo) (place : ℕ) (none : A) → (p.0 == pin.0) ≡ false →
    IsFoundAt pins (first + 1) items pin place none → IsFoundAt (p ∷ pins) first (item ∷ items) pin place none
found-later p pins first item items pin place none test rest =
    let shift = rest.is in
    let within = rest.there in
    let next : suc (rest.over + 1) ≡ suc rest.over + 1 = omega arith in
    record {
      over = suc rest.over;
      is = omega (arith, shift);
      there = omega (arith, within);
      pin_is = rest.pin_is;
      parts = rw test (rest.parts ∙ ap (λ n. get_or items rest.over none ∷ items_at (drop n (p ∷ pins)) (drop n (item ∷ items)) pin) next);
    }

found_at : {A : Type 0} (pins : List PinNo) (first : ℕ) (items : List A) (pin : PinNo) (place : ℕ) (none : A) → place_from first pins pin ≡ Some place → length items ≡ length pins →
    IsFoundAt pins first items pin place none
found_at [] first items pin place none h each = absurd (none-some _ h)
found_at (p ∷ pins) first [] pin place none h each = absurd (omega arith)
found_at (p ∷ pins) first (item ∷ items) pin place none h each = elim (cond-cases (p.0 == pin.0) (Some first) (place_from (first + 1) pins pin) (Some place) h) [
  | inl same ↦ found-here p pins first item items pin place none (same.0) (same.1)
  | inr other ↦ found-later p pins first item items pin place none (other.0) (found_at pins (first + 1) items pin place none (other.1) (omega arith))
]

-- the same from a place on
pub record IsNext {A : Type 0} (pins : List PinNo) (from : ℕ) (items : List A) (pin : PinNo) (place : ℕ) (none : A) : Type 0 where
  pub after : from ≤ place
  pub there : place < length pins
  pub pin_is : slice_get pins place ≡ Some pin
  pub parts : items_at (drop from pins) (drop from items) pin ≡ get_or items place none ∷ items_at (drop (place + 1) pins) (drop (place + 1) items) pin

found-next : {A : Type 0} (pins : List PinNo) (from : ℕ) (items : List A) (pin : PinNo) (place : ℕ) (none : A) → IsFoundAt (drop from pins) from (drop from items) pin place none →
    IsNext pins from items pin place none
found-next pins from items pin place none found =
    let left = length-drop from pins in
    let is = found.is in
    let there = found.there in
    let within : place < length pins = omega (arith, left, is, there) in
    let further : from + (found.over + 1) ≡ place + 1 = omega (arith, is) in
    let item : get_or (drop from items) found.over none ≡ get_or items place none = get_or-drop from items found.over none ∙ ap (λ n. get_or items n none) (sym is) in
    let pin_there : get_or (drop from pins) found.over pin ≡ get_or pins place pin = get_or-drop from pins found.over pin ∙ ap (λ n. get_or pins n pin) (sym is) in
    let pin_is : get_or (drop from pins) found.over pin ≡ pin = get_or_from_slice_get (drop from pins) found.over pin pin (found.pin_is) in
    let pins_left : drop (found.over + 1) (drop from pins) ≡ drop (place + 1) pins = drop-drop (found.over + 1) from pins ∙ ap (λ n. drop n pins) further in
    let items_left : drop (found.over + 1) (drop from items) ≡ drop (place + 1) items = drop-drop (found.over + 1) from items ∙ ap (λ n. drop n items) further in
    let parts = found.parts in
    record {
      after = omega (arith, is);
      there = within;
      pin_is = slice_get-get_or pins place pin within ∙ ap (λ p. Some p) (sym pin_there ∙ pin_is);
      parts = rw (item, pins_left, items_left) at parts;
    }

pub next-is : {A : Type 0} (pins : List PinNo) (from : ℕ) (items : List A) (pin : PinNo) (place : ℕ) (none : A) → next_place pins from pin ≡ Some place → length items ≡ length pins →
    IsNext pins from items pin place none
next-is pins from items pin place none h each =
    let left = length-drop from pins in
    let left_items = length-drop from items in
    found-next pins from items pin place none (found_at (drop from pins) from (drop from items) pin place none h (omega (arith, left, left_items, each)))

-- the hull of spans is what they are joined to
hull_after-fold : (before : Interval) (spans : List Interval) → hull_after (Some before) spans ≡ Some (fold hull before spans)
hull_after-fold before [] = refl
hull_after-fold before (span ∷ spans) = hull_after-fold (hull before span) spans

pub hull_or_none-hull : (spans : List Interval) → hull_or_none (hull_after None spans) ≡ hull_of spans
hull_or_none-hull [] = refl
hull_or_none-hull (span ∷ spans) = ap hull_or_none (hull_after-fold span spans)

greatest_after-fold : (before : ℤ) (times : List ℤ) → greatest_after (Some before) times ≡ Some (fold int_max before times)
greatest_after-fold before [] = refl
greatest_after-fold before (time ∷ times) = greatest_after-fold (int_max before time) times

pub time_or_none-greatest : (times : List ℤ) → time_or_none (greatest_after None times) ≡ greatest_of times
time_or_none-greatest [] = refl
time_or_none-greatest (time ∷ times) = ap time_or_none (greatest_after-fold time times)

-- what is left to be joined, one link on
pub record IsLinkedOn (pins : List PinNo) (from : ℕ) (pin : PinNo) (place : ℕ) (next : List (Option ℕ)) : Type 0 where
  pub there : place < length pins
  pub then : get_or next place None ≡ next_place pins (place + 1) pin

pub linked-on : {A : Type 0} (count : ℕ) (pins : List PinNo) (first next : List (Option ℕ)) (from : ℕ) (items : List A) (pin : PinNo) (place : ℕ) (none : A) → AreLinked count pins 0 first next →
    IsNext pins from items pin place none → IsLinkedOn pins from pin place next
linked-on count pins first next from items pin place none linked h = record {
  there = h.there;
  then = linked.nexts place pin (λ below. absurd (omega arith)) h.pin_is;
}

pub links-fewer : (pins : List PinNo) (place : ℕ) (pin : PinNo) (at : Option ℕ) → place < length pins → at ≡ next_place pins (place + 1) pin → links_left (length pins) at < links_left (length pins) (Some place)
links-fewer pins place pin None there is = omega (arith, there)
links-fewer pins place pin (Some next) there is =
    let h = next-is pins (place + 1) pins pin next pin (sym is) refl in
    let after = h.after in
    let within = h.there in
    omega (arith, after, within, there)

-- what is joined so far once no place is left
pub hull-end : (pins : List PinNo) (from : ℕ) (spans : List Interval) (pin : PinNo) (hull : Option Interval) (at : Option ℕ) → at ≡ next_place pins from pin → at ≡ None →
    hull_after hull (items_at (drop from pins) (drop from spans) pin) ≡ hull
hull-end pins from spans pin hull at is none =
    ap (hull_after hull) (items_at-none (drop from pins) from (drop from spans) pin (sym is ∙ none))

pub greatest-end : (pins : List PinNo) (from : ℕ) (times : List ℤ) (pin : PinNo) (greatest : Option ℤ) (at : Option ℕ) → at ≡ next_place pins from pin → at ≡ None →
    greatest_after greatest (items_at (drop from pins) (drop from times) pin) ≡ greatest
greatest-end pins from times pin greatest at is none =
    ap (greatest_after greatest) (items_at-none (drop from pins) from (drop from times) pin (sym is ∙ none))
