-- Counts of the arcs that pins wait for (waiting, count_by), and the order of the pins whose count is 0 (IsReady) as pins are worked off.
use Rattle.std.proofs.Common.{◌≡◌, ℕ, ◌+◌, ◌-◌, ◌<◌, ◌≤◌, ◌==◌, Bool, true, false, ◌&&◌, ◌||◌, not, cond, eqb, List, [], ◌∷◌, ◌++◌, length, take, get_or, set, refl, ap, sym, ◌∙◌, arith, ◌⊎◌, inl, inr}
use Rattle.std.specs.Prelude.{Contains, count_by}
use Rattle.std.proofs.lemmas.Bool.{eqb-true, eq-eqb, ne_eqb, cases_Bool, cases_eq, false≢true, and_from, and_parts, not_from_false, not-true}
use Rattle.std.proofs.lemmas.Map.Views.{Contains-from_any}
use Rattle.std.proofs.lemmas.List.Folds.{list_any-append, list_any_at}
use Rattle.std.proofs.lemmas.List.Sums.{sum_by_more, sum_by_more_le}
use Rattle.std.proofs.lemmas.List.{append-nil, append_assoc, get_or-set_same, get_or-set_other}
use Rattle.hold_base.specs.declared.number.PinNo.{PinNo}
use Rattle.hold_graph.specs.declared.graph.Arc.{Arc}
use Rattle.hold_graph.specs.inner.Waiting.{lists, waiting, arc_at, ends_among, GoesOn}
use Rattle.hold_graph.proofs.Places.{same_pin}
use Rattle.hold_graph.proofs.ListSums.{sum_by-add, count_by-found, count_by-has}

same_test : (a b : PinNo) → eqb a.0 b.0 ≡ true → a ≡ b
same_test a b e = same_pin a b (eqb-true a.0 b.0 e)

pub lists-contains : (pins : List PinNo) (pin : PinNo) → lists pins pin ≡ true → Contains pins pin
lists-contains pins pin is = Contains-from_any {eq = λ (a b : PinNo). eqb a.0 b.0} same_test pin pins is

pub lists-from : (pins : List PinNo) (pin : PinNo) → Contains pins pin → lists pins pin ≡ true
lists-from pins pin has = list_any_at (λ (other : PinNo). eqb pin.0 other.0) pins has.0 pin has.1 (eq-eqb _ _ (ap (λ (p : PinNo). p.0) (sym has.2)))

test_parts : (t w e : Bool) → (w ≡ true → e ≡ false) → cond (t && not (w || (e || false))) 1 0 + cond (t && e) 1 0 ≡ cond (t && not w) 1 0
test_parts false w e apart = refl
test_parts true false false apart = refl
test_parts true false true apart = refl
test_parts true true false apart = refl
test_parts true true true apart = absurd (false≢true (sym (apart refl)))

-- once a pin is worked off too, its arcs are waited for no longer
pub waiting-push : (arcs : List Arc) (worked : List PinNo) (done : PinNo) (pin : ℕ) → lists worked done ≡ false →
    waiting arcs (worked ++ done ∷ []) pin + count_by (λ (arc : Arc). (arc.to.0 == pin) && (arc.from.0 == done.0)) arcs ≡ waiting arcs worked pin
waiting-push arcs worked done pin new = sum_by-add _ _ _ by_arc arcs
  where
    apart : (arc : Arc) → lists worked arc.from ≡ true → (arc.from.0 == done.0) ≡ false
    apart arc is = ne_eqb arc.from.0 done.0 (λ e. false≢true (sym new ∙ ap (lists worked) (sym (same_pin arc.from done e)) ∙ is))

    by_arc : (arc : Arc) → cond ((arc.to.0 == pin) && not (lists (worked ++ done ∷ []) arc.from)) 1 0 + cond ((arc.to.0 == pin) && (arc.from.0 == done.0)) 1 0
        ≡ cond ((arc.to.0 == pin) && not (lists worked arc.from)) 1 0
    by_arc arc =
        let e : lists (worked ++ done ∷ []) arc.from ≡ (lists worked arc.from || ((arc.from.0 == done.0) || false)) =
        list_any-append (λ (other : PinNo). arc.from.0 == other.0) worked (done ∷ []) in
        ap (λ (b : Bool). cond ((arc.to.0 == pin) && not b) 1 0 + cond ((arc.to.0 == pin) && (arc.from.0 == done.0)) 1 0) e
        ∙ test_parts (arc.to.0 == pin) (lists worked arc.from) (arc.from.0 == done.0) (apart arc)

-- a pin that waits for no arc has its arcs from pins that are worked off
pub waiting-zero : (arcs : List Arc) (worked : List PinNo) (pin : ℕ) (arc : Arc) → waiting arcs worked pin ≡ 0 → Contains arcs arc → arc.to.0 ≡ pin → Contains worked arc.from
waiting-zero arcs worked pin arc none has to = by_test (cases_Bool (lists worked arc.from))
  where
    by_test : ((lists worked arc.from ≡ true) ⊎ (lists worked arc.from ≡ false)) → Contains worked arc.from
    by_test (inl is) = lists-contains worked arc.from is
    by_test (inr isnt) =
        let waits : ((arc.to.0 == pin) && not (lists worked arc.from)) ≡ true = and_from _ _ (eq-eqb arc.to.0 pin to) (not_from_false (lists worked arc.from) isnt) in
        let some = count_by-has (λ (a : Arc). (a.to.0 == pin) && not (lists worked a.from)) arcs arc has waits in
        absurd (omega arith)

-- a pin that waits for an arc has one from a pin that isn't worked off
pub record IsWaitedFor (arcs : List Arc) (worked : List PinNo) (pin : ℕ) : Type 0 where
  pub arc : Arc
  pub has : Contains arcs arc
  pub to : arc.to.0 ≡ pin
  pub new : Contains worked arc.from → ⊥

pub waiting-some : (arcs : List Arc) (worked : List PinNo) (pin : ℕ) → 0 < waiting arcs worked pin → IsWaitedFor arcs worked pin
waiting-some arcs worked pin some =
    let found = count_by-found (λ (a : Arc). (a.to.0 == pin) && not (lists worked a.from)) arcs some in
    let parts = and_parts (found.0.to.0 == pin) (not (lists worked found.0.from)) found.2 in
    record {
      arc = found.0;
      has = found.1;
      to = eqb-true found.0.to.0 pin parts.0;
      new = λ has. false≢true (sym (not-true (lists worked found.0.from) parts.1) ∙ lists-from worked found.0.from has);
    }

-- one more of the places is gone through
ends_among-more : (arcs : List Arc) (places : List ℕ) (i pin : ℕ) → i < length places →
    ends_among arcs (take (i + 1) places) pin ≡ ends_among arcs (take i places) pin + cond {A = ℕ} ((arc_at arcs (get_or places i 0)).to.0 == pin) 1 0
ends_among-more arcs places i pin lt = sum_by_more (λ (place : ℕ). cond {A = ℕ} ((arc_at arcs place).to.0 == pin) 1 0) places i 0 lt

-- something is left of a count from which all these arcs can be taken
pub ends_among-left : (arcs : List Arc) (places : List ℕ) (i pin left before : ℕ) → i < length places → (arc_at arcs (get_or places i 0)).to.0 ≡ pin →
    left + ends_among arcs (take i places) pin ≡ before → ends_among arcs places pin ≤ before → 0 < left
ends_among-left arcs places i pin left before lt to taken enough =
    let most = sum_by_more_le (λ (place : ℕ). cond {A = ℕ} ((arc_at arcs place).to.0 == pin) 1 0) places i 0 lt in
    let one : cond {A = ℕ} ((arc_at arcs (get_or places i 0)).to.0 == pin) 1 0 ≡ 1 = ap (λ (b : Bool). cond {A = ℕ} b 1 0) (eq-eqb _ pin to) in
    omega arith

-- one is taken from the count of the pin at which the arc at the next place ends
pub ends_among-taken : (arcs : List Arc) (places counts : List ℕ) (i to pin before : ℕ) → i < length places → (arc_at arcs (get_or places i 0)).to.0 ≡ to → to < length counts →
    0 < get_or counts to 0 → get_or counts pin 0 + ends_among arcs (take i places) pin ≡ before →
    get_or (set counts to (get_or counts to 0 - 1)) pin 0 + ends_among arcs (take (i + 1) places) pin ≡ before
ends_among-taken arcs places counts i to pin before lt ends below some taken = by_case (cases_eq pin to)
  where
    by_case : ((pin ≡ to) ⊎ (pin ≡ to → ⊥)) → get_or (set counts to (get_or counts to 0 - 1)) pin 0 + ends_among arcs (take (i + 1) places) pin ≡ before
    by_case (inl same) =
        let more = ends_among-more arcs places i pin lt in
        let one : cond {A = ℕ} ((arc_at arcs (get_or places i 0)).to.0 == pin) 1 0 ≡ 1 = ap (λ (b : Bool). cond {A = ℕ} b 1 0) (eq-eqb _ pin (ends ∙ sym same)) in
        let less : get_or (set counts to (get_or counts to 0 - 1)) pin 0 ≡ get_or counts to 0 - 1 =
        ap (λ (j : ℕ). get_or (set counts to (get_or counts to 0 - 1)) j 0) same ∙ get_or-set_same counts to (get_or counts to 0 - 1) 0 below in
        let here : get_or counts pin 0 ≡ get_or counts to 0 = ap (λ (j : ℕ). get_or counts j 0) same in
        omega arith
    by_case (inr differs) =
        let more = ends_among-more arcs places i pin lt in
        let none : cond {A = ℕ} ((arc_at arcs (get_or places i 0)).to.0 == pin) 1 0 ≡ 0 = ap (λ (b : Bool). cond {A = ℕ} b 1 0) (ne_eqb _ pin (λ e. differs (sym e ∙ ends))) in
        let same = get_or-set_other counts to pin (get_or counts to 0 - 1) 0 differs in
        omega arith

pub goes_on-none : (pins : List PinNo) → GoesOn pins pins
goes_on-none pins = record { more = []; is = sym (append-nil pins) }

pub goes_on-more : (a b c : List PinNo) → GoesOn a b → GoesOn b c → GoesOn a c
goes_on-more a b c first second = record {
  more = first.more ++ second.more;
  is = second.is ∙ ap (λ (pins : List PinNo). pins ++ second.more) first.is ∙ append_assoc a first.more second.more;
}
