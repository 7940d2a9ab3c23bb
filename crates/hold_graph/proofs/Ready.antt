-- The order of the pins whose count is 0 (IsReady): as counts are made, and as one falls.
use Rattle.std.proofs.Common.{◌≡◌, ℕ, ◌+◌, ◌<◌, ◌≤◌, ◌==◌, Bool, cond, List, [], ◌∷◌, ◌++◌, length, take, get_or, set, ap, sym, ◌∙◌, subst, arith, ◌⊎◌, inl, inr}
use Rattle.std.specs.Prelude.{Some, slice_get, All, Contains}
use Rattle.std.proofs.lemmas.Bool.{eq-eqb, ne_eqb, cases_eq, cases_lt}
use Rattle.std.proofs.lemmas.List.{length-set, get_or-set_same, get_or-set_other, length_push, get_or_push, get_or_append_left, take_more, length-take-le}
use Rattle.std.proofs.lemmas.List.Elements.{All-push, Contains-push, Contains-append_left}
use Rattle.std.proofs.lemmas.List.Sums.{sum_by-set, sum_by_push}
use Rattle.std.proofs.lemmas.Option.{slice_get_within, get_or_from_slice_get}
use Rattle.hold_base.specs.declared.number.PinNo.{PinNo}
use Rattle.hold_graph.specs.inner.Waiting.{IsReady}
use Rattle.hold_graph.proofs.Places.{same_pin}
use Rattle.hold_graph.proofs.Rounds.{AreDifferent-push}

-- a pin of the order has the count 0
pub ready-zero : (counts : List ℕ) (order : List PinNo) → IsReady counts order → (k : ℕ) (pin : PinNo) → slice_get order k ≡ Some pin → get_or counts pin.0 0 ≡ 0
ready-zero counts order ready k pin at =
    ap (λ (p : PinNo). get_or counts p.0 0) (sym (get_or_from_slice_get order k pin pin at)) ∙ ready.zero k pin (slice_get_within order k pin at)

ready-new : (counts : List ℕ) (order : List PinNo) (pin : PinNo) → IsReady counts order → 0 < get_or counts pin.0 0 → (k : ℕ) → slice_get order k ≡ Some pin → ⊥
ready-new counts order pin ready some k at = let none = ready-zero counts order ready k pin at in omega arith

zero_test : (n : ℕ) → n ≡ 0 → cond {A = ℕ} (n == 0) 1 0 ≡ 1
zero_test n e = ap (λ (b : Bool). cond {A = ℕ} b 1 0) (eq-eqb n 0 e)

other_test : (n : ℕ) → 0 < n → cond {A = ℕ} (n == 0) 1 0 ≡ 0
other_test n lt = ap (λ (b : Bool). cond {A = ℕ} b 1 0) (ne_eqb n 0 (λ e. omega arith))

-- each pin of the order has another number than one whose count isn't 0
ready-apart : (counts : List ℕ) (order : List PinNo) (at n : ℕ) → IsReady counts order → 0 < get_or counts at 0 → All (λ pin. get_or (set counts at n) pin.0 0 ≡ 0) order
ready-apart counts order at n ready some = λ k d lt.
    let none = ready.zero k d lt in
    get_or-set_other counts at (get_or order k d).0 n 0 (λ e. let same : get_or counts (get_or order k d).0 0 ≡ get_or counts at 0 = ap (λ (j : ℕ). get_or counts j 0) e in omega arith) ∙ none

ready-below : (counts : List ℕ) (order : List PinNo) (at n : ℕ) → IsReady counts order → All (λ pin. pin.0 < length (set counts at n)) order
ready-below counts order at n ready = λ k d lt. let len = length-set counts at n in let below = ready.below k d lt in omega arith

-- a count falls to 0, and its pin goes into the order
pub ready-pushed : (counts : List ℕ) (order : List PinNo) (pin : PinNo) (n : ℕ) → pin.0 < length counts → 0 < get_or counts pin.0 0 → n ≡ 0 → IsReady counts order →
    IsReady (set counts pin.0 n) (order ++ pin ∷ [])
ready-pushed counts order pin n lt some none ready = record {
  below = All-push (λ (p : PinNo). p.0 < length (set counts pin.0 n)) order pin (ready-below counts order pin.0 n ready) (let len = length-set counts pin.0 n in omega arith);
  zero = All-push (λ (p : PinNo). get_or (set counts pin.0 n) p.0 0 ≡ 0) order pin (ready-apart counts order pin.0 n ready some) (get_or-set_same counts pin.0 n 0 lt ∙ none);
  each = λ p within is. by_case p within is (cases_eq p pin.0);
  different = AreDifferent-push order pin ready.different (ready-new counts order pin ready some);
  count = let e = sum_by-set (λ (m : ℕ). cond {A = ℕ} (m == 0) 1 0) counts pin.0 n 0 lt in
      let old = other_test (get_or counts pin.0 0) some in
      let new = zero_test n none in
      let c = ready.count in
      let len = length_push order pin in
      omega arith;
}
  where
    by_case : (p : ℕ) → p < length (set counts pin.0 n) → get_or (set counts pin.0 n) p 0 ≡ 0 → ((p ≡ pin.0) ⊎ (p ≡ pin.0 → ⊥)) → Contains (order ++ pin ∷ []) (record { 0 = p })
    by_case p within is (inl same) = let q : PinNo = record { 0 = p } in subst (Contains (order ++ pin ∷ [])) (same_pin pin q (sym same)) (Contains-push order pin)
    by_case p within is (inr differs) =
        Contains-append_left order (pin ∷ []) (record { 0 = p })
        (ready.each p (let len = length-set counts pin.0 n in omega arith) (sym (get_or-set_other counts pin.0 p n 0 differs) ∙ is))

grown-zero : (counts : List ℕ) (order : List PinNo) (n : ℕ) → IsReady counts order → All (λ pin. get_or (counts ++ n ∷ []) pin.0 0 ≡ 0) order
grown-zero counts order n ready = λ k d lt. get_or_append_left counts (n ∷ []) 0 (get_or order k d).0 (ready.below k d lt) ∙ ready.zero k d lt

grown-below : (counts : List ℕ) (order : List PinNo) (n : ℕ) → IsReady counts order → All (λ pin. pin.0 < length (counts ++ n ∷ [])) order
grown-below counts order n ready = λ k d lt. let len = length_push counts n in let below = ready.below k d lt in omega arith

-- one more count, which isn't 0
pub ready-more : (counts : List ℕ) (order : List PinNo) (n : ℕ) → 0 < n → IsReady counts order → IsReady (counts ++ n ∷ []) order
ready-more counts order n some ready = record {
  below = grown-below counts order n ready;
  zero = grown-zero counts order n ready;
  each = λ pin within none. by_case pin within none (cases_lt pin (length counts));
  different = ready.different;
  count = let e = sum_by_push (λ (m : ℕ). cond {A = ℕ} (m == 0) 1 0) counts n in let new = other_test n some in let c = ready.count in omega arith;
}
  where
    by_case : (pin : ℕ) → pin < length (counts ++ n ∷ []) → get_or (counts ++ n ∷ []) pin 0 ≡ 0 → ((pin < length counts) ⊎ (length counts ≤ pin)) → Contains order (record { 0 = pin })
    by_case pin within none (inl before) = ready.each pin before (sym (get_or_append_left counts (n ∷ []) 0 pin before) ∙ none)
    by_case pin within none (inr last) =
        let len = length_push counts n in
        let at = get_or_push counts n 0 pin (omega arith) in
        absurd (omega arith)

-- one more count, which is 0
pub ready-more_zero : (counts : List ℕ) (order : List PinNo) (pin : PinNo) → pin.0 ≡ length counts → IsReady counts order → IsReady (counts ++ 0 ∷ []) (order ++ pin ∷ [])
ready-more_zero counts order pin here ready = record {
  below = All-push (λ (p : PinNo). p.0 < length (counts ++ 0 ∷ [])) order pin (grown-below counts order 0 ready) (let len = length_push counts 0 in omega arith);
  zero = All-push (λ (p : PinNo). get_or (counts ++ 0 ∷ []) p.0 0 ≡ 0) order pin (grown-zero counts order 0 ready) (get_or_push counts 0 0 pin.0 (sym here));
  each = λ p within none. by_case p within none (cases_lt p (length counts));
  different = AreDifferent-push order pin ready.different (λ k at.
      let below = ready.below k pin (slice_get_within order k pin at) in
      let same : (get_or order k pin).0 ≡ pin.0 = ap (λ (p : PinNo). p.0) (get_or_from_slice_get order k pin pin at) in
      omega arith);
  count = let e = sum_by_push (λ (m : ℕ). cond {A = ℕ} (m == 0) 1 0) counts 0 in let c = ready.count in let len = length_push order pin in omega arith;
}
  where
    by_case : (p : ℕ) → p < length (counts ++ 0 ∷ []) → get_or (counts ++ 0 ∷ []) p 0 ≡ 0 → ((p < length counts) ⊎ (length counts ≤ p)) → Contains (order ++ pin ∷ []) (record { 0 = p })
    by_case p within none (inl before) =
        Contains-append_left order (pin ∷ []) (record { 0 = p }) (ready.each p before (sym (get_or_append_left counts (0 ∷ []) 0 p before) ∙ none))
    by_case p within none (inr last) =
        let q : PinNo = record { 0 = p } in
        let len = length_push counts 0 in
        subst (Contains (order ++ pin ∷ [])) (same_pin pin q (omega arith)) (Contains-push order pin)

-- the first counts, one more of which is read
pub ready-take_more : (counts : List ℕ) (order : List PinNo) (i : ℕ) → i < length counts → 0 < get_or counts i 0 → IsReady (take i counts) order → IsReady (take (i + 1) counts) order
ready-take_more counts order i lt some ready = subst (λ (xs : List ℕ). IsReady xs order) (sym (take_more counts i 0 lt)) (ready-more (take i counts) order (get_or counts i 0) some ready)

pub ready-take_zero : (counts : List ℕ) (order : List PinNo) (i : ℕ) → i < length counts → get_or counts i 0 ≡ 0 → IsReady (take i counts) order → IsReady (take (i + 1) counts) (order ++ (record { 0 = i }) ∷ [])
ready-take_zero counts order i lt none ready =
    let pin : PinNo = record { 0 = i } in
    subst (λ (xs : List ℕ). IsReady xs (order ++ pin ∷ [])) (sym (take_more counts i 0 lt ∙ ap (λ (n : ℕ). take i counts ++ n ∷ []) none))
    (ready-more_zero (take i counts) order pin (sym (length-take-le i counts (omega arith))) ready)
