-- What is left of a weight: when something is, the terms are orderly, and together they have taken the rest.
use Rattle.std.proofs.Common.{◌≡◌, ℕ, zero, suc, ◌+◌, ◌-◌, ◌<◌, ◌≤◌, List, [], ◌∷◌, length, map, get_or, refl, ap, ◌∙◌, arith}
use Rattle.std.specs.Prelude.{Some, option_and_then, All}
use Rattle.std.specs.List.Sorted.{IsStrictlyIncreasing}
use Rattle.std.proofs.lemmas.Bool.Decides.{nat_tests}
use Rattle.std.proofs.lemmas.List.Sums.{sum_by-cons}
use Rattle.std.proofs.lemmas.List.Elements.{All-nil, All-cons, All-head, All-tail}
use Rattle.std.proofs.lemmas.Option.{same_Some}
use Rattle.hold_base.proofs.Options.{option_and_then-Some}
use Rattle.hold_proof.specs.inner.Basis.{total}
use Rattle.hold_proof.specs.inner.Fitness.{left_behind, left_of, AreOrderlyFrom, AreOrderlyTerms}

-- behind a term that may stand there
record IsBehind (weight least count number times left : ℕ) : Type 0 where
  from_least : least ≤ number
  below_count : number < count
  some : 1 ≤ times
  takes : left + times ≡ weight

left_behind-some : (weight least count number times left : ℕ) → left_behind weight least count number times ≡ Some left → IsBehind weight least count number times left
left_behind-some weight least count number times left is = grind (arith, nat_tests)

left_behind-all : (weight least count number times : ℕ) → least ≤ number → number < count → 1 ≤ times → times ≤ weight → left_behind weight least count number times ≡ Some (weight - times)
left_behind-all weight least count number times from_least below_count some within = grind (arith, nat_tests)

pub left_of-some : {X : Type 0} (number : X → ℕ) (count least weight : ℕ) (terms : List (X × ℕ)) (left : ℕ) → left_of number count least weight terms ≡ Some left →
    AreOrderlyFrom number least count terms × (left + total terms ≡ weight)
left_of-some number count least weight [] left is = let same = same_Some _ _ is in (tt, omega (arith, same))
left_of-some number count least weight (term ∷ terms) left is =
    let found = option_and_then-Some (λ (now : ℕ). left_of number count (number term.0 + 1) now terms) (left_behind weight least count (number term.0) term.1) left is in
    let behind = left_behind-some weight least count (number term.0) term.1 found.0 found.1 in
    let rest = left_of-some number count (number term.0 + 1) found.0 terms left found.2 in
    let takes = behind.takes in
    let sums = rest.1 in
    ((behind.from_least, behind.below_count, behind.some, rest.0), omega (arith, takes, sums, sum_by-cons (λ (t : _ × ℕ). t.1) term terms))

-- and it is left where they are orderly and don't take more
pub left_of-all : {X : Type 0} (number : X → ℕ) (count least weight : ℕ) (terms : List (X × ℕ)) → AreOrderlyFrom number least count terms → total terms ≤ weight →
    (left : ℕ) × (left_of number count least weight terms ≡ Some left) × (left + total terms ≡ weight)
left_of-all number count least weight [] orderly within = (weight, refl, omega arith)
left_of-all number count least weight (term ∷ terms) orderly within =
    let sums = sum_by-cons (λ (t : _ × ℕ). t.1) term terms in
    let now = left_behind-all weight least count (number term.0) term.1 orderly.0 orderly.1 orderly.2 (omega (arith, sums, within)) in
    let rest = left_of-all number count (number term.0 + 1) (weight - term.1) terms orderly.3 (omega (arith, sums, within)) in
    let whole = rest.2 in
    (rest.0, ap (option_and_then (λ (left : ℕ). left_of number count (number term.0 + 1) left terms)) now ∙ rest.1, omega (arith, sums, whole, within))

-- orderly terms by their numbers and multipliers
orderly-rise : {X : Type 0} (number : X → ℕ) (count least : ℕ) (terms : List (X × ℕ)) → AreOrderlyFrom number least count terms →
    IsStrictlyIncreasing (map (λ (term : X × ℕ). number term.0) terms)
orderly-rise number count least [] h = λ k below. absurd (omega arith)
orderly-rise number count least (a ∷ []) h = λ k below. absurd (omega arith)
orderly-rise number count least (a ∷ b ∷ terms) h = λ k below. by k below (orderly-rise number count (number a.0 + 1) (b ∷ terms) h.3)
  where
    by : (k : ℕ) → k + 1 < length (map (λ (term : _ × ℕ). number term.0) (a ∷ b ∷ terms)) → IsStrictlyIncreasing (map (λ (term : _ × ℕ). number term.0) (b ∷ terms)) →
        get_or (map (λ (term : _ × ℕ). number term.0) (a ∷ b ∷ terms)) k 0 < get_or (map (λ (term : _ × ℕ). number term.0) (a ∷ b ∷ terms)) (k + 1) 0
    by zero below rest = let first = h.3.0 in omega (arith, first)
    by (suc k) below rest =
        let here = rest k (omega arith) in
        let next : suc k + 1 ≡ suc (k + 1) = omega arith in
        omega (arith, here, ap (λ n. get_or (map (λ (term : _ × ℕ). number term.0) (a ∷ b ∷ terms)) n 0) next)

orderly-each : {X : Type 0} (number : X → ℕ) (count least : ℕ) (terms : List (X × ℕ)) → AreOrderlyFrom number least count terms →
    All (λ (term : X × ℕ). number term.0 < count) terms × All (λ (term : X × ℕ). 1 ≤ term.1) terms
orderly-each number count least [] h = (All-nil (λ (t : _ × ℕ). number t.0 < count), All-nil (λ (t : _ × ℕ). 1 ≤ t.1))
orderly-each number count least (term ∷ terms) h =
    let rest = orderly-each number count (number term.0 + 1) terms h.3 in (
      All-cons (λ (t : _ × ℕ). number t.0 < count) term terms h.1 rest.0,
      All-cons (λ (t : _ × ℕ). 1 ≤ t.1) term terms h.2 rest.1,
    )

pub orderly-terms : {X : Type 0} (number : X → ℕ) (count : ℕ) (terms : List (X × ℕ)) → AreOrderlyFrom number 0 count terms → AreOrderlyTerms number count terms
orderly-terms number count terms h =
    let each = orderly-each number count 0 terms h in
    record { rise = orderly-rise number count 0 terms h; there = each.0; times = each.1 }

rising-tail : (x : ℕ) (xs : List ℕ) → IsStrictlyIncreasing (x ∷ xs) → IsStrictlyIncreasing xs
rising-tail x xs h = λ k below.
    let here = h (suc k) (omega arith) in
    let next : suc k + 1 ≡ suc (k + 1) = omega arith in
    omega (arith, here, ap (λ n. get_or (x ∷ xs) n 0) next)

orderly-from : {X : Type 0} (number : X → ℕ) (count least : ℕ) (term : X × ℕ) (terms : List (X × ℕ)) → least ≤ number term.0 → IsStrictlyIncreasing (map (λ (t : X × ℕ). number t.0) (term ∷ terms)) →
    All (λ (t : X × ℕ). number t.0 < count) (term ∷ terms) → All (λ (t : X × ℕ). 1 ≤ t.1) (term ∷ terms) → AreOrderlyFrom number least count (term ∷ terms)
orderly-from number count least term [] first rise there times =
    (first, All-head (λ (t : _ × ℕ). number t.0 < count) term [] there, All-head (λ (t : _ × ℕ). 1 ≤ t.1) term [] times, tt)
orderly-from number count least term (next ∷ terms) first rise there times =
    let two = rise 0 (omega arith) in (
      first,
      All-head (λ (t : _ × ℕ). number t.0 < count) term (next ∷ terms) there,
      All-head (λ (t : _ × ℕ). 1 ≤ t.1) term (next ∷ terms) times,
      orderly-from number count (number term.0 + 1) next terms (omega (arith, two)) (rising-tail (number term.0) (map (λ (t : _ × ℕ). number t.0) (next ∷ terms)) rise)
          (All-tail (λ (t : _ × ℕ). number t.0 < count) term (next ∷ terms) there) (All-tail (λ (t : _ × ℕ). 1 ≤ t.1) term (next ∷ terms) times),
    )

pub terms-orderly : {X : Type 0} (number : X → ℕ) (count : ℕ) (terms : List (X × ℕ)) → AreOrderlyTerms number count terms → AreOrderlyFrom number 0 count terms
terms-orderly number count [] h = tt
terms-orderly number count (term ∷ terms) h = orderly-from number count 0 term terms (omega arith) h.rise h.there h.times
