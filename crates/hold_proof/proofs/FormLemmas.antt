-- Factors: what a change of one does to the value and the norm, and that clearing undoes adding.
use Rattle.std.proofs.Common.{◌≡◌, ◌≢◌, ℕ, zero, suc, ◌+◌, ◌<◌, ◌≤◌, List, [], ◌∷◌, length, get_or, set, replicate, refl, sym, ap, ◌∙◌, ◌⊎◌, inl, inr, arith}
use Rattle.std.specs.Prelude.{ℤ, pos, ◌+ℤ◌, ◌*ℤ◌, unsigned_abs}
use Rattle.std.specs.List.{AllByRecursion}
use Rattle.std.proofs.lemmas.Int.{ints}
use Rattle.std.proofs.lemmas.List.{length-set, set-set, set_comm}
use Rattle.std.proofs.lemmas.Bool.{cases_order}
use Rattle.hold_proof.specs.inner.Forms.{form_value, terms_value, raised, added, cleared, norm}
use Rattle.hold_proof.proofs.Magnitudes.{unsigned_abs-add}
use Rattle.hold_proof.proofs.Products.{times-add_left}

pub form_value-set : (factors : List ℤ) (counts : List ℕ) (var : ℕ) (factor : ℤ) → var < length factors → length counts ≡ length factors →
    form_value (set factors var factor) counts +ℤ (get_or factors var (pos 0) *ℤ pos (get_or counts var 0)) ≡ form_value factors counts +ℤ (factor *ℤ pos (get_or counts var 0))
form_value-set [] counts var factor there each = absurd (omega arith)
form_value-set (old ∷ factors) [] var factor there each = absurd (omega arith)
form_value-set (old ∷ factors) (count ∷ counts) zero factor there each = omega (arith, ints)
form_value-set (old ∷ factors) (count ∷ counts) (suc var) factor there each =
    let rest = form_value-set factors counts var factor (omega arith) (omega arith) in omega (arith, ints, rest)

pub form_value-raised : (factors : List ℤ) (counts : List ℕ) (var : ℕ) (by : ℤ) → var < length factors → length counts ≡ length factors →
    form_value (raised factors var by) counts ≡ form_value factors counts +ℤ (by *ℤ pos (get_or counts var 0))
form_value-raised factors counts var by there each =
    let change = form_value-set factors counts var (get_or factors var (pos 0) +ℤ by) there each in
    let sum = times-add_left (get_or factors var (pos 0)) by (pos (get_or counts var 0)) in
    omega (arith, ints, change, sum)

-- each term's variable is one of so many
abbrev pub AreBelow : ℕ → List (ℕ × ℤ) → Type 0
AreBelow vars = AllByRecursion (λ term. term.0 < vars)

pub form_value-added : (terms : List (ℕ × ℤ)) (factors : List ℤ) (counts : List ℕ) → AreBelow (length factors) terms → length counts ≡ length factors →
    form_value (added terms factors) counts ≡ form_value factors counts +ℤ terms_value terms counts
form_value-added [] factors counts there each = omega (arith, ints)
form_value-added (term ∷ terms) factors counts there each =
    let long = length-set factors term.0 (get_or factors term.0 (pos 0) +ℤ term.1) in
    let first = form_value-raised factors counts term.0 term.1 there.0 each in
    let rest = form_value-added terms (raised factors term.0 term.1) counts (below long there.1) (omega (arith, long, each)) in
    omega (arith, ints, first, rest)
  where
    below : length (raised factors term.0 term.1) ≡ length factors → AreBelow (length factors) terms → AreBelow (length (raised factors term.0 term.1)) terms
    below same h = rw same h

pub length-added : (terms : List (ℕ × ℤ)) (factors : List ℤ) → length (added terms factors) ≡ length factors
length-added [] factors = refl
length-added (term ∷ terms) factors = length-added terms (raised factors term.0 term.1) ∙ length-set factors term.0 _

pub length-cleared : (vars : List ℕ) (factors : List ℤ) → length (cleared vars factors) ≡ length factors
length-cleared [] factors = refl
length-cleared (var ∷ vars) factors = length-cleared vars (set factors var (pos 0)) ∙ length-set factors var (pos 0)

pub norm-set : (factors : List ℤ) (var : ℕ) (factor : ℤ) → var < length factors →
    norm (set factors var factor) + unsigned_abs (get_or factors var (pos 0)) ≡ norm factors + unsigned_abs factor
norm-set [] var factor there = absurd (omega arith)
norm-set (old ∷ factors) zero factor there = omega arith
norm-set (old ∷ factors) (suc var) factor there = let rest = norm-set factors var factor (omega arith) in omega (arith, rest)

pub norm-at : (factors : List ℤ) (var : ℕ) → unsigned_abs (get_or factors var (pos 0)) ≤ norm factors
norm-at [] var = omega arith
norm-at (factor ∷ factors) zero = omega arith
norm-at (factor ∷ factors) (suc var) = let rest = norm-at factors var in omega (arith, rest)

pub norm-raised : (factors : List ℤ) (var : ℕ) (by : ℤ) → var < length factors → norm (raised factors var by) ≤ norm factors + unsigned_abs by
norm-raised factors var by there =
    let change = norm-set factors var (get_or factors var (pos 0) +ℤ by) there in
    let sum = unsigned_abs-add (get_or factors var (pos 0)) by in
    omega (arith, change, sum)

pub norm-replicate : (vars : ℕ) → norm (replicate vars (pos 0)) ≡ 0
norm-replicate zero = refl
norm-replicate (suc vars) = let rest = norm-replicate vars in omega (arith, rest)

set-replicate : (vars var : ℕ) → set (replicate vars (pos 0)) var (pos 0) ≡ replicate vars (pos 0)
set-replicate zero var = refl
set-replicate (suc vars) zero = refl
set-replicate (suc vars) (suc var) = ap (λ l. pos 0 ∷ l) (set-replicate vars var)

pub cleared-replicate : (vars : List ℕ) (n : ℕ) → cleared vars (replicate n (pos 0)) ≡ replicate n (pos 0)
cleared-replicate [] n = refl
cleared-replicate (var ∷ vars) n = ap (cleared vars) (set-replicate n var) ∙ cleared-replicate vars n

-- one of these is the variable
abbrev pub IsAmong : ℕ → List ℕ → Type 0
IsAmong var [] = ⊥
IsAmong var (other ∷ others) = (other ≡ var) ⊎ IsAmong var others

cleared-set_here : (vars : List ℕ) (factors : List ℤ) (first var : ℕ) (factor : ℤ) → first ≡ var →
    cleared vars (set (set factors var factor) first (pos 0)) ≡ cleared vars (set factors first (pos 0))
cleared-set_here vars factors first var factor same = ap (cleared vars) (rw same (set-set factors var factor (pos 0)))

-- what is cleared in the end may be set before
pub cleared-set : (vars : List ℕ) (factors : List ℤ) (var : ℕ) (factor : ℤ) → IsAmong var vars → cleared vars (set factors var factor) ≡ cleared vars factors
cleared-set [] factors var factor among = absurd among
cleared-set (first ∷ vars) factors var factor among = elim among [
  | inl same ↦ cleared-set_here vars factors first var factor same
  | inr later ↦ behind (cleared-set vars (set factors first (pos 0)) var factor later) (cases_order first var)
]
  where
    apart : first ≢ var → cleared vars (set (set factors first (pos 0)) var factor) ≡ cleared vars (set factors first (pos 0)) →
        cleared vars (set (set factors var factor) first (pos 0)) ≡ cleared vars (set factors first (pos 0))
    apart other rest = ap (cleared vars) (set_comm factors var first factor (pos 0) (λ same. other (sym same))) ∙ rest

    behind : cleared vars (set (set factors first (pos 0)) var factor) ≡ cleared vars (set factors first (pos 0)) →
        (first ≡ var) ⊎ ((first < var) ⊎ (var < first)) → cleared vars (set (set factors var factor) first (pos 0)) ≡ cleared vars (set factors first (pos 0))
    behind rest order = elim order [
      | inl same ↦ cleared-set_here vars factors first var factor same
      | inr other ↦ elim other [ inl below ↦ apart (λ same. omega arith) rest | inr above ↦ apart (λ same. omega arith) rest ]
    ]

-- clearing undoes adding
pub cleared-added : (terms : List (ℕ × ℤ)) (vars : List ℕ) (factors : List ℤ) → AllByRecursion (λ (term : ℕ × ℤ). IsAmong term.0 vars) terms →
    cleared vars (added terms factors) ≡ cleared vars factors
cleared-added [] vars factors among = refl
cleared-added (term ∷ terms) vars factors among =
    cleared-added terms vars (raised factors term.0 term.1) among.1 ∙ cleared-set vars factors term.0 _ among.0
