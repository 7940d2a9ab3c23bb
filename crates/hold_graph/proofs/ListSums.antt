-- Sums and counts over lists (sum_by, count_by): sums that agree or add up item by item, and what a count tells of its items.
use Rattle.std.proofs.Common.{◌≡◌, ℕ, zero, suc, ◌+◌, ◌<◌, Bool, true, false, ◌&&◌, cond, List, [], ◌∷◌, length, get_or, refl, ap, ◌∙◌, arith, ◌⊎◌, inl, inr}
use Rattle.std.specs.Prelude.{All, Contains, count_by}
use Rattle.std.specs.List.{sum_by}
use Rattle.std.proofs.lemmas.Bool.{cases_Bool}
use Rattle.std.proofs.lemmas.List.Elements.{All-head, All-tail}
use Rattle.std.proofs.lemmas.List.Sums.{sum_by-cons, get_or-le-sum_by}

pub and-true_right : (b : Bool) → (b && true) ≡ b
and-true_right true = refl
and-true_right false = refl

pub sum_by-add : {X : Type 0} (f g h : X → ℕ) → ((x : X) → f x + g x ≡ h x) → (xs : List X) → sum_by f xs + sum_by g xs ≡ sum_by h xs
sum_by-add f g h same [] = refl
sum_by-add f g h same (x ∷ xs) =
    let a = sum_by-cons f x xs in
    let b = sum_by-cons g x xs in
    let c = sum_by-cons h x xs in
    let e = same x in
    let r = sum_by-add f g h same xs in
    omega arith

-- a count that is not 0 has an item
pub count_by-found : {X : Type 0} (p : X → Bool) (xs : List X) → 0 < count_by p xs → (x : X) × Contains xs x × (p x ≡ true)
count_by-found p [] some = absurd (omega arith)
count_by-found {X} p (x ∷ xs) some = by_test (count_by-found p xs) (cases_Bool (p x))
  where
    by_test : (0 < count_by p xs → (y : X) × Contains xs y × (p y ≡ true)) → ((p x ≡ true) ⊎ (p x ≡ false)) → (y : X) × Contains (x ∷ xs) y × (p y ≡ true)
    by_test later (inl here) = (x, (zero, omega arith, refl), here)
    by_test later (inr other) =
        let e = sum_by-cons (λ (y : X). cond (p y) 1 0) x xs in
        let none : cond {A = ℕ} (p x) 1 0 ≡ 0 = ap (λ (b : Bool). cond {A = ℕ} b 1 0) other in
        let found = later (omega arith) in
        (found.0, (suc found.1.0, (let l = found.1.1 in omega arith), found.1.2), found.2)

-- an item that passes is counted
pub count_by-has : {X : Type 0} (p : X → Bool) (xs : List X) (x : X) → Contains xs x → p x ≡ true → 0 < count_by p xs
count_by-has {X} p xs x has is =
    let most = get_or-le-sum_by (λ (y : X). cond (p y) 1 0) xs has.0 x has.1 in
    let one : cond {A = ℕ} (p (get_or xs has.0 x)) 1 0 ≡ 1 = ap (λ (y : X). cond {A = ℕ} (p y) 1 0) has.2 ∙ ap (λ (b : Bool). cond b 1 0) is in
    omega arith

-- where each item passes, all are counted
pub count_by-all : {X : Type 0} (p : X → Bool) (xs : List X) → All (λ x. p x ≡ true) xs → count_by p xs ≡ length xs
count_by-all p [] passes = refl
count_by-all {X} p (x ∷ xs) passes =
    let e = sum_by-cons (λ (y : X). cond {A = ℕ} (p y) 1 0) x xs in
    let one : cond {A = ℕ} (p x) 1 0 ≡ 1 = ap (λ (b : Bool). cond {A = ℕ} b 1 0) (All-head (λ (y : X). p y ≡ true) x xs passes) in
    let rest = count_by-all p xs (All-tail (λ (y : X). p y ≡ true) x xs passes) in
    omega arith
