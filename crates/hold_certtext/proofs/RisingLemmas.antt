-- Numbers that rise, from one on.
use Rattle.std.proofs.Common.{◌≡◌, ℕ, zero, suc, ◌+◌, ◌<◌, ◌≤◌, List, [], ◌∷◌, length, get_or, ap, arith}
use Rattle.std.specs.List.Sorted.{IsStrictlyIncreasing}

-- the numbers rise, and the first is at least this one
abbrev pub RisesFrom : ℕ → List ℕ → Type 0
RisesFrom least [] = Unit {0}
RisesFrom least (x ∷ xs) = (least ≤ x) × RisesFrom (x + 1) xs

pub rises-increasing : (least : ℕ) (xs : List ℕ) → RisesFrom least xs → IsStrictlyIncreasing xs
rises-increasing least [] h = λ k below. absurd (omega arith)
rises-increasing least (x ∷ []) h = λ k below. absurd (omega arith)
rises-increasing least (x ∷ y ∷ ys) h = λ k below. by k below (rises-increasing (x + 1) (y ∷ ys) h.1)
  where
    by : (k : ℕ) → k + 1 < length (x ∷ y ∷ ys) → IsStrictlyIncreasing (y ∷ ys) → get_or (x ∷ y ∷ ys) k 0 < get_or (x ∷ y ∷ ys) (k + 1) 0
    by zero below rest = let first = h.1.0 in omega (arith, first)
    by (suc k) below rest =
        let here = rest k (omega arith) in
        let next : suc k + 1 ≡ suc (k + 1) = omega arith in
        omega (arith, here, ap (λ n. get_or (x ∷ y ∷ ys) n 0) next)

increasing-tail : (x : ℕ) (xs : List ℕ) → IsStrictlyIncreasing (x ∷ xs) → IsStrictlyIncreasing xs
increasing-tail x xs h = λ k below.
    let here = h (suc k) (omega arith) in
    let next : suc k + 1 ≡ suc (k + 1) = omega arith in
    omega (arith, here, ap (λ n. get_or (x ∷ xs) n 0) next)

pub increasing-rises : (least : ℕ) (xs : List ℕ) → IsStrictlyIncreasing xs → least ≤ get_or xs 0 least → RisesFrom least xs
increasing-rises least [] h first = tt
increasing-rises least (x ∷ []) h first = (first, tt)
increasing-rises least (x ∷ y ∷ ys) h first =
    let two = h 0 (omega arith) in (first, increasing-rises (x + 1) (y ∷ ys) (increasing-tail x (y ∷ ys) h) (omega (arith, two)))

pub rises-zero : (xs : List ℕ) → IsStrictlyIncreasing xs → RisesFrom 0 xs
rises-zero xs h = increasing-rises 0 xs h (omega arith)
