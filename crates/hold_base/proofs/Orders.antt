-- Order of numbers: what follows where the other way never holds, and signs.
use Rattle.std.proofs.Common.{◌≡◌, ℕ, zero, suc, ◌<◌, ◌≤◌, true, false, refl, ◌⊎◌, inl, inr, leb, arith}
use Rattle.std.proofs.lemmas.Int.{ints, clamps}
use Rattle.std.specs.Prelude.{ℤ, neg_ℤ}
use Rattle.std.specs.Int.{int_min, int_max}
use Rattle.std.proofs.lemmas.Bool.Decides.{leb_tells}

pub le-never : (a b : ℕ) → (b < a → ⊥) → a ≤ b
le-never a b never = by_test (leb_tells a b)
  where
    by_test : ((leb a b ≡ true) × (a ≤ b)) ⊎ ((leb a b ≡ false) × (b < a)) → a ≤ b
    by_test (inl h) = h.1
    by_test (inr h) = absurd (never h.1)

pub zero-never : (n : ℕ) → (0 < n → ⊥) → n ≡ 0
zero-never zero h = refl
zero-never (suc n) h = absurd (h (omega arith))

pub int_min-neg : (a b : ℤ) → int_min (neg_ℤ a) (neg_ℤ b) ≡ neg_ℤ (int_max a b)
int_min-neg a b = omega (arith, ints, clamps)
