-- Decimal digits (is_ascii_digit, from 48 to 57), texts of digits alone, and powers of ten.
use Rattle.std.proofs.Common.{◌≡◌, ℕ, zero, suc, ◌+◌, ◌-◌, ◌*◌, ◌<◌, ◌≤◌, List, [], ◌∷◌, true, false, ap, ◌∙◌, ◌⊎◌, inl, inr, arith, pow-add, pow-suc, mul-le-mul_left}
use Rattle.std.specs.Prelude.{◌^◌, IsTrue, length}
use Rattle.hold_base.specs.Digits.{number_of}
use Rattle.hold_base.specs.inner.Digits.{number_from}
use Rattle.std.specs.Char.{is_ascii_digit}
use Rattle.std.specs.List.{list_all}
use Rattle.std.proofs.lemmas.Bool.{and_parts}
use Rattle.std.proofs.lemmas.Bool.Decides.{nat_tests}

pub is_ascii_digit-within : (b : ℕ) → 48 ≤ b → b ≤ 57 → is_ascii_digit b ≡ true
is_ascii_digit-within b low high = grind (arith, nat_tests)

pub is_ascii_digit-bounds : (b : ℕ) → is_ascii_digit b ≡ true → (48 ≤ b) × (b ≤ 57)
is_ascii_digit-bounds b h = grind (arith, nat_tests)

pub is_ascii_digit-outside : (b : ℕ) → (b < 48) ⊎ (57 < b) → is_ascii_digit b ≡ false
is_ascii_digit-outside b (inl low) = grind (arith, nat_tests)
is_ascii_digit-outside b (inr high) = grind (arith, nat_tests)

pub digits-cons : (d : ℕ) (ds : List ℕ) → IsTrue (list_all is_ascii_digit (d ∷ ds)) → (48 ≤ d) × (d ≤ 57) × IsTrue (list_all is_ascii_digit ds)
digits-cons d ds h =
    let parts = and_parts (is_ascii_digit d) (list_all is_ascii_digit ds) h in
    let first : is_ascii_digit d ≡ true = parts.0 in
    (grind (arith, nat_tests), grind (arith, nat_tests), parts.1)

pub ten-pos : (k : ℕ) → 0 < 10 ^ k
ten-pos zero = omega arith
ten-pos (suc k) = omega (arith, ten-pos k, pow-suc 10 k)

pub ten-split : (i j : ℕ) → i ≤ j → 10 ^ j ≡ 10 ^ (j - i) * 10 ^ i
ten-split i j h = ap (λ n. 10 ^ n) (let e : j ≡ (j - i) + i = omega arith in e) ∙ pow-add 10 (j - i) i

pub ten-mono : (i j : ℕ) → i ≤ j → 10 ^ i ≤ 10 ^ j
ten-mono i j h =
    let split : 10 ^ j ≡ 10 ^ i * 10 ^ (j - i) = ap (λ n. 10 ^ n) (let e : j ≡ i + (j - i) = omega arith in e) ∙ pow-add 10 i (j - i) in
    omega (arith, split, mul-le-mul_left (10 ^ i) (ten-pos (j - i)))

-- digits behind those of a number
pub number_from-is : (n : ℕ) (ds : List ℕ) → number_from n ds ≡ n * 10 ^ length ds + number_of ds
number_from-is n [] = omega arith
number_from-is n (d ∷ ds) = omega (arith, number_from-is (n * 10 + (d - 48)) ds, ap (λ t. n * t) (pow-suc 10 (length ds)))
