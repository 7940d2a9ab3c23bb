-- Magnitudes of signed numbers: how they bound a number, and those of sums and products.
use Rattle.std.proofs.Common.{◌≡◌, ℕ, zero, suc, ◌+◌, ◌*◌, ◌≤◌, refl, arith}
use Rattle.std.specs.Prelude.{ℤ, pos, negsuc, neg_ℤ, ◌+ℤ◌, ◌*ℤ◌, unsigned_abs}
use Rattle.std.proofs.Math.Nat.{mul-le-mul_left, mul-le-mul_right}
use Rattle.std.proofs.lemmas.Int.{ints, unsigned_abs-mul}
use Rattle.hold_graph.specs.Problem.{IsWithin}

pub bounded : (number : ℤ) (most : ℕ) → unsigned_abs number ≤ most → IsWithin most number
bounded (pos n) most h = record { low = omega (arith, ints); high = omega (arith, ints, h) }
bounded (negsuc n) most h = record { low = omega (arith, ints, h); high = omega (arith, ints) }

pub unsigned_abs-le : (number : ℤ) (most : ℕ) → IsWithin most number → unsigned_abs number ≤ most
unsigned_abs-le (pos n) most h = let top = h.high in omega (arith, ints, top)
unsigned_abs-le (negsuc n) most h = let bottom = h.low in omega (arith, ints, bottom)

pub unsigned_abs-add : (a b : ℤ) → unsigned_abs (a +ℤ b) ≤ unsigned_abs a + unsigned_abs b
unsigned_abs-add a b =
    let first = bounded a (unsigned_abs a) (omega arith) in
    let second = bounded b (unsigned_abs b) (omega arith) in
    unsigned_abs-le (a +ℤ b) (unsigned_abs a + unsigned_abs b) (record { low = omega (arith, ints, first.low, second.low); high = omega (arith, ints, first.high, second.high) })

pub unsigned_abs-neg : (a : ℤ) → unsigned_abs (neg_ℤ a) ≡ unsigned_abs a
unsigned_abs-neg (pos zero) = refl
unsigned_abs-neg (pos (suc n)) = refl
unsigned_abs-neg (negsuc n) = refl

-- a multiple's magnitude, where the number's is bounded
pub unsigned_abs-times : (times most : ℕ) (number : ℤ) → unsigned_abs number ≤ most → unsigned_abs (pos times *ℤ number) ≤ times * most
unsigned_abs-times times most number h =
    let product = unsigned_abs-mul (pos times) number in
    let grows = mul-le-mul_left times h in
    omega (arith, product, grows)

pub unsigned_abs-times_right : (times most : ℕ) (number : ℤ) → unsigned_abs number ≤ most → unsigned_abs (number *ℤ pos times) ≤ most * times
unsigned_abs-times_right times most number h =
    let product = unsigned_abs-mul number (pos times) in
    let grows = mul-le-mul_right times h in
    omega (arith, product, grows)
