-- Signs: floors and ceilings of a magnitude and of its negation, and that each is one.
use Rattle.std.proofs.Common.{◌≡◌, ℕ, suc, zero, ◌*◌, ◌<◌, true, false, refl, sym, subst, arith}
use Rattle.std.proofs.Math.Nat.{lt_of_mul-lt-mul_right}
use Rattle.std.specs.Prelude.{ℤ, pos, negsuc, neg_ℤ, ◌+ℤ◌, ◌-ℤ◌, ◌*ℤ◌, ◌<ℤ◌}
use Rattle.std.proofs.lemmas.Int.{ints}
use Rattle.hold_decimal.specs.Rounding.{Fraction, signed_fraction, IsFloor, IsCeiling}
use Rattle.hold_decimal.specs.inner.Reading.{IsOutward}

neg-times : (a d : ℕ) → neg_ℤ (pos a) *ℤ pos d ≡ neg_ℤ (pos (a * d))
neg-times zero d = omega (arith, ints)
neg-times (suc a) d = refl

-- the floor and the ceiling of a magnitude
pub floor_above : (v d f c : ℕ) → IsOutward v d f c → IsFloor (signed_fraction false v d) (pos f)
floor_above v d f c o = record { at_most = omega (arith, ints); next_above = omega (arith, ints) }

pub ceiling_above : (v d f c : ℕ) → IsOutward v d f c → IsCeiling (signed_fraction false v d) (pos c)
ceiling_above v d f zero o = record { at_least = omega (arith, ints); last_below = omega (arith, ints) }
ceiling_above v d f (suc c) o =
    let last : (pos (suc c) -ℤ pos 1) ≡ pos c = omega (arith, ints) in
    let below : (pos c *ℤ pos d) <ℤ pos v = omega (arith, ints) in
    record { at_least = omega (arith, ints); last_below = subst (λ x. (x *ℤ pos d) <ℤ pos v) (sym last) below }

-- below 0 they change places
pub floor_below : (v d f c : ℕ) → IsOutward v d f c → IsFloor (signed_fraction true v d) (neg_ℤ (pos c))
floor_below v d f zero o = record { at_most = omega (arith, ints); next_above = omega (arith, ints) }
floor_below v d f (suc c) o =
    let next : (neg_ℤ (pos (suc c)) +ℤ pos 1) ≡ neg_ℤ (pos c) = omega (arith, ints) in
    let above : neg_ℤ (pos v) <ℤ (neg_ℤ (pos c) *ℤ pos d) = omega (arith, ints, neg-times c d) in
    record { at_most = omega (arith, ints); next_above = subst (λ x. neg_ℤ (pos v) <ℤ (x *ℤ pos d)) (sym next) above }

pub ceiling_below : (v d f c : ℕ) → IsOutward v d f c → IsCeiling (signed_fraction true v d) (neg_ℤ (pos f))
ceiling_below v d f c o =
    let last : (neg_ℤ (pos f) -ℤ pos 1) ≡ negsuc f = omega (arith, ints) in
    let below : (negsuc f *ℤ pos d) <ℤ neg_ℤ (pos v) = omega (arith, ints) in
    record { at_least = omega (arith, ints, neg-times f d); last_below = subst (λ x. (x *ℤ pos d) <ℤ neg_ℤ (pos v)) (sym last) below }

-- a factor above 0 can be taken off
pub times-cancel : (n m : ℤ) (d : ℕ) → (n *ℤ pos d) <ℤ (m *ℤ pos d) → n <ℤ m
times-cancel (pos a) (pos b) d h = let less : a < b = lt_of_mul-lt-mul_right d (omega (arith, ints)) in omega (arith, ints)
times-cancel (pos a) (negsuc b) d h = absurd (omega (arith, ints))
times-cancel (negsuc a) (pos b) d h = omega (arith, ints)
times-cancel (negsuc a) (negsuc b) d h = let less : suc b < suc a = lt_of_mul-lt-mul_right d (omega (arith, ints)) in omega (arith, ints)

pub floor-one : (f : Fraction) (n m : ℤ) → IsFloor f n → IsFloor f m → n ≡ m
floor-one f n m a b =
    let first : n <ℤ (m +ℤ pos 1) = times-cancel n (m +ℤ pos 1) f.denominator (omega (arith, ints)) in
    let second : m <ℤ (n +ℤ pos 1) = times-cancel m (n +ℤ pos 1) f.denominator (omega (arith, ints)) in
    omega (arith, ints)

pub ceiling-one : (f : Fraction) (n m : ℤ) → IsCeiling f n → IsCeiling f m → n ≡ m
ceiling-one f n m a b =
    let first : (n -ℤ pos 1) <ℤ m = times-cancel (n -ℤ pos 1) m f.denominator (omega (arith, ints)) in
    let second : (m -ℤ pos 1) <ℤ n = times-cancel (m -ℤ pos 1) n f.denominator (omega (arith, ints)) in
    omega (arith, ints)
