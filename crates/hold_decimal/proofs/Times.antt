-- Times: what the bounds of a magnitude say of a number's text, and that a text has one time.
use Rattle.std.proofs.Common.{◌≡◌, ℕ, suc, zero, ◌+◌, ◌*◌, ◌^◌, ◌<◌, ◌≤◌, Bool, true, false, List, length, refl, sym, subst, arith, inl, inr}
use Rattle.std.specs.Prelude.{pos, neg_ℤ, if◌then◌else◌, unsigned_abs}
use Rattle.hold_base.specs.Limits.{time_limit}
use Rattle.hold_base.specs.declared.time.Interval.{Interval}
use Rattle.hold_decimal.specs.Numeral.{Numeral, Spells}
use Rattle.hold_decimal.specs.inner.Reading.{IsOutward}
use Rattle.hold_decimal.specs.Rounding.{signed_fraction, digits_of, fraction_of, IsFloor, IsCeiling, PassesLimit, IsTime}
use Rattle.hold_decimal.proofs.Cuts.{numeral-one}
use Rattle.hold_decimal.proofs.Signs.{floor_above, ceiling_above, floor_below, ceiling_below, floor-one, ceiling-one}

floor_signed : (negative : Bool) (v d f c : ℕ) → IsOutward v d f c → IsFloor (signed_fraction negative v d) (if negative then neg_ℤ (pos c) else pos f)
floor_signed true v d f c o = floor_below v d f c o
floor_signed false v d f c o = floor_above v d f c o

ceiling_signed : (negative : Bool) (v d f c : ℕ) → IsOutward v d f c → IsCeiling (signed_fraction negative v d) (if negative then neg_ℤ (pos f) else pos c)
ceiling_signed true v d f c o = ceiling_below v d f c o
ceiling_signed false v d f c o = ceiling_above v d f c o

size-neg : (n : ℕ) → unsigned_abs (neg_ℤ (pos n)) ≡ n
size-neg zero = refl
size-neg (suc n) = refl

within_signed : (negative : Bool) (a b limit : ℕ) → a ≤ limit → b ≤ limit → unsigned_abs (if negative then neg_ℤ (pos a) else pos b) ≤ limit
within_signed true a b limit h k = subst (λ n. n ≤ limit) (sym (size-neg a)) h
within_signed false a b limit h k = k

-- the number's bounds, with its sign, are the text's time
pub time_of : (text : List ℕ) (n : Numeral) (scale f c : ℕ) (i : Interval) → Spells text n → IsOutward (digits_of n * 10 ^ (n.raise + scale)) (10 ^ (length n.part + n.lower)) f c → f ≤ time_limit → c ≤ time_limit →
    i.least ≡ (if n.negative then neg_ℤ (pos c) else pos f) → i.greatest ≡ (if n.negative then neg_ℤ (pos f) else pos c) → IsTime text scale i
time_of text n scale f c i s o low high least greatest = record {
  numeral = n;
  spelled = s;
  floor = subst (IsFloor (fraction_of n scale)) (sym least) (floor_signed n.negative _ _ f c o);
  ceiling = subst (IsCeiling (fraction_of n scale)) (sym greatest) (ceiling_signed n.negative _ _ f c o);
  least_within = subst (λ z. unsigned_abs z ≤ time_limit) (sym least) (within_signed n.negative c f _ high low);
  greatest_within = subst (λ z. unsigned_abs z ≤ time_limit) (sym greatest) (within_signed n.negative f c _ low high);
}

-- a ceiling of the magnitude past the limit
pub passes : (negative : Bool) (v d f c : ℕ) → IsOutward v d f c → time_limit < c → PassesLimit (signed_fraction negative v d)
passes true v d f c o h = inl (neg_ℤ (pos c), floor_below v d f c o, subst (λ n. time_limit < n) (sym (size-neg c)) h)
passes false v d f c o h = inr (pos c, ceiling_above v d f c o, h)

pub time-floor : (text : List ℕ) (scale : ℕ) (i : Interval) → IsTime text scale i → (n : Numeral) → Spells text n → IsFloor (fraction_of n scale) i.least
time-floor text scale i t n s = subst (λ m. IsFloor (fraction_of m scale) i.least) (numeral-one text t.numeral n t.spelled s) t.floor

pub time-ceiling : (text : List ℕ) (scale : ℕ) (i : Interval) → IsTime text scale i → (n : Numeral) → Spells text n → IsCeiling (fraction_of n scale) i.greatest
time-ceiling text scale i t n s = subst (λ m. IsCeiling (fraction_of m scale) i.greatest) (numeral-one text t.numeral n t.spelled s) t.ceiling

-- a text has one time at most
pub time-one : (text : List ℕ) (scale : ℕ) (i j : Interval) → IsTime text scale i → IsTime text scale j → i ≡ j
time-one text scale i j t u =
    let least = floor-one (fraction_of t.numeral scale) i.least j.least t.floor (time-floor text scale j u t.numeral t.spelled) in
    let greatest = ceiling-one (fraction_of t.numeral scale) i.greatest j.greatest t.ceiling (time-ceiling text scale j u t.numeral t.spelled) in
    λ k. record { least = least k; greatest = greatest k }

-- and where it has one, no end passes the limit
pub time-within : (text : List ℕ) (scale : ℕ) (i : Interval) → IsTime text scale i → (n : Numeral) → Spells text n → PassesLimit (fraction_of n scale) → ⊥
time-within text scale i t n s (inl (m, floor, beyond)) =
    let same = floor-one (fraction_of n scale) m i.least floor (time-floor text scale i t n s) in
    let low : unsigned_abs m ≤ time_limit = subst (λ z. unsigned_abs z ≤ time_limit) (sym same) t.least_within in
    absurd (omega arith)
time-within text scale i t n s (inr (m, ceiling, beyond)) =
    let same = ceiling-one (fraction_of n scale) m i.greatest ceiling (time-ceiling text scale i t n s) in
    let high : unsigned_abs m ≤ time_limit = subst (λ z. unsigned_abs z ≤ time_limit) (sym same) t.greatest_within in
    absurd (omega arith)
