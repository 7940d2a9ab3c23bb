-- The value of a number, and the whole numbers beside it.
--
-- Fraction: a whole number over a denominator; every denominator here is a power of ten.
-- signed_fraction negative magnitude denominator: the magnitude over the denominator, with a minus where it is negative.
-- digits_of n: the number's digits before the point and after it, read as one whole number.
-- fraction_of n scale: the number's exact value times 10 ^ scale: all its digits, with its sign, times the powers that raise it, over
--   the powers that lower it and one ten for each digit after the point. `-0.0` has the value 0.
-- IsFloor f n: n is the greatest whole number that is at most f. IsCeiling f n: the least that is at least f.
-- IsBeyond n: n passes the limit of times, 10 ^ 10, in magnitude; the limit itself doesn't, on either side.
-- PassesLimit f: the floor or the ceiling of f does.
-- IsTime text scale i: the text spells a number whose value lies in i, each end the nearest whole number outward and none beyond the limit.
use Rattle.std.specs.Prelude.{ℕ, ◌+◌, ◌*◌, ◌^◌, ◌<◌, ◌≤◌, ◌⊎◌, Bool, if◌then◌else◌, List, ◌++◌, length, ℤ, pos, neg_ℤ, ◌+ℤ◌, ◌-ℤ◌, ◌*ℤ◌, ◌≤ℤ◌, ◌<ℤ◌, unsigned_abs}
use Rattle.hold_base.specs.declared.time.Interval.{Interval}
use Rattle.hold_decimal.specs.Numeral.{Numeral, Spells}
use Rattle.hold_base.specs.Digits.{number_of}
use Rattle.hold_base.specs.Limits.{time_limit}

-- a whole number over a denominator
pub record Fraction : Type 0 where
  pub numerator : ℤ
  pub denominator : ℕ

-- the magnitude over the denominator, with its sign
abbrev pub signed_fraction : Bool → ℕ → ℕ → Fraction
signed_fraction negative magnitude denominator =
    record { numerator = (if negative then neg_ℤ (pos magnitude) else pos magnitude); denominator = denominator }

-- the number's digits as a whole number, without the point
abbrev pub digits_of : Numeral → ℕ
digits_of n = number_of (n.whole ++ n.part)

-- the exact value at that scale
abbrev pub fraction_of : Numeral → ℕ → Fraction
fraction_of n scale = signed_fraction n.negative (digits_of n * 10 ^ (n.raise + scale)) (10 ^ (length n.part + n.lower))

-- n ≤ f < n + 1
pub record IsFloor (f : Fraction) (n : ℤ) : Type 0 where
  pub at_most : (n *ℤ pos f.denominator) ≤ℤ f.numerator
  pub next_above : f.numerator <ℤ ((n +ℤ pos 1) *ℤ pos f.denominator)

-- n - 1 < f ≤ n
pub record IsCeiling (f : Fraction) (n : ℤ) : Type 0 where
  pub at_least : f.numerator ≤ℤ (n *ℤ pos f.denominator)
  pub last_below : ((n -ℤ pos 1) *ℤ pos f.denominator) <ℤ f.numerator

-- past the limit in magnitude
abbrev pub IsBeyond : ℤ → Type 0
IsBeyond n = time_limit < unsigned_abs n

-- the floor or the ceiling is beyond the limit
abbrev pub PassesLimit : Fraction → Type 0
PassesLimit f = ((n : ℤ) × IsFloor f n × IsBeyond n) ⊎ ((n : ℤ) × IsCeiling f n × IsBeyond n)

-- the text's number lies from i's least end to its greatest, each the whole number beside it
pub record IsTime (text : List ℕ) (scale : ℕ) (i : Interval) : Type 0 where
  pub numeral : Numeral
  pub spelled : Spells text numeral
  pub floor : IsFloor (fraction_of numeral scale) i.least
  pub ceiling : IsCeiling (fraction_of numeral scale) i.greatest
  pub least_within : unsigned_abs i.least ≤ time_limit
  pub greatest_within : unsigned_abs i.greatest ≤ time_limit
