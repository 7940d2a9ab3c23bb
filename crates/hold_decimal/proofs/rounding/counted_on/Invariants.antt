use Rattle.std.proofs.Common.{◌≡◌, ℕ, ◌+◌, ◌*◌, ◌^◌, ◌≤◌, min, List, length, drop}
use Rattle.hold_base.specs.Limits.{time_limit}
use Rattle.hold_decimal.specs.Numeral.{AllDigits}
use Rattle.hold_base.specs.Digits.{number_of}
use Rattle.hold_decimal.proofs.rounding.counted_on.Given as goal

-- what is counted goes on over the digits that are left to the number of all
pub record Counting (count : ℕ) (left digits : List ℕ) (first : ℕ) : Type 0 where
  pub within : count ≤ time_limit + 1
  pub digits_left : AllDigits left
  pub same : min (count * 10 ^ length left + number_of left) (time_limit + 1) ≡ min (first * 10 ^ length digits + number_of digits) (time_limit + 1)

abbrev pub invariant-loop-digit : goal.invariant-loop-digit
invariant-loop-digit l = Counting l.count (drop l.digit-index l.digits) l.digits l.initial.count
