-- value_of n: the number that is kept: a small one by itself, any other by its digits.
-- IsKept n: a number is kept by itself where it is small, which is below 2^32, and else by its plain digits.
use Rattle.std.specs.Prelude.{ℕ, ◌<◌, ◌≤◌}
use Rattle.hold_base.specs.Digits.{number_of}
use Rattle.hold_vsyntax.specs.declared.number.Kept.{Kept}
use Rattle.hold_vsyntax.specs.declared.number.Kept.TheVariants.{Small, Digits}
use Rattle.hold_vsyntax.specs.Number.{IsPlain}

abbrev pub value_of : Kept → ℕ
value_of (Small n) = n
value_of (Digits digits) = number_of digits

abbrev pub IsKept : Kept → Type 0
IsKept (Small n) = n < 4294967296
IsKept (Digits digits) = (4294967296 ≤ number_of digits) × IsPlain digits
