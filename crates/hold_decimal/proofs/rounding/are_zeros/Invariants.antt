use Rattle.std.proofs.Common.{◌≡◌, drop}
use Rattle.hold_decimal.specs.Numeral.{AllDigits}
use Rattle.hold_base.specs.Digits.{number_of}
use Rattle.hold_decimal.proofs.rounding.are_zeros.Given as goal

abbrev pub invariant-loop-digit : goal.invariant-loop-digit
invariant-loop-digit l = AllDigits (drop l.digit-index l.digits) × (number_of (drop l.digit-index l.digits) ≡ number_of l.digits)
