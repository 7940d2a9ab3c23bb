use Rattle.std.proofs.Common.{◌≡◌, ◌+◌, drop}
use Rattle.hold_decimal.specs.inner.Reading.{leading}
use Rattle.hold_decimal.proofs.numeral.leading_digits.Given as goal

abbrev pub invariant-loop-i : goal.invariant-loop-i
invariant-loop-i l = l.i + leading (drop l.i l.text) ≡ leading l.text
