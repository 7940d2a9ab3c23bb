use Rattle.std.proofs.Common.{arith}
use Rattle.hold_base.specs.Digits.{number_of}
use Rattle.hold_vsyntax.proofs.NumberLemmas.{number_from-zero, at_least_front}
use Rattle.hold_vsyntax.proofs.number.small.Goals as goal

pub loop-digit-init : goal.loop-digit-init
loop-digit-init c = record { rest = number_from-zero c.args.digits.now; in_range = omega arith }

pub returns-then-number-from-clause-none : goal.returns-then-number-from-clause-none
returns-then-number-from-clause-none c =
    omega (arith, at_least_front c.loop-digit.number (number_of c.args.digits.now) c.args.digits.now c.loop-digit.digit-index c.loop-digit-test.true c.loop-digit.invariant.rest)
