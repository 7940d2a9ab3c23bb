use Rattle.std.proofs.Common.{sym, subst, ap, ◌∙◌}
use Rattle.std.proofs.lemmas.List.{drop_more}
use Rattle.hold_decimal.specs.Numeral.{AllDigits}
use Rattle.hold_base.specs.Digits.{number_of}
use Rattle.hold_decimal.proofs.Digits.{not_zero}
use Rattle.hold_decimal.proofs.rounding.are_zeros.Goals as goal

-- a digit other than 0 makes the number of those from it on more than 0
pub returns-then-digit-ne48 : goal.returns-then-digit-ne48
returns-then-digit-ne48 c =
    let cons = drop_more c.args.digits.now c.loop-digit.digit-index 0 c.loop-digit-test.true in
    let digits = subst AllDigits cons c.loop-digit.invariant.0 in
    (λ f. absurd (cc), λ e. absurd (not_zero _ _ digits.0 c.if-digit-ne48.true (ap number_of (sym cons) ∙ c.loop-digit.invariant.1 ∙ e)))
