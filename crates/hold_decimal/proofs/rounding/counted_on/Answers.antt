use Rattle.std.proofs.Common.{◌≡◌, ◌+◌, ◌-◌, ◌*◌, ◌^◌, min, length, get_or, drop, sym, subst, ap, ◌∙◌, arith}
use Rattle.std.proofs.lemmas.List.{drop_more}
use Rattle.hold_base.specs.Limits.{time_limit}
use Rattle.hold_decimal.specs.Numeral.{AllDigits}
use Rattle.hold_base.specs.Digits.{number_of}
use Rattle.hold_decimal.proofs.Digits.{capped_digit}
use Rattle.hold_decimal.proofs.rounding.counted_on.Goals as goal

-- a digit more is counted as `capped_digit` says
pub loop-digit-preserved : goal.loop-digit-preserved
loop-digit-preserved c =
    let i = c.loop-digit.digit-index in
    let left = drop (i + 1) c.args.digits.now in
    let first = get_or c.args.digits.now i 0 in
    let cons = drop_more c.args.digits.now i 0 c.loop-digit-test.true in
    let digits = subst AllDigits cons c.loop-digit.invariant.digits_left in
    let now : c.min-count.result ≡ min (c.loop-digit.count * 10 + (first - 48)) (time_limit + 1) = c.min-count.ensures ∙ ap (λ d. min (c.loop-digit.count * 10 + d) (time_limit + 1)) c.from.ensures in
    record {
      within = omega arith;
      digits_left = digits.2;
      same = ap (λ n. min (n * 10 ^ length left + number_of left) (time_limit + 1)) now
          ∙ capped_digit c.loop-digit.count (first - 48) (length left) (number_of left) (time_limit + 1)
          ∙ sym (ap (λ l. min (c.loop-digit.count * 10 ^ length l + number_of l) (time_limit + 1)) cons)
          ∙ c.loop-digit.invariant.same;
    }
