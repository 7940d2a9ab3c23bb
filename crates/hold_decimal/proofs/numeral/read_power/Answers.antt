use Rattle.std.proofs.Common.{refl, sym, arith}
use Rattle.hold_decimal.proofs.Cuts.{small_count, power-below, power-above}
use Rattle.hold_decimal.proofs.numeral.read_power.Goals as goal

-- the size of a short number
pub invariant_of-result : goal.invariant_of-result
invariant_of-result c =
    let short = c.if-not-is_short_number.ensures.0 refl in
    let size = small_count c.skip_sign-digits.result.now c.counted_on-size.result short.0 short.2 c.counted_on-size.ensures in
    record { small = omega arith }

pub invariant_of-result-else-is_negative : goal.invariant_of-result-else-is_negative
invariant_of-result-else-is_negative c =
    let short = c.if-not-is_short_number.ensures.0 refl in
    let size = small_count c.skip_sign-digits.result.now c.counted_on-size.result short.0 short.2 c.counted_on-size.ensures in
    record { small = omega arith }

pub returns-then-is_negative-clause-some : goal.returns-then-is_negative-clause-some
returns-then-is_negative-clause-some c =
    let short = c.if-not-is_short_number.ensures.0 refl in
    let size = small_count c.skip_sign-digits.result.now c.counted_on-size.result short.0 short.2 c.counted_on-size.ensures in
    power-below c.args.text.now c.skip_sign-digits.result.now c.counted_on-size.result c.skip_sign-digits.ensures short (sym c.if-is_negative.ensures) size.0

pub returns-else-is_negative-clause-some : goal.returns-else-is_negative-clause-some
returns-else-is_negative-clause-some c =
    let short = c.if-not-is_short_number.ensures.0 refl in
    let size = small_count c.skip_sign-digits.result.now c.counted_on-size.result short.0 short.2 c.counted_on-size.ensures in
    power-above c.args.text.now c.skip_sign-digits.result.now c.counted_on-size.result c.skip_sign-digits.ensures short (sym c.if-is_negative.ensures) size.0
