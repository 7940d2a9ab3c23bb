use Rattle.std.proofs.Common.{◌+◌, ◌*◌, ◌^◌, ◌++◌, length, refl, ap, subst, arith, Ok}
use Rattle.hold_decimal.specs.Numeral.{Numeral, Spells}
use Rattle.hold_base.specs.Digits.{number_of}
use Rattle.hold_decimal.specs.inner.Reading.{IsOutward}
use Rattle.hold_decimal.specs.Rounding.{fraction_of, PassesLimit, IsTime}
use Rattle.hold_decimal.proofs.Times.{time_of, passes, time-floor, time-ceiling, time-one, time-within}
use Rattle.hold_decimal.proofs.number.to_fs.Goals as goal
use Rattle.hold_decimal.proofs.number.to_fs.Goals.{After-with_sign, In-None}

-- a text that spells no number has no time
pub returns-in_default-clause-range : goal.returns-in_default-clause-range
returns-in_default-clause-range c = (λ e. absurd (cc), λ p. absurd (c.in_default.ensures.none p.0 p.1))

pub returns-in_default-clause-only_time : goal.returns-in_default-clause-only_time
returns-in_default-clause-only_time c = λ i t. absurd (c.in_default.ensures.none t.numeral t.spelled)

-- the bounds that were found, with the sign, are the text's time
found : (c : After-with_sign) → IsTime c.args.number.now c.args.scale.exponent c.with_sign.result
found c =
    let p = c.in-Some.parts in
    let value = number_of (p.whole.now ++ p.part.now) in
    time_of c.args.number.now _ c.args.scale.exponent c.in-Some-bounds_of.bounds.floor c.in-Some-bounds_of.bounds.ceiling c.with_sign.result
    c.in-Some.ensures.spelled
    (subst (λ e. IsOutward (value * 10 ^ (p.power.raise + e)) (10 ^ (length p.part.now + p.power.lower)) c.in-Some-bounds_of.bounds.floor c.in-Some-bounds_of.bounds.ceiling) c.from.ensures c.in-Some-bounds_of.ensures.beside)
    (omega (arith, c.in-Some-bounds_of.bounds.ordered, c.in-Some-bounds_of.ensures.within))
    c.in-Some-bounds_of.ensures.within
    c.with_sign.ensures.least
    c.with_sign.ensures.greatest

pub returns-in-Some-bounds_of-clause-time : goal.returns-in-Some-bounds_of-clause-time
returns-in-Some-bounds_of-clause-time c = found c

pub returns-in-Some-bounds_of-clause-range : goal.returns-in-Some-bounds_of-clause-range
returns-in-Some-bounds_of-clause-range c = (λ e. absurd (cc), λ p. absurd (time-within _ _ _ (found c) p.0 p.1 p.2))

pub returns-in-Some-bounds_of-clause-floor : goal.returns-in-Some-bounds_of-clause-floor
returns-in-Some-bounds_of-clause-floor c = time-floor _ _ _ (found c)

pub returns-in-Some-bounds_of-clause-ceiling : goal.returns-in-Some-bounds_of-clause-ceiling
returns-in-Some-bounds_of-clause-ceiling c = time-ceiling _ _ _ (found c)

pub returns-in-Some-bounds_of-clause-only_time : goal.returns-in-Some-bounds_of-clause-only_time
returns-in-Some-bounds_of-clause-only_time c = λ i t. ap Ok (time-one _ _ _ _ (found c) t)

-- a bound past the limit
missed : (c : In-None) → (n : Numeral) × Spells c.args.number.now n × PassesLimit (fraction_of n c.args.scale.exponent)
missed c =
    let p = c.in-Some.parts in
    let n : Numeral = record { negative = p.negative; whole = p.whole.now; part = p.part.now; raise = p.power.raise; lower = p.power.lower } in
    let value = number_of (p.whole.now ++ p.part.now) in
    let past = c.in-None.ensures.none in (
      n,
      c.in-Some.ensures.spelled,
      passes p.negative _ _ past.0 past.1 (subst (λ e. IsOutward (value * 10 ^ (p.power.raise + e)) (10 ^ (length p.part.now + p.power.lower)) past.0 past.1) c.from.ensures past.2) past.3,
    )

pub returns-in-None-clause-range : goal.returns-in-None-clause-range
returns-in-None-clause-range c = (λ e. missed c, λ p. refl)

pub returns-in-None-clause-only_time : goal.returns-in-None-clause-only_time
returns-in-None-clause-only_time c = λ i t. let past = missed c in absurd (time-within _ _ _ t past.0 past.1 past.2)
