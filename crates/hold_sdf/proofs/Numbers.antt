-- The time that a text's number has, by the relation and by the function.
use Rattle.std.proofs.Common.{◌≡◌, ℕ, ◌+◌, ◌/◌, ◌%◌, ◌<◌, ◌≤◌, Bool, true, false, Option, Some, None, List, length, refl, sym, ap, ◌∙◌, arith}
use Rattle.std.specs.Prelude.{Result, Ok, Err, nat_le, if◌then◌else◌, ◌==◌, pos, neg_ℤ}
use Rattle.std.proofs.lemmas.Bool.Decides.{nat_tests}
use Rattle.hold_base.specs.declared.time.Interval.{Interval}
use Rattle.hold_base.specs.Limits.{time_limit}
use Rattle.hold_base.proofs.Digits.{ten-pos}
use Rattle.hold_base.proofs.Options.{option_and_then-Some}
use Rattle.hold_decimal.specs.Numeral.{Numeral, Spells}
use Rattle.hold_decimal.specs.Rounding.{IsTime}
use Rattle.hold_decimal.specs.inner.Reading.{IsOutward}
use Rattle.hold_decimal.proofs.Times.{time_of as IsTime-bounds, passes, time-one, time-within}
use Rattle.hold_sdf.specs.Times.{numeral_of, magnitude_of, denominator_of, floor_of, ceiling_of, interval_of, numeral_time, time_of}
use Rattle.hold_sdf.specs.inner.Hulls.{number_at, time_or}
use Rattle.hold_sdflex.specs.Items.{Word}
use Rattle.hold_sdf.specs.declared.fault.SdfFault.TheVariants.{Number}
use Rattle.hold_sdf.proofs.Numerals.{numeral_of-spelled, spelled-numeral_of}

outward : (v d : ℕ) → 1 ≤ d → IsOutward v d (floor_of v d) (ceiling_of v d)
outward v d some = by_rest (v % d == 0) refl
  where
    by_rest : (t : Bool) → (v % d == 0) ≡ t → IsOutward v d (v / d) (if t then v / d else v / d + 1)
    by_rest true e = let whole : v % d ≡ 0 = grind (arith, nat_tests) in record { at_most = omega arith; next_above = omega arith; at_least = omega arith; last_below = omega arith }
    by_rest false e = let part : 1 ≤ v % d = grind (arith, nat_tests) in record { at_most = omega arith; next_above = omega arith; at_least = omega arith; last_below = omega arith }

pub floor-ceiling : (v d : ℕ) → floor_of v d ≤ ceiling_of v d
floor-ceiling v d = by_rest (v % d == 0)
  where
    by_rest : (t : Bool) → v / d ≤ (if t then v / d else v / d + 1)
    by_rest true = omega arith
    by_rest false = omega arith

beside : (n : Numeral) (scale : ℕ) → IsOutward (magnitude_of n scale) (denominator_of n) (floor_of (magnitude_of n scale) (denominator_of n)) (ceiling_of (magnitude_of n scale) (denominator_of n))
beside n scale = outward (magnitude_of n scale) (denominator_of n) (ten-pos (length n.part + n.lower))

-- what the function gives is the text's time
abbrev pub signed : Bool → ℕ → ℕ → Interval
signed negative f c = record { least = (if negative then neg_ℤ (pos c) else pos f); greatest = (if negative then neg_ℤ (pos f) else pos c) }

interval_of-time : (text : List ℕ) (n : Numeral) (scale f c : ℕ) (i : Interval) → Spells text n → IsOutward (magnitude_of n scale) (denominator_of n) f c → f ≤ c → interval_of n.negative f c ≡ Some i → IsTime text scale i
interval_of-time text n scale f c i s o low is = by_limit (nat_le c time_limit) refl is
  where
    by_limit : (t : Bool) → nat_le c time_limit ≡ t → (if t then Some (signed n.negative f c) else None) ≡ Some i → IsTime text scale i
    by_limit true e is =
        let within : c ≤ time_limit = grind (arith, nat_tests) in
        let below : f ≤ time_limit = omega arith in
        let same : signed n.negative f c ≡ i = cc in
        IsTime-bounds text n scale f c i s o below within (ap (λ x. x.least) (sym same)) (ap (λ x. x.greatest) (sym same))
    by_limit false e is = cc

pub time_of-IsTime : (text : List ℕ) (scale : ℕ) (i : Interval) → time_of scale text ≡ Some i → IsTime text scale i
unfolding time_of
time_of-IsTime text scale i is =
    let found = option_and_then-Some (numeral_time scale) (numeral_of text) i is in
    let n = found.0 in
    interval_of-time text n scale _ _ i (spelled-numeral_of text n found.1) (beside n scale) (floor-ceiling (magnitude_of n scale) (denominator_of n)) found.2

-- a text that has a time is given it
interval_some : (text : List ℕ) (n : Numeral) (scale : ℕ) (i : Interval) → IsTime text scale i → Spells text n → (j : Interval) × (numeral_time scale n ≡ Some j)
interval_some text n scale i t s = by_limit (nat_le (ceiling_of (magnitude_of n scale) (denominator_of n)) time_limit) refl
  where
    by_limit : (b : Bool) → nat_le (ceiling_of (magnitude_of n scale) (denominator_of n)) time_limit ≡ b → (j : Interval) × (numeral_time scale n ≡ Some j)
    by_limit true e = (signed n.negative (floor_of (magnitude_of n scale) (denominator_of n)) (ceiling_of (magnitude_of n scale) (denominator_of n)), rw e refl)
    by_limit false e =
        let past : time_limit < ceiling_of (magnitude_of n scale) (denominator_of n) = grind (arith, nat_tests) in
        absurd (time-within text scale i t n s (passes n.negative _ _ _ _ (beside n scale) past))

pub IsTime-time_of : (text : List ℕ) (scale : ℕ) (i : Interval) → IsTime text scale i → time_of scale text ≡ Some i
unfolding time_of
IsTime-time_of text scale i t =
    let some = interval_some text t.numeral scale i t t.spelled in
    let here : time_of scale text ≡ Some some.0 = rw (numeral_of-spelled text t.numeral t.spelled) some.1 in
    here ∙ ap Some (time-one text scale some.0 i (time_of-IsTime text scale some.0 here) t)

-- what to_fs answers
pub time_told : (w : Word) (power : ℕ) (i : Interval) → IsTime w.bytes power i → number_at power w ≡ Ok i
time_told w power i t = rw (IsTime-time_of w.bytes power i t) refl

pub no_time_told : {F : Type 0} (w : Word) (power : ℕ) (fault : F) → ((i : Interval) → IsTime w.bytes power i → ◌≡◌ {A = Result Interval F} (Err fault) (Ok i)) → number_at power w ≡ Err (Number w.at)
no_time_told w power fault only = by_time (time_of power w.bytes) refl
  where
    by_time : (o : Option Interval) → time_of power w.bytes ≡ o → time_or o w.at ≡ Err (Number w.at)
    by_time None e = refl
    by_time (Some i) e = absurd (let never = only i (time_of-IsTime w.bytes power i e) in cc)
