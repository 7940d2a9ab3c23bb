-- Bounds: the whole numbers beside a number of digits, from the digits that are kept and those that are lost.
use Rattle.std.proofs.Common.{◌≡◌, ◌≢◌, ℕ, suc, zero, ◌+◌, ◌-◌, ◌*◌, ◌^◌, ◌<◌, ◌≤◌, ◌↔◌, min, Bool, true, false, Option, Some, None, IsTrue, IfSome, IfNone, List, [], length, refl, ap, sym, subst, ◌∙◌, arith, inl, inr}
use Rattle.std.proofs.Math.Nat.{mul-le-mul}
use Rattle.std.proofs.lemmas.Bool.{false≢true}
use Rattle.std.specs.Prelude.{if◌then◌else◌}
use Rattle.hold_base.specs.Limits.{time_limit}
use Rattle.hold_decimal.specs.Numeral.{AllDigits}
use Rattle.hold_base.specs.Digits.{number_of}
use Rattle.hold_base.proofs.Digits.{ten-pos}
use Rattle.hold_decimal.specs.inner.Reading.{IsCutOff, IsOutward}
use Rattle.hold_decimal.specs.declared.rounding.Bounds.{Bounds}
use Rattle.hold_decimal.proofs.Digits.{IsParted, parted}

-- a value that is whole, and one that isn't
outward_whole : (v d w r : ℕ) → IsParted v d w r → r ≡ 0 → IsOutward v d w w
outward_whole v d w r p e = record { at_most = omega arith; next_above = omega arith; at_least = omega arith; last_below = omega arith }

outward_beside : (v d w r : ℕ) → IsParted v d w r → r ≢ 0 → IsOutward v d w (w + 1)
outward_beside v d w r p e = record { at_most = omega arith; next_above = omega arith; at_least = omega arith; last_below = omega arith }

-- the digits that are kept and those that are lost
pub parted_off : (all front back : List ℕ) (up down : ℕ) → AllDigits back → IsCutOff all front back (down - up) → IsParted (number_of all * 10 ^ up) (10 ^ down) (number_of front * 10 ^ (up - down)) (number_of back * 10 ^ up)
parted_off all front back up down digits cut =
    subst (λ l. IsParted (number_of l * 10 ^ up) (10 ^ down) (number_of front * 10 ^ (up - down)) (number_of back * 10 ^ up)) cut.joined
    (parted front back up down digits cut.short (elim cut.most [
      | inl most ↦ ap (λ n. number_of front * 10 ^ n) most
      | inr none ↦ nothing none (10 ^ length back) ∙ sym (nothing none (10 ^ (down - up)))
    ]))
  where
    nothing : front ≡ [] → (n : ℕ) → number_of front * n ≡ 0
    nothing none n = ap (λ l. number_of l * n) none ∙ omega arith

-- nothing is lost where the digits that are lost write 0
pub lost-zero : (back up : ℕ) → back * 10 ^ up ≡ 0 → back ≡ 0
lost-zero zero up e = refl
lost-zero (suc back) up e = let one : 1 * 1 ≤ suc back * 10 ^ up = let low : 1 ≤ suc back = omega arith in mul-le-mul low (ten-pos up) in absurd (omega arith)

-- what the rounded bounds say
pub bounds_beside : (v d w r floor : ℕ) (is_whole : Bool) (b : Option Bounds) → IsParted v d w r → floor ≡ min w (time_limit + 1) → (IsTrue is_whole ↔ (r ≡ 0)) →
    IfSome b (λ b. b.floor ≡ floor) → IfSome b (λ b. b.ceiling ≡ (if is_whole then floor else floor + 1)) → IfSome b (λ b. b.ceiling ≤ time_limit) →
    IfSome b (λ b. IsOutward v d b.floor b.ceiling)
bounds_beside v d w r floor is_whole None p count whole f c within = tt
bounds_beside v d w r floor true (Some b) p count whole f c within =
    let same : w ≡ floor = omega arith in
    subst (λ x. IsOutward v d x b.ceiling) (same ∙ sym f) (subst (λ x. IsOutward v d w x) (same ∙ sym c) (outward_whole v d w r p (whole.0 refl)))
bounds_beside v d w r floor false (Some b) p count whole f c within =
    let same : w ≡ floor = omega arith in
    subst (λ x. IsOutward v d x b.ceiling) (same ∙ sym f) (subst (λ x. IsOutward v d w x) (ap (λ x. x + 1) same ∙ sym c) (outward_beside v d w r p (λ e. absurd (false≢true (whole.1 e)))))

pub bounds_none : (v d w r floor : ℕ) (is_whole : Bool) (b : Option Bounds) → IsParted v d w r → floor ≡ min w (time_limit + 1) → (IsTrue is_whole ↔ (r ≡ 0)) →
    IfNone b (time_limit < (if is_whole then floor else floor + 1)) → IfNone b ((floor ceiling : ℕ) × IsOutward v d floor ceiling × (time_limit < ceiling))
bounds_none v d w r floor is_whole (Some b) p count whole none = tt
bounds_none v d w r floor true None p count whole none = (w, w, outward_whole v d w r p (whole.0 refl), omega arith)
bounds_none v d w r floor false None p count whole none = (w, w + 1, outward_beside v d w r p (λ e. absurd (false≢true (whole.1 e))), omega arith)
