-- The worse of times (worse, worst_from): each of them is bounded by it, and one of them attains it.
use Rattle.std.proofs.Common.{◌≡◌, ℕ, zero, suc, ◌<◌, List, [], ◌∷◌, map, length, Bool, true, false, cond, refl, ap, sym, ◌∙◌, arith, ◌⊎◌, inl, inr, subst}
use Rattle.std.specs.Prelude.{Option, Some, None, ℤ, ◌+ℤ◌, ◌≤ℤ◌, slice_get, int_lt}
use Rattle.std.proofs.lemmas.Int.{ints, clamps}
use Rattle.std.proofs.lemmas.Option.{same_Some, none-some}
use Rattle.hold_base.specs.declared.time.Side.{Side}
use Rattle.hold_base.specs.declared.time.Side.TheVariants.{Early, Late}
use Rattle.hold_timing.specs.Worst.{AsBad, IsAsBad}
use Rattle.hold_timing.specs.inner.Pass.{worse_of, worse, worst_from, extended}

pub AsBad-same : (side : Side) (x : ℤ) → AsBad side x x
AsBad-same Early x = omega (arith, ints)
AsBad-same Late x = omega (arith, ints)

pub AsBad-chain : (side : Side) (x y z : ℤ) → AsBad side x y → AsBad side y z → AsBad side x z
AsBad-chain Early x y z h k = omega (arith, ints)
AsBad-chain Late x y z h k = omega (arith, ints)

pub AsBad-both : (side : Side) (x y : ℤ) → AsBad side x y → AsBad side y x → x ≡ y
AsBad-both Early x y h k = omega (arith, ints)
AsBad-both Late x y h k = omega (arith, ints)

pub AsBad-more : (side : Side) (x y step : ℤ) → AsBad side x y → AsBad side (x +ℤ step) (y +ℤ step)
AsBad-more Early x y step h = omega (arith, ints)
AsBad-more Late x y step h = omega (arith, ints)

pub AsBad-after : (side : Side) (x y before : ℤ) → AsBad side x y → AsBad side (before +ℤ x) (before +ℤ y)
AsBad-after Early x y before h = omega (arith, ints)
AsBad-after Late x y before h = omega (arith, ints)

AsBad-worse_left : (side : Side) (x y : ℤ) → AsBad side (worse_of side x y) x
AsBad-worse_left Early x y = omega (arith, ints, clamps)
AsBad-worse_left Late x y = omega (arith, ints, clamps)

AsBad-worse_right : (side : Side) (x y : ℤ) → AsBad side (worse_of side x y) y
AsBad-worse_right Early x y = omega (arith, ints, clamps)
AsBad-worse_right Late x y = omega (arith, ints, clamps)

worse_of-one : (side : Side) (x y : ℤ) → (worse_of side x y ≡ x) ⊎ (worse_of side x y ≡ y)
worse_of-one Early x y = by_test (int_lt y x)
  where
    by_test : (b : Bool) → (cond b y x ≡ x) ⊎ (cond b y x ≡ y)
    by_test true = inr refl
    by_test false = inl refl
worse_of-one Late x y = by_test (int_lt y x)
  where
    by_test : (b : Bool) → (cond b x y ≡ x) ⊎ (cond b x y ≡ y)
    by_test true = inl refl
    by_test false = inr refl

pub IsAsBad-chain : (side : Side) (a : Option ℤ) (x y : ℤ) → IsAsBad side a x → AsBad side x y → IsAsBad side a y
IsAsBad-chain side None x y h k = h
IsAsBad-chain side (Some z) x y h k = AsBad-chain side z x y h k

pub IsAsBad-own : (side : Side) (a : Option ℤ) (x : ℤ) → a ≡ Some x → IsAsBad side a x
IsAsBad-own side None x is = absurd (none-some x is)
IsAsBad-own side (Some z) x is = subst (AsBad side z) (same_Some z x is) (AsBad-same side z)

pub IsAsBad-extended : (side : Side) (a : Option ℤ) (x step : ℤ) → IsAsBad side a x → IsAsBad side (extended a step) (x +ℤ step)
IsAsBad-extended side None x step h = h
IsAsBad-extended side (Some z) x step h = AsBad-more side z x step h

pub IsAsBad-worse_left : (side : Side) (a b : Option ℤ) (x : ℤ) → IsAsBad side a x → IsAsBad side (worse side a b) x
IsAsBad-worse_left side None b x h = absurd h
IsAsBad-worse_left side (Some y) None x h = h
IsAsBad-worse_left side (Some y) (Some z) x h = AsBad-chain side (worse_of side y z) y x (AsBad-worse_left side y z) h

pub IsAsBad-worse_right : (side : Side) (a b : Option ℤ) (x : ℤ) → IsAsBad side b x → IsAsBad side (worse side a b) x
IsAsBad-worse_right side None b x h = h
IsAsBad-worse_right side (Some y) None x h = absurd h
IsAsBad-worse_right side (Some y) (Some z) x h = AsBad-chain side (worse_of side y z) z x (AsBad-worse_right side y z) h

pub worse-one : (side : Side) (a b : Option ℤ) → (worse side a b ≡ a) ⊎ (worse side a b ≡ b)
worse-one side None b = inr refl
worse-one side (Some x) None = inl refl
worse-one side (Some x) (Some y) = by_case (worse_of-one side x y)
  where
    by_case : ((worse_of side x y ≡ x) ⊎ (worse_of side x y ≡ y)) → (Some (worse_of side x y) ≡ Some x) ⊎ (Some (worse_of side x y) ≡ Some y)
    by_case (inl e) = inl (ap (λ (z : ℤ). Some z) e)
    by_case (inr e) = inr (ap (λ (z : ℤ). Some z) e)

-- the worst is as bad as the first time, and as each of the others
pub worst_from-first : (side : Side) (so_far : Option ℤ) (times : List (Option ℤ)) (x : ℤ) → IsAsBad side so_far x → IsAsBad side (worst_from side so_far times) x
worst_from-first side so_far [] x h = h
worst_from-first side so_far (time ∷ times) x h =
    worst_from-first side (worse side so_far time) times x (IsAsBad-worse_left side so_far time x h)

pub worst_from-each : (side : Side) (so_far : Option ℤ) (times : List (Option ℤ)) (k : ℕ) (time : Option ℤ) (x : ℤ) →
    slice_get times k ≡ Some time → IsAsBad side time x → IsAsBad side (worst_from side so_far times) x
worst_from-each side so_far [] k time x at h = absurd (none-some time at)
worst_from-each side so_far (first ∷ times) zero time x at h =
    worst_from-first side (worse side so_far first) times x
    (IsAsBad-worse_right side so_far first x (subst (λ (t : Option ℤ). IsAsBad side t x) (sym (same_Some first time at)) h))
worst_from-each side so_far (first ∷ times) (suc k) time x at h = worst_from-each side (worse side so_far first) times k time x at h

-- the time of one of these
pub record IsTimeOf (times : List (Option ℤ)) (worst : Option ℤ) : Type 0 where
  pub place : ℕ
  pub at : slice_get times place ≡ Some worst

-- the worst is the first time or one of the others
pub worst_from-one : (side : Side) (so_far : Option ℤ) (times : List (Option ℤ)) →
    (worst_from side so_far times ≡ so_far) ⊎ IsTimeOf times (worst_from side so_far times)
worst_from-one side so_far [] = inl refl
worst_from-one side so_far (time ∷ times) = by_case (worst_from-one side (worse side so_far time) times) (worse-one side so_far time)
  where
    by_case : ((worst_from side (worse side so_far time) times ≡ worse side so_far time) ⊎ IsTimeOf times (worst_from side (worse side so_far time) times)) →
        ((worse side so_far time ≡ so_far) ⊎ (worse side so_far time ≡ time)) →
        (worst_from side (worse side so_far time) times ≡ so_far) ⊎ IsTimeOf (time ∷ times) (worst_from side (worse side so_far time) times)
    by_case (inl e) (inl f) = inl (e ∙ f)
    by_case (inl e) (inr f) = inr (record { place = zero; at = ap (λ (t : Option ℤ). Some t) (sym (e ∙ f)) })
    by_case (inr there) f = inr (record { place = suc there.place; at = there.at })
