-- How large the times get.
use Rattle.std.proofs.Common.{◌≡◌, ℕ, zero, suc, ◌+◌, ◌*◌, ◌<◌, ◌≤◌, List, [], ◌∷◌, map, length, refl, ap, sym, ◌∙◌, arith, get_or, set, ◌⊎◌, inl, inr, subst}
use Rattle.std.specs.Prelude.{Option, Some, None, ℤ, pos, ◌+ℤ◌, ◌*ℤ◌, slice_get, slice_index_or, All, Contains}
use Rattle.std.proofs.lemmas.Int.{ints, clamps}
use Rattle.std.proofs.lemmas.Bool.{cases_eq}
use Rattle.std.proofs.lemmas.List.{get_or-set_same, get_or-set_other}
use Rattle.std.proofs.lemmas.List.Elements.{All-contains}
use Rattle.std.proofs.lemmas.Option.{same_Some, none-some, slice_get_within, slice_get-get_or}
use Rattle.std.proofs.Math.IntN.{suc_ℤ-*ℤ, zero-*ℤ}
use Rattle.hold_base.specs.Limits.{time_limit, launch_limit}
use Rattle.hold_base.specs.declared.number.PinNo.{PinNo}
use Rattle.hold_base.specs.declared.time.Interval.{Interval}
use Rattle.hold_base.specs.declared.time.Side.{Side}
use Rattle.hold_base.specs.declared.time.Side.TheVariants.{Early, Late}
use Rattle.hold_graph.specs.declared.graph.Arc.{Arc}
use Rattle.hold_graph.specs.Problem.{IsSpan, IsWithin}
use Rattle.hold_graph.specs.Sums.{end_of}
use Rattle.hold_timing.specs.inner.Pass.{worse, worse_of, extended, origin, step_at, offer, offers_from, spread, pad_limit, step_limit, sum_limit, AreWithin}
use Rattle.hold_timing.proofs.WorstOf.{worse-one}

pub within-weaker : (low high : ℕ) (time : ℤ) → low ≤ high → IsWithin low time → IsWithin high time
within-weaker low high time le h = record { low = omega (arith, ints); high = omega (arith, ints) }

pub within-add : (a b : ℕ) (x y : ℤ) → IsWithin a x → IsWithin b y → IsWithin (a + b) (x +ℤ y)
within-add a b x y h k = record { low = omega (arith, ints); high = omega (arith, ints) }

pub within-times : (n limit : ℕ) (time : ℤ) → IsWithin limit time → IsWithin (n * limit) (pos n *ℤ time)
within-times zero limit time h = subst (IsWithin (0 * limit)) (sym (zero-*ℤ time)) (record { low = omega (arith, ints); high = omega (arith, ints) })
within-times (suc n) limit time h =
    let more : pos (suc n) *ℤ time ≡ (pos n *ℤ time) +ℤ time = suc_ℤ-*ℤ (pos n) time in
    let both : IsWithin (n * limit + limit) ((pos n *ℤ time) +ℤ time) = within-add (n * limit) limit (pos n *ℤ time) time (within-times n limit time h) h in
    subst (IsWithin (suc n * limit)) (sym more) (within-weaker (n * limit + limit) (suc n * limit) _ (omega arith) both)

pub end_of-within : (side : Side) (limit : ℕ) (span : Interval) → IsSpan limit span → IsWithin limit (end_of side span)
end_of-within Early limit span h = h.least
end_of-within Late limit span h = h.greatest

-- a time that is there is within the limit
abbrev pub IsWithinIfThere : ℕ → Option ℤ → Type 0
IsWithinIfThere limit o = (time : ℤ) → o ≡ Some time → IsWithin limit time

pub within-none : (limit : ℕ) → IsWithinIfThere limit None
within-none limit = λ time is. absurd (none-some time is)

pub within-there_weaker : (low high : ℕ) (o : Option ℤ) → low ≤ high → IsWithinIfThere low o → IsWithinIfThere high o
within-there_weaker low high o le h = λ time is. within-weaker low high time le (h time is)

pub AreWithin-weaker : (low high : ℕ) (times : List (Option ℤ)) → low ≤ high → AreWithin low times → AreWithin high times
AreWithin-weaker low high times le h = λ place time is. within-weaker low high time le (h place time is)

pub worse-within : (side : Side) (limit : ℕ) (a b : Option ℤ) → IsWithinIfThere limit a → IsWithinIfThere limit b → IsWithinIfThere limit (worse side a b)
worse-within side limit a b h k = λ time is. by_case time is (worse-one side a b)
  where
    by_case : (time : ℤ) → worse side a b ≡ Some time → ((worse side a b ≡ a) ⊎ (worse side a b ≡ b)) → IsWithin limit time
    by_case time is (inl e) = h time (sym e ∙ is)
    by_case time is (inr e) = k time (sym e ∙ is)

pub extended-within : (limit more : ℕ) (o : Option ℤ) (step : ℤ) → IsWithinIfThere limit o → IsWithin more step → IsWithinIfThere (limit + more) (extended o step)
extended-within limit more None step h k = within-none (limit + more)
extended-within limit more (Some time) step h k = λ t is. subst (IsWithin (limit + more)) (same_Some (time +ℤ step) t is) (within-add limit more time step (h time refl) k)

pub offer-within : (side : Side) (arcs : List Arc) (spans : List Interval) (arrivals : List (Option ℤ)) (pad : ℤ) (place limit : ℕ) → place < length spans →
    All (IsSpan time_limit) spans → IsWithin pad_limit pad → AreWithin limit arrivals → IsWithinIfThere (limit + step_limit) (offer side arcs spans arrivals pad place)
offer-within side arcs spans arrivals pad place limit below h k w =
    let step : IsWithin (time_limit + pad_limit) (step_at side spans place +ℤ pad) =
    within-add time_limit pad_limit (step_at side spans place) pad (end_of-within side time_limit _ (h place (record { least = pos 0; greatest = pos 0 }) below)) k in
    extended-within limit step_limit (get_or arrivals (origin (slice_get arcs place)) None) (step_at side spans place +ℤ pad)
    (w (origin (slice_get arcs place))) (within-weaker (time_limit + pad_limit) step_limit (step_at side spans place +ℤ pad) (omega arith) step)

pub offers-within : (side : Side) (arcs : List Arc) (spans : List Interval) (arrivals : List (Option ℤ)) (pad : ℤ) (limit : ℕ) →
    All (IsSpan time_limit) spans → IsWithin pad_limit pad → AreWithin limit arrivals →
    (so_far : Option ℤ) (places : List ℕ) → ((place : ℕ) → Contains places place → place < length spans) → IsWithinIfThere (limit + step_limit) so_far →
    IsWithinIfThere (limit + step_limit) (offers_from side arcs spans arrivals pad so_far places)
offers-within side arcs spans arrivals pad limit h k w so_far [] below first = first
offers-within side arcs spans arrivals pad limit h k w so_far (place ∷ places) below first =
    offers-within side arcs spans arrivals pad limit h k w (worse side so_far (offer side arcs spans arrivals pad place)) places
    (λ p has. below p (suc has.0, (let lt = has.1 in omega arith), has.2))
    (worse-within side (limit + step_limit) so_far (offer side arcs spans arrivals pad place) first
    (offer-within side arcs spans arrivals pad place limit (below place (0, omega arith, refl)) h k w))

-- one pin's new time, in a table whose times are within the limit
pub AreWithin-set : (limit : ℕ) (times : List (Option ℤ)) (pin : ℕ) (new : Option ℤ) → pin < length times → AreWithin limit times → IsWithinIfThere limit new → AreWithin limit (set times pin new)
AreWithin-set limit times pin new below h k = λ place time is. by_case place time is (cases_eq place pin)
  where
    by_case : (place : ℕ) (time : ℤ) → get_or (set times pin new) place None ≡ Some time → ((place ≡ pin) ⊎ (place ≡ pin → ⊥)) → IsWithin limit time
    by_case place time is (inl same) = k time (sym (get_or-set_same times pin new None below) ∙ ap (λ (q : ℕ). get_or (set times pin new) q None) (sym same) ∙ is)
    by_case place time is (inr other) = h place time (sym (get_or-set_other times pin place new None other) ∙ is)
