-- The items of a list beside the values that it stands for, and lists read in turn.
use Rattle.std.proofs.Common.{◌≡◌, ◌≢◌, ℤ, List, [], ◌∷◌, length, refl, arith}
use Rattle.std.specs.Prelude.{Err}
use Rattle.toml.specs.View.{items_view}
use Rattle.toml.specs.declared.value.Value.{Value}
use Rattle.hold_job.specs.declared.fault.JobFault.TheVariants.{Range}
use Rattle.hold_job.specs.Lists.{item_count}
use Rattle.hold_job.specs.Numbers.{span_of_two}

pub span_of_other : (least : ℤ) (vs : List Value) → length vs ≢ 2 → span_of_two least (items_view vs) ≡ Err (Range [])
span_of_other least [] other = refl
span_of_other least (v ∷ []) other = refl
span_of_other least (v ∷ w ∷ []) other = absurd (other refl)
span_of_other least (v ∷ w ∷ x ∷ vs) other = refl

pub item_count_view : (vs : List Value) → item_count (items_view vs) ≡ length vs
item_count_view [] = refl
item_count_view (v ∷ vs) = omega (arith, item_count_view vs)
