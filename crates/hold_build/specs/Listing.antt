-- StandsOnce xs: no item stands at two places of the list.
-- ListsEach P xs: the list has exactly what P holds of, each once, in any order. The empty list does so where P holds of nothing.
use Rattle.std.specs.Prelude.{◌≡◌, ℕ, List, Some, slice_get, All, Contains}

abbrev pub StandsOnce : {X : Type 0} → List X → Type 0
StandsOnce {X} xs = (i j : ℕ) (x : X) → slice_get xs i ≡ Some x → slice_get xs j ≡ Some x → i ≡ j

pub record ListsEach {X : Type 0} (P : X → Type 0) (xs : List X) : Type 0 where
  pub sound : All P xs
  pub whole : (x : X) → P x → Contains xs x
  pub once : StandsOnce xs
