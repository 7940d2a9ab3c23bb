-- OneEach xs: nothing stands twice: two places with the same item are one place.
use Rattle.std.specs.Prelude.{◌≡◌, ℕ, List, slice_get, Some}

pub record OneEach {X : Type 0} (xs : List X) : Type 0 where
  pub apart : (i j : ℕ) (x : X) → slice_get xs i ≡ Some x → slice_get xs j ≡ Some x → i ≡ j
