-- firsts_from n width xs: the first number of each thing, in order, and then the number behind the last, where that of
--   the first thing is n.
-- IsHeld firsts n i k: n lies from first number i up to the next, k behind it.
use Rattle.std.specs.Prelude.{◌≡◌, ℕ, ◌+◌, ◌<◌, List, [], ◌∷◌, length, slice_index}

abbrev pub firsts_from : {X : Type 0} → ℕ → (X → ℕ) → List X → List ℕ
firsts_from n width [] = n ∷ []
firsts_from n width (x ∷ xs) = n ∷ firsts_from (n + width x) width xs

pub record IsHeld (firsts : List ℕ) (n i k : ℕ) : Type 0 where
  pub place : i + 1 < length firsts
  pub number : n ≡ slice_index firsts i + k
  pub before : n < slice_index firsts (i + 1)
