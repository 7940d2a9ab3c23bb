-- Things in a row that are numbered through from 0, each with as many numbers as its width, which may be none.
--
-- first_of width xs i: the first number of thing i, which is that of thing i + 1 where thing i has no number. Past the
--   last thing, how many numbers there are.
-- number_at width xs i k: the number k behind the first of thing i.
-- IsNumbered width xs n i k: n is that number, and thing i has it. Things and what is behind a first number count from 0.
use Rattle.std.specs.Prelude.{◌≡◌, ℕ, ◌+◌, ◌<◌, List, sum_by, take, slice_get, Some}

abbrev pub first_of : {X : Type 0} → (X → ℕ) → List X → ℕ → ℕ
first_of width xs i = sum_by width (take i xs)

abbrev pub number_at : {X : Type 0} → (X → ℕ) → List X → ℕ → ℕ → ℕ
number_at width xs i k = first_of width xs i + k

pub record IsNumbered {X : Type 0} (width : X → ℕ) (xs : List X) (n i k : ℕ) : Type 0 where
  pub number : n ≡ number_at width xs i k
  pub within : (x : X) × (slice_get xs i ≡ Some x) × (k < width x)
