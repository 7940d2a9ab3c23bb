-- texts rows: the rows of a table as lists of bytes, in their order.
-- upper text: the text with its ASCII letters made upper case; every other byte stays.
-- first_row word rows: the place, from 0, of the first row that is the word; None where no row is, so
--   also where there are no rows. The empty word is a word like any other.
-- first_row_any_case word rows: the same after both sides are made upper case.
-- first_row_from word n rows: as first_row, where the rows are numbered from n.
-- IsFirstRow word rows i: the row at i is the word, and no row before it is.
-- IsNoRow word rows: no row is the word.
use Rattle.std.specs.Prelude.{◌≡◌, ◌≢◌, ℕ, ◌+◌, ◌<◌, List, [], ◌∷◌, map, Option, Some, None, bytes_eq, slice_get, if◌then◌else◌}
use Rattle.std.specs.Char.{to_ascii_uppercase}
use Rattle.std.specs.Borrow.{Bor}

-- the rows behind their references
abbrev pub texts : List (Bor (List ℕ)) → List (List ℕ)
texts rows = map (λ row. row.now) rows

-- ASCII letters made upper case
abbrev pub upper : List ℕ → List ℕ
upper text = map to_ascii_uppercase text

-- the first row that is the word, where the rows are numbered from n
abbrev pub first_row_from : List ℕ → ℕ → List (List ℕ) → Option ℕ
first_row_from word n [] = None
first_row_from word n (row ∷ rows) = if bytes_eq row word then Some n else first_row_from word (n + 1) rows

-- the first row that is the word
abbrev pub first_row : List ℕ → List (List ℕ) → Option ℕ
first_row word rows = first_row_from word 0 rows

-- the first row that is the word in any case
abbrev pub first_row_any_case : List ℕ → List (List ℕ) → Option ℕ
first_row_any_case word rows = first_row (upper word) (map upper rows)

-- the row at i is the word, and none before it
pub record IsFirstRow (word : List ℕ) (rows : List (List ℕ)) (i : ℕ) : Type 0 where
  pub there : slice_get rows i ≡ Some word
  pub first : (k : ℕ) → k < i → slice_get rows k ≢ Some word

-- no row is the word
abbrev pub IsNoRow : List ℕ → List (List ℕ) → Type 0
IsNoRow word rows = (k : ℕ) → slice_get rows k ≢ Some word
