-- A word has a row exactly where it is among the rows.
use Rattle.std.proofs.Common.{◌≡◌, ℕ, ◌+◌, List, [], ◌∷◌, refl, sym, is_some, Bool, true, false, cond}
use Rattle.std.specs.Prelude.{bytes_eq, Some, ◌||◌}
use Rattle.std.proofs.lemmas.Slice.Eq.{bytes_eq-Decides}
use Rattle.hold_words.specs.Rows.{first_row, first_row_from}
use Rattle.hold_netlist.specs.Names.{is_among}

is_some-row : (word : List ℕ) (n : ℕ) (rows : List (List ℕ)) → is_some (first_row_from word n rows) ≡ is_among word rows
is_some-row word n [] = refl
is_some-row word n (row ∷ rows) =
    by (bytes_eq row word) (bytes_eq word row) (λ e. (bytes_eq-Decides word row).1 (sym ((bytes_eq-Decides row word).0 e)))
    (λ e. (bytes_eq-Decides row word).1 (sym ((bytes_eq-Decides word row).0 e))) (is_some-row word (n + 1) rows)
  where
    by : (a b : Bool) → (a ≡ true → b ≡ true) → (b ≡ true → a ≡ true) → is_some (first_row_from word (n + 1) rows) ≡ is_among word rows
        → is_some (cond a (Some n) (first_row_from word (n + 1) rows)) ≡ (b || is_among word rows)
    by true true to back h = refl
    by true false to back h = (let e = to refl in cc)
    by false true to back h = (let e = back refl in cc)
    by false false to back h = h

pub is_some-first_row : (word : List ℕ) (rows : List (List ℕ)) → is_some (first_row word rows) ≡ is_among word rows
is_some-first_row word rows = is_some-row word 0 rows
