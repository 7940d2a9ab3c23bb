-- What stands beside a word in a table, by the word's row.
use Rattle.std.proofs.Common.{◌≡◌, ℕ, suc, ◌+◌, Bool, true, false, Option, Some, None, List, [], ◌∷◌, get_or, map, refl, ap, ◌∙◌, bytes_eq, arith}
use Rattle.std.specs.Prelude.{option_map, if◌then◌else◌}
use Rattle.std.specs.Option.{option_map_or}
use Rattle.hold_words.specs.Rows.{upper, first_row_from, first_row_any_case}
use Rattle.hold_sdf.specs.Keywords.{kind_of}

-- rows counted from one more
pub first_row_from-suc : (word : List ℕ) (n : ℕ) (rows : List (List ℕ)) → first_row_from word (n + 1) rows ≡ option_map suc (first_row_from word n rows)
first_row_from-suc word n [] = refl
first_row_from-suc word n (row ∷ rows) = by_first (bytes_eq row word) (first_row_from-suc word (n + 1) rows)
  where
    by_first : (t : Bool) → first_row_from word (n + 1 + 1) rows ≡ option_map suc (first_row_from word (n + 1) rows) → (if t then Some (n + 1) else first_row_from word (n + 1 + 1) rows) ≡ option_map suc (if t then Some n else first_row_from word (n + 1) rows)
    by_first true rest = ap Some (omega arith)
    by_first false rest = rest

module _ {K : Type 0} (other : K) where
  words : List (List ℕ × K) → List (List ℕ)
  words table = map (λ row. row.0) table

  kinds : List (List ℕ × K) → List K
  kinds table = map (λ row. row.1) table

  -- the kind of a row, or the other where no row is the word
  abbrev pub row_kind : List K → Option ℕ → K
  row_kind ks row = option_map_or (λ i. get_or ks i other) row other

  row_kind-suc : (k : K) (ks : List K) (o : Option ℕ) → row_kind (k ∷ ks) (option_map suc o) ≡ row_kind ks o
  row_kind-suc k ks None = refl
  row_kind-suc k ks (Some i) = refl

  kind_of-row : (table : List (List ℕ × K)) (text : List ℕ) → row_kind (map (λ row. row.1) table) (first_row_any_case text (map (λ row. row.0) table)) ≡ kind_of other table text
  kind_of-row [] text = refl
  kind_of-row (row ∷ rows) text = by_first (bytes_eq (upper row.0) (upper text)) (kind_of-row rows text)
    where
      by_first : (t : Bool) → row_kind (map (λ row. row.1) rows) (first_row_any_case text (map (λ row. row.0) rows)) ≡ kind_of other rows text →
          row_kind (row.1 ∷ map (λ row. row.1) rows) (if t then Some 0 else first_row_from (upper text) 1 (map upper (map (λ row. row.0) rows))) ≡ (if t then row.1 else kind_of other rows text)
      by_first true rest = refl
      by_first false rest = ap (row_kind (row.1 ∷ map (λ row. row.1) rows)) (first_row_from-suc (upper text) 0 (map upper (map (λ row. row.0) rows))) ∙ row_kind-suc row.1 (map (λ row. row.1) rows) _ ∙ rest

pub kind_rows : {K : Type 0} (other : K) (table : List (List ℕ × K)) (text : List ℕ) → row_kind other (map (λ row. row.1) table) (first_row_any_case text (map (λ row. row.0) table)) ≡ kind_of other table text
kind_rows other table text = kind_of-row other table text
