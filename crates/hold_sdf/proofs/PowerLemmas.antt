-- The power of ten beside a word in a table, by the word's row.
use Rattle.std.proofs.Common.{◌≡◌, ℕ, suc, Bool, true, false, Option, Some, None, List, [], ◌∷◌, get_or, map, refl, ap, ◌∙◌, bytes_eq}
use Rattle.std.specs.Prelude.{option_map, if◌then◌else◌}
use Rattle.hold_words.specs.Rows.{first_row_from, first_row}
use Rattle.hold_sdf.specs.Settings.{power_in}
use Rattle.hold_sdf.proofs.KindLemmas.{first_row_from-suc}

abbrev pub row_power : List ℕ → Option ℕ → Option ℕ
row_power powers row = option_map (λ i. get_or powers i 0) row

row_power-suc : (p : ℕ) (ps : List ℕ) (o : Option ℕ) → row_power (p ∷ ps) (option_map suc o) ≡ row_power ps o
row_power-suc p ps None = refl
row_power-suc p ps (Some i) = refl

pub power_rows : (table : List (List ℕ × ℕ)) (text : List ℕ) → row_power (map (λ row. row.1) table) (first_row text (map (λ row. row.0) table)) ≡ power_in table text
power_rows [] text = refl
power_rows (row ∷ rows) text = by_first (bytes_eq row.0 text) (power_rows rows text)
  where
    by_first : (t : Bool) → row_power (map (λ row. row.1) rows) (first_row text (map (λ row. row.0) rows)) ≡ power_in rows text →
        row_power (row.1 ∷ map (λ row. row.1) rows) (if t then Some 0 else first_row_from text 1 (map (λ row. row.0) rows)) ≡ (if t then Some row.1 else power_in rows text)
    by_first true rest = refl
    by_first false rest = ap (row_power (row.1 ∷ map (λ row. row.1) rows)) (first_row_from-suc text 0 (map (λ row. row.0) rows)) ∙ row_power-suc row.1 (map (λ row. row.1) rows) _ ∙ rest
