-- Which numbers the names of a netlist take.
--
-- HasNumber names n: some of the names begins as those of the number n do: not each is without them.
-- AreUsed names used: of each number that there is a flag for, the flag tells whether some of the names begins as its names do. No more
--   flags are set than there are names.
use Rattle.std.specs.Prelude.{◌≡◌, ℕ, ◌<◌, ◌≤◌, List, length, Bool, true, false, slice_index_or}
use Rattle.std.specs.List.{AllByRecursion, count_by}
use Rattle.hold_insert.specs.NewNames.{stem, BeginsWith}

abbrev pub AreWithout : List (List ℕ) → ℕ → Type 0
AreWithout names n = AllByRecursion (λ name. BeginsWith (stem n) name → ⊥) names

pub record AreUsed (names : List (List ℕ)) (used : List Bool) : Type 0 where
  pub free : (n : ℕ) → n < length used → slice_index_or used n false ≡ false → AreWithout names n
  pub taken : (n : ℕ) → slice_index_or used n false ≡ true → AreWithout names n → ⊥
  pub few : count_by (λ flag. flag) used ≤ length names
