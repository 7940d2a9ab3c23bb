-- A table from names to numbers is seen as its pairs.
--
-- first_at place name names: the place of the first of these names that is the name, where the first of all stands at `place`.
--   None where none is.
-- TellsPlaces names table: the table gives each name the place at which it stands first, counted from 0.
use Rattle.std.specs.Prelude.{◌≡◌, ℕ, ◌+◌, List, [], ◌∷◌, Option, Some, None, bytes_eq, if◌then◌else◌}
use Rattle.hold_netlist.specs.NameTable.{number_of}

abbrev pub first_at : ℕ → List ℕ → List (List ℕ) → Option ℕ
first_at place name [] = None
first_at place name (n ∷ names) = if bytes_eq name n then Some place else first_at (place + 1) name names

pub record TellsPlaces (names : List (List ℕ)) (table : List (List ℕ × ℕ)) : Type 0 where
  pub each : (name : List ℕ) → number_of name table ≡ first_at 0 name names
