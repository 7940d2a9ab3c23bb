-- place_of name names: the place, from 0, of the first of these names that is this one; None where none is.
-- at_place xs place: what stands in that place of a list; None where no place is given, or nothing stands there.
-- IsIndex pairs names: a table has each name's first place among these names.
use Rattle.std.specs.Prelude.{◌≡◌, ℕ, suc, List, [], ◌∷◌, Option, Some, None, bytes_eq, slice_get, if◌then◌else◌}
use Rattle.std.specs.Option.{option_map}
use Rattle.hold_netlist.specs.NameTable.{number_of}

abbrev pub place_of : List ℕ → List (List ℕ) → Option ℕ
place_of name [] = None
place_of name (x ∷ xs) = if bytes_eq name x then Some 0 else option_map suc (place_of name xs)

abbrev pub at_place : {X : Type 0} → List X → Option ℕ → Option X
at_place xs None = None
at_place xs (Some n) = slice_get xs n

pub record IsIndex (pairs : List (List ℕ × ℕ)) (listed : List (List ℕ)) : Type 0 where
  pub places : (name : List ℕ) → number_of name pairs ≡ place_of name listed
