-- A table from names to numbers is seen as its pairs, in the order in which they were added.
--
-- number_of name pairs: the number of the first pair of that name; None where there is none.
use Rattle.std.specs.Prelude.{ℕ, List, [], ◌∷◌, Option, Some, None, bytes_eq, if◌then◌else◌}

abbrev pub number_of : List ℕ → List (List ℕ × ℕ) → Option ℕ
number_of name [] = None
number_of name (p ∷ ps) = if bytes_eq name p.0 then Some p.1 else number_of name ps
