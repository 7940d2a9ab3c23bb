-- number_of digits: the number that decimal digits, from '0' (48) to '9' (57), write: each counts ten times as much as the one
--   behind it. No digits write 0, and leading zeros count for nothing.
use Rattle.std.specs.Prelude.{ℕ, ◌+◌, ◌-◌, ◌*◌, ◌^◌, List, [], ◌∷◌, length}

abbrev pub number_of : List ℕ → ℕ
number_of [] = 0
number_of (b ∷ bs) = (b - 48) * 10 ^ length bs + number_of bs
