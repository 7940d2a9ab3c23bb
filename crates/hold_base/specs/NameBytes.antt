-- is_printed b, IsPrinted b: the byte prints and is no space: it is from 33 to 126.
-- IsName text: at least one byte, each of which prints and is no space.
use Rattle.std.specs.Prelude.{ℕ, ◌≤◌, ◌≢◌, List, [], Bool, ◌&&◌, nat_le}
use Rattle.std.specs.List.{AllByRecursion}

abbrev pub is_printed : ℕ → Bool
is_printed b = nat_le 33 b && nat_le b 126

abbrev pub IsPrinted : ℕ → Type 0
IsPrinted b = (33 ≤ b) × (b ≤ 126)

pub record IsName (text : List ℕ) : Type 0 where
  pub some : text ≢ []
  pub bytes : AllByRecursion IsPrinted text
