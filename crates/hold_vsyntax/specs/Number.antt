-- IsPlain text: decimal digits alone, and no leading zero; so zero is the empty text.
use Rattle.std.specs.Prelude.{◌≢◌, ℕ, List, IsTrue, slice_index}
use Rattle.std.specs.Char.{is_ascii_digit}
use Rattle.std.specs.List.{list_all}

pub record IsPlain (text : List ℕ) : Type 0 where
  pub digits : IsTrue (list_all is_ascii_digit text)
  pub first : slice_index text 0 ≢ 48
