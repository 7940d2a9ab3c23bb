-- is_letter b: a letter A to Z or a to z, or `_`.
-- is_word_byte b: such a letter, a digit or `$`.
-- is_word text: a letter and then word bytes; the empty text is none.
-- is_simple text: a simple identifier, which is written as it stands: a word that is no keyword.
use Rattle.std.specs.Prelude.{ℕ, List, [], ◌∷◌, Bool, false, not, ◌&&◌, ◌||◌, nat_le, nat_eq}
use Rattle.std.specs.List.{list_all}
use Rattle.hold_netlist.specs.Names.{is_among}
use Rattle.hold_netlist.specs.Keywords.{keywords}

abbrev pub is_letter : ℕ → Bool
is_letter b = (nat_le 97 b && nat_le b 122) || (nat_le 65 b && nat_le b 90) || nat_eq b 95

abbrev pub is_word_byte : ℕ → Bool
is_word_byte b = is_letter b || (nat_le 48 b && nat_le b 57) || nat_eq b 36

abbrev pub is_word : List ℕ → Bool
is_word [] = false
is_word (b ∷ bs) = is_letter b && list_all is_word_byte bs

abbrev pub is_simple : List ℕ → Bool
is_simple text = is_word text && not (is_among text keywords)
