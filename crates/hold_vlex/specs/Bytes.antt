-- The bytes of Verilog's tokens.
--
-- dollar, apostrophe, left_parenthesis, right_parenthesis, underscore, backquote: these bytes.
-- begins_word b: a letter or `_`. continues_word b: a letter, a digit, `_` or `$`.
-- begins_number b: a digit or an apostrophe. continues_number b: what continues a word, or an apostrophe.
-- is_in_directive b: a letter, a digit or `_`.
-- is_base b: the letter of a base, b, d, h or o in either case.
use Rattle.std.specs.Prelude.{ℕ, Bool, ◌||◌, ◌==◌}
use Rattle.std.specs.Char.{is_ascii_digit, is_ascii_alphabetic, is_ascii_alphanumeric}

abbrev pub dollar : ℕ
dollar = 36

abbrev pub apostrophe : ℕ
apostrophe = 39

abbrev pub left_parenthesis : ℕ
left_parenthesis = 40

abbrev pub right_parenthesis : ℕ
right_parenthesis = 41

abbrev pub underscore : ℕ
underscore = 95

abbrev pub backquote : ℕ
backquote = 96

abbrev pub begins_word : ℕ → Bool
begins_word b = is_ascii_alphabetic b || b == underscore

abbrev pub is_in_directive : ℕ → Bool
is_in_directive b = is_ascii_alphanumeric b || b == underscore

abbrev pub continues_word : ℕ → Bool
continues_word b = is_in_directive b || b == dollar

abbrev pub begins_number : ℕ → Bool
begins_number b = is_ascii_digit b || b == apostrophe

abbrev pub continues_number : ℕ → Bool
continues_number b = continues_word b || b == apostrophe

-- the bases are written B, D, H, O, b, d, h and o
abbrev pub is_base : ℕ → Bool
is_base b = b == 66 || b == 68 || b == 72 || b == 79 || b == 98 || b == 100 || b == 104 || b == 111
