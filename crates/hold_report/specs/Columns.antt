-- Columns of a text. What is wider than its column stands there whole, and nothing is cut off.
--
-- blanks count: so many spaces.
-- at_left width text: the text, and behind it the spaces that it lacks to that width.
-- at_right width text: the text, and in front of it the spaces that it lacks to that width.
use Rattle.std.specs.Prelude.{ℕ, ◌-◌, List, ◌++◌, length, replicate}

-- the byte of a space
abbrev pub space : ℕ
space = 32

abbrev pub blanks : ℕ → List ℕ
blanks count = replicate count space

abbrev pub at_left : ℕ → List ℕ → List ℕ
at_left width text = text ++ blanks (width - length text)

abbrev pub at_right : ℕ → List ℕ → List ℕ
at_right width text = blanks (width - length text) ++ text
