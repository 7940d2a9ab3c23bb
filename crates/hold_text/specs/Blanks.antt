-- White space and comments, which the formats of this project have alike.
--
-- newline, quote, star, slash, backslash: these bytes.
-- is_blank b: white space, which is space, tab, newline, carriage return and form feed.
-- is_in_line b: any byte but the newline, at which a line ends.
-- heads b text: the text begins with that byte; never of the empty text.
-- line_len text: how many bytes of the text stand before the end of its first line; all of them where it has no newline.
-- comment_end n text: the place after the first `*/`, where the text's first byte has the place n; None where
--   there is no such sign.
use Rattle.std.specs.Prelude.{ℕ, ◌+◌, Bool, false, not, ◌&&◌, ◌||◌, ◌==◌, if◌then◌else◌, List, [], ◌∷◌, Option, Some, None}
use Rattle.std.specs.List.{prefix_len}

abbrev pub newline : ℕ
newline = 10

abbrev pub quote : ℕ
quote = 34

abbrev pub star : ℕ
star = 42

abbrev pub slash : ℕ
slash = 47

abbrev pub backslash : ℕ
backslash = 92

abbrev pub is_blank : ℕ → Bool
is_blank b = b == 32 || b == 9 || b == newline || b == 13 || b == 12

abbrev pub is_in_line : ℕ → Bool
is_in_line b = not (b == newline)

abbrev pub heads : ℕ → List ℕ → Bool
heads b [] = false
heads b (c ∷ text) = c == b

abbrev pub line_len : List ℕ → ℕ
line_len text = prefix_len is_in_line text

abbrev pub comment_end : ℕ → List ℕ → Option ℕ
comment_end n [] = None
comment_end n (b ∷ bs) = if b == star && heads slash bs then Some (n + 2) else comment_end (n + 1) bs
