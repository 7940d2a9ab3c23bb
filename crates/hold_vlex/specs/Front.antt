-- Front: what stands at the front of a text, by the first rule that fits. Nothing: the text is empty.
--   Past n: n bytes that are no token: a blank, a comment, an attribute, or a directive with its line.
--   Read sort text n: a token of that sort and text, which takes n bytes.
--   Bad n: n bytes on stands a byte that fits no rule. NoEnd: a comment or an attribute that has no end.
--   NoName: an escaped name that is empty or reaches the end of the text.
-- attribute_end n text: the place after the first `*)` that is in no string, where the text's first byte has the
--   place n and is in no string itself; None where there is no such sign, as where a string never ends.
-- string_end n text: the same where the text's first byte is in a string, which ends at its next quote.
-- after_backslash n text: the same where the text's first byte stands after a backslash in a string, and so
--   neither ends the string nor takes the byte after it.
-- closed end: what is read past up to that end, or NoEnd where there is none.
-- line_directives: the directives that are read past with the rest of their line.
-- directive run bs: what a backquote opens, where bs follows it and run is its name, which may be empty: past
--   with its line, or a token whose text has the backquote.
-- escaped name next: what a backslash opens, where name follows it, as far as bytes are printed, and next is the
--   byte after that. A byte that is no blank is bad, also after an empty name.
-- number_sort run: the sort of a run that begins with a digit or an apostrophe: Number where all are digits,
--   Constant where it is `1'`, a base and `0` or `1`, and nothing more; else Other.
-- constant_sort run: the same where not all are digits.
-- fits_sort sort text: whether a number's text is digits alone. Of any other sort nothing is asked.
-- whole sort text: a token whose text is all that it takes.
-- front text: what stands at the front of the text.
use Rattle.std.specs.Prelude.{ℕ, ◌+◌, Bool, true, false, ◌&&◌, ◌==◌, if◌then◌else◌, List, [], ◌∷◌, length, drop, slice_get, Option, Some, None, is_some, codes}
use Rattle.std.specs.List.{prefix_len, take_while, list_all}
use Rattle.std.specs.Char.{is_ascii_digit}
use Rattle.hold_words.specs.Rows.{first_row}
use Rattle.hold_text.specs.Blanks.{quote, star, slash, backslash, is_blank, line_len, heads, comment_end}
use Rattle.hold_vlex.specs.Bytes.{apostrophe, left_parenthesis, right_parenthesis, backquote, begins_word, is_in_directive, continues_word, begins_number, continues_number, is_base}
use Rattle.hold_base.specs.NameBytes.{is_printed}
use Rattle.hold_vlex.specs.declared.token.Sort.{Sort}
use Rattle.hold_vlex.specs.declared.token.Sort.TheVariants.{Word, Escaped, Number, Constant, Directive, Sign, Other}

pub data Front : Type 0 where
  Nothing : Front
  Past : ℕ → Front
  Read : Sort → List ℕ → ℕ → Front
  Bad : ℕ → Front
  NoEnd : Front
  NoName : Front

abbrev mutual
  pub attribute_end : ℕ → List ℕ → Option ℕ
  attribute_end n [] = None
  attribute_end n (b ∷ bs) =
      if b == star && heads right_parenthesis bs then Some (n + 2)
      else (if b == quote then string_end (n + 1) bs
      else attribute_end (n + 1) bs)

  pub string_end : ℕ → List ℕ → Option ℕ
  string_end n [] = None
  string_end n (b ∷ bs) =
      if b == quote then attribute_end (n + 1) bs
      else (if b == backslash then after_backslash (n + 1) bs
      else string_end (n + 1) bs)

  pub after_backslash : ℕ → List ℕ → Option ℕ
  after_backslash n [] = None
  after_backslash n (b ∷ bs) = string_end (n + 1) bs

abbrev pub closed : Option ℕ → Front
closed (Some n) = Past n
closed None = NoEnd

unfoldable pub line_directives : List (List ℕ)
line_directives =
    codes "timescale" ∷ codes "celldefine" ∷ codes "endcelldefine" ∷ codes "default_nettype" ∷ codes "resetall" ∷ []

abbrev pub directive : List ℕ → List ℕ → Front
directive run bs =
    if is_some (first_row run line_directives) then Past (1 + length run + line_len (drop (length run) bs))
    else Read Directive (backquote ∷ run) (1 + length run)

abbrev pub escaped : List ℕ → Option ℕ → Front
escaped name None = NoName
escaped name (Some b) =
    if is_blank b then (if length name == 0 then NoName else Read Escaped name (1 + length name))
    else Bad (1 + length name)

abbrev pub constant_sort : List ℕ → Sort
constant_sort (one ∷ tick ∷ base ∷ value ∷ []) =
    if one == 49 && tick == apostrophe && is_base base && value == 48 then Constant false
    else (if one == 49 && tick == apostrophe && is_base base && value == 49 then Constant true
    else Other)
constant_sort _ = Other

unfoldable pub number_sort : List ℕ → Sort
number_sort run = if list_all is_ascii_digit run then Number else constant_sort run

abbrev pub fits_sort : Sort → List ℕ → Bool
fits_sort Number text = list_all is_ascii_digit text
fits_sort Word text = true
fits_sort Escaped text = true
fits_sort (Constant value) text = true
fits_sort Directive text = true
fits_sort Sign text = true
fits_sort Other text = true

abbrev pub whole : Sort → List ℕ → Front
whole sort text = Read sort text (length text)

unfoldable pub front : List ℕ → Front
front [] = Nothing
front (b ∷ bs) =
    if is_blank b then Past 1
    else (if b == slash && heads slash bs then Past (1 + line_len bs)
    else (if b == slash && heads star bs then closed (comment_end 2 (drop 1 bs))
    else (if b == left_parenthesis && heads star bs then closed (attribute_end 2 (drop 1 bs))
    else (if b == backquote then directive (take_while is_in_directive bs) bs
    else (if b == backslash then escaped (take_while is_printed bs) (slice_get bs (prefix_len is_printed bs))
    else (if begins_word b then whole Word (b ∷ take_while continues_word bs)
    else (if begins_number b then whole (number_sort (b ∷ take_while continues_number bs)) (b ∷ take_while continues_number bs)
    else (if is_printed b then whole Sign (b ∷ [])
    else Bad 0))))))))
