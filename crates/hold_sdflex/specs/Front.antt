-- What stands at the front of a text, by cases on its first bytes.
--
-- opening, closing, colon_sign: the bytes of the parentheses and of the colon.
-- ends_atom b: whether the byte ends an atom, where no backslash takes it: white space, a parenthesis, a colon or a
--     quote. A comment's sign ends no atom, so `a//b` is one, and a comment opens only where a piece could begin.
-- Mark: what a piece is by its first byte: an opening or a closing parenthesis (opens, closes), a colon (colon), a
--     string, which a quote begins (string), or else an atom (atom). mark_of b: the mark of a piece that begins with
--     this byte.
-- atom_length bytes: how long an atom is: the bytes before its end, where a backslash takes the byte after it, whatever
--     that is; None where a backslash that isn't taken itself is the last byte of the text.
-- piece_length mark bytes: how long the piece of this mark is that stands first: one byte for a parenthesis or a colon,
--     up to and with the next quote for a string; None where a string or an atom has no end.
-- Front: what stands at the front of a text: the mark of a piece and its length in bytes; no mark where white space or
--     a comment stands there instead.
-- front_of b rest: the front of the text that begins with this byte and goes on with the rest. White space counts byte
--     by byte, a line comment up to its newline, a block comment up to and with its end. None where a string, a block
--     comment or a backslash that stands there has no end.
use Rattle.std.specs.Prelude.{ℕ, suc, ◌+◌, Bool, ◌==◌, ◌||◌, ◌&&◌, List, [], ◌∷◌, drop, Option, None, Some, option_map, position, if◌then◌else◌}
use Rattle.hold_text.specs.Blanks.{quote, star, slash, backslash, is_blank, heads, line_len, comment_end}

pub data Mark : Type 0 where
  opens : Mark
  closes : Mark
  colon : Mark
  string : Mark
  atom : Mark

pub record Front : Type 0 where
  pub mark : Option Mark
  pub len : ℕ

abbrev pub opening : ℕ
opening = 40

abbrev pub closing : ℕ
closing = 41

abbrev pub colon_sign : ℕ
colon_sign = 58

-- the end of an atom
abbrev pub ends_atom : ℕ → Bool
ends_atom b = is_blank b || b == opening || b == closing || b == colon_sign || b == quote

-- the length of an atom
abbrev pub atom_length : List ℕ → Option ℕ
atom_length [] = Some 0
atom_length (b ∷ []) = if ends_atom b then Some 0 else if b == backslash then None else Some 1
atom_length (b ∷ c ∷ bytes) =
    if ends_atom b then Some 0
    else if b == backslash then option_map (λ n. n + 2) (atom_length bytes)
    else option_map suc (atom_length (c ∷ bytes))

-- the mark of a piece that begins with this byte
abbrev pub mark_of : ℕ → Mark
mark_of b =
    if b == opening then opens
    else if b == closing then closes
    else if b == colon_sign then colon
    else if b == quote then string
    else atom

-- the length of a piece of this mark at the front of these bytes
abbrev pub piece_length : Mark → List ℕ → Option ℕ
piece_length opens bytes = Some 1
piece_length closes bytes = Some 1
piece_length colon bytes = Some 1
piece_length string bytes = option_map (λ n. n + 2) (position (λ b. b == quote) (drop 1 bytes))
piece_length atom bytes = atom_length bytes

-- the front of a text of a first byte and the rest
abbrev pub front_of : ℕ → List ℕ → Option Front
front_of b rest =
    if is_blank b then Some (record { mark = None; len = 1 })
    else if b == slash && heads slash rest then Some (record { mark = None; len = 1 + line_len rest })
    else if b == slash && heads star rest then option_map (λ n. record { mark = None; len = n }) (comment_end 2 (drop 1 rest))
    else option_map (λ n. record { mark = Some (mark_of b); len = n }) (piece_length (mark_of b) (b ∷ rest))
