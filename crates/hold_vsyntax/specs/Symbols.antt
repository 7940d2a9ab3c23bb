-- Symbol: what the grammar sees of a token: a word or a sign that it asks for (Marked), an identifier with its place
--   (Named), a number (Counted), a constant of one bit (Tied), or what stands in no piece of the grammar (Strange).
-- ident name at: an identifier of that name and place. word_symbol text at, symbol_of sort text at: the symbol of a
--   word, and that of a token by its sort.
-- word_mark text: the mark of a word of the grammar; None for any other word.
-- sign_mark text: the mark of a sign of the grammar; None for any other sign. mark_of_sign byte: that of a sign's byte.
-- marked mark: the symbol of a mark; Strange where there is none.
-- symbol t: the symbol of a token. A word is an identifier where it is no keyword; an escaped name always is one,
--   also where it is spelled as a keyword.
-- symbols ts: the symbols of tokens, in order.
-- is_left_out t: whether the token is a keyword, a directive or a sign that the profile leaves out. The word
--   `module` is; where it opens the text, that isn't asked. is_left_out_as sort text: the same by a token's sort and text.
-- is_in_profile mark: whether a keyword of this mark isn't left out: one that has a mark, but for `module`.
-- is_left_out_sign text: whether it is `{` or `#`.
use Rattle.std.specs.Prelude.{ℕ, List, [], ◌∷◌, map, Bool, true, false, not, ◌&&◌, ◌||◌, ◌==◌, bytes_eq, if◌then◌else◌, Option, Some, None, codes}
use Rattle.hold_base.specs.Digits.{number_of}
use Rattle.hold_netlist.specs.Keywords.{keywords}
use Rattle.hold_netlist.specs.Names.{is_among}
use Rattle.hold_vlex.specs.Lexed.{Lexeme}
use Rattle.hold_vlex.specs.declared.token.Sort.{Sort}
use Rattle.hold_vlex.specs.declared.token.Sort.TheVariants.{Word, Escaped, Number, Constant, Directive, Sign, Other}
use Rattle.hold_vsyntax.specs.declared.mark.Mark.{Mark}
use Rattle.hold_vsyntax.specs.declared.mark.Mark.TheVariants.{Module, EndModule, Input, Output, Wire, Assign, Comma, Semicolon, Colon, Dot, Equals, LeftParenthesis, RightParenthesis, LeftBracket, RightBracket}
use Rattle.hold_vsyntax.specs.declared.tree.Ident.{Ident}

pub data Symbol : Type 0 where
  Marked : Mark → Symbol
  Named : Ident → Symbol
  Counted : ℕ → Symbol
  Tied : Bool → Symbol
  Strange : Symbol

abbrev pub ident : List ℕ → ℕ → Ident
ident name at = record { name = name; at = at }

unfoldable pub word_mark : List ℕ → Option Mark
word_mark text =
    if bytes_eq text (codes "module") then Some Module
    else (if bytes_eq text (codes "endmodule") then Some EndModule
    else (if bytes_eq text (codes "input") then Some Input
    else (if bytes_eq text (codes "output") then Some Output
    else (if bytes_eq text (codes "wire") then Some Wire
    else (if bytes_eq text (codes "assign") then Some Assign
    else None)))))

abbrev pub mark_of_sign : ℕ → Option Mark
mark_of_sign b =
    if b == 44 then Some Comma
    else (if b == 59 then Some Semicolon
    else (if b == 58 then Some Colon
    else (if b == 46 then Some Dot
    else (if b == 61 then Some Equals
    else (if b == 40 then Some LeftParenthesis
    else (if b == 41 then Some RightParenthesis
    else (if b == 91 then Some LeftBracket
    else (if b == 93 then Some RightBracket
    else None))))))))

unfoldable pub sign_mark : List ℕ → Option Mark
sign_mark [] = None
sign_mark (b ∷ []) = mark_of_sign b
sign_mark (b ∷ c ∷ bs) = None

abbrev pub marked : Option Mark → Symbol
marked (Some m) = Marked m
marked None = Strange

unfoldable pub word_symbol : List ℕ → ℕ → Symbol
word_symbol text at = if is_among text keywords then marked (word_mark text) else Named (ident text at)

abbrev pub symbol_of : Sort → List ℕ → ℕ → Symbol
symbol_of Word text at = word_symbol text at
symbol_of Escaped text at = Named (ident text at)
symbol_of Number text at = Counted (number_of text)
symbol_of (Constant value) text at = Tied value
symbol_of Directive text at = Strange
symbol_of Sign text at = marked (sign_mark text)
symbol_of Other text at = Strange

abbrev pub symbol : Lexeme → Symbol
symbol t = symbol_of t.sort t.text t.at

abbrev pub symbols : List Lexeme → List Symbol
symbols ts = map symbol ts

abbrev pub is_in_profile : Option Mark → Bool
is_in_profile None = false
is_in_profile (Some Module) = false
is_in_profile (Some _) = true

abbrev pub is_left_out_sign : List ℕ → Bool
is_left_out_sign text = bytes_eq text (codes "{") || bytes_eq text (codes "#")

abbrev pub is_left_out_as : Sort → List ℕ → Bool
is_left_out_as Word text = is_among text keywords && not (is_in_profile (word_mark text))
is_left_out_as Escaped text = false
is_left_out_as Number text = false
is_left_out_as (Constant value) text = false
is_left_out_as Directive text = true
is_left_out_as Sign text = is_left_out_sign text
is_left_out_as Other text = false

unfoldable pub is_left_out : Lexeme → Bool
is_left_out t = is_left_out_as t.sort t.text
