-- ends_piece s: whether the symbol ends the piece that it stands in: a semicolon.
-- is_piece s: whether the symbol, where a piece would begin with it, is that whole piece: the semicolon, or the
--   word `endmodule`.
-- onto t ps: the token t put in front of the first of the pieces; a piece of its own where there is none.
-- pieces ts: the tokens cut into pieces. Each runs up to and with the next semicolon, but a piece that would
--   begin with the word `endmodule` is that one token. The last may be unfinished. No piece is empty.
-- pieces_within ts: the same where the tokens follow on what a piece has already, so that the first of the
--   pieces is the rest of that one, and is empty where no token follows.
use Rattle.std.specs.Prelude.{Bool, true, false, List, [], ◌∷◌, if◌then◌else◌}
use Rattle.hold_vlex.specs.Lexed.{Lexeme}
use Rattle.hold_vsyntax.specs.declared.mark.Mark.TheVariants.{EndModule, Semicolon}
use Rattle.hold_vsyntax.specs.Symbols.{Symbol, Marked, symbol}

abbrev pub ends_piece : Symbol → Bool
ends_piece (Marked Semicolon) = true
ends_piece _ = false

abbrev pub is_piece : Symbol → Bool
is_piece (Marked Semicolon) = true
is_piece (Marked EndModule) = true
is_piece _ = false

abbrev pub onto : Lexeme → List (List Lexeme) → List (List Lexeme)
onto t [] = (t ∷ []) ∷ []
onto t (p ∷ ps) = (t ∷ p) ∷ ps

abbrev mutual
  pub pieces : List Lexeme → List (List Lexeme)
  pieces [] = []
  pieces (t ∷ ts) = if is_piece (symbol t) then (t ∷ []) ∷ pieces ts else onto t (pieces_within ts)

  pub pieces_within : List Lexeme → List (List Lexeme)
  pieces_within [] = [] ∷ []
  pieces_within (t ∷ ts) = if ends_piece (symbol t) then (t ∷ []) ∷ pieces ts else onto t (pieces_within ts)
