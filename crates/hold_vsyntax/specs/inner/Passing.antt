-- first_within ts: of tokens that follow on what a piece has already, those that still belong to it: up to and with
--   the next semicolon, else all. rest_within ts: those behind them.
-- first_piece ts: the first piece of the tokens. rest_behind ts: the tokens behind it.
-- found_lexeme t: the token that was found, without where it lies in memory.
use Rattle.std.specs.Prelude.{List, [], ◌∷◌, if◌then◌else◌, Option, Some, None}
use Rattle.hold_vlex.specs.Lexed.{Lexeme, lexeme}
use Rattle.hold_vlex.specs.declared.token.Token.{Token}
use Rattle.hold_vsyntax.specs.Symbols.{symbol}
use Rattle.hold_vsyntax.specs.Pieces.{ends_piece, is_piece}

abbrev pub first_within : List Lexeme → List Lexeme
first_within [] = []
first_within (t ∷ ts) = if ends_piece (symbol t) then t ∷ [] else t ∷ first_within ts

abbrev pub rest_within : List Lexeme → List Lexeme
rest_within [] = []
rest_within (t ∷ ts) = if ends_piece (symbol t) then ts else rest_within ts

abbrev pub first_piece : List Lexeme → List Lexeme
first_piece [] = []
first_piece (t ∷ ts) = if is_piece (symbol t) then t ∷ [] else t ∷ first_within ts

abbrev pub rest_behind : List Lexeme → List Lexeme
rest_behind [] = []
rest_behind (t ∷ ts) = if is_piece (symbol t) then ts else rest_within ts

abbrev pub found_lexeme : Option Token → Option Lexeme
found_lexeme None = None
found_lexeme (Some t) = Some (lexeme t)
