-- IsSeenFront front rest: the symbol in sight is its token's, and where none is in sight, none is left.
-- tokens_from front rest: the tokens that are left: the one in sight, and those of the rest; none where none is in
--   sight.
-- IsSeen front rest: no lexical fault follows, and IsSeenFront holds.
-- IsFront ts front rest: the token in sight is the first of the tokens ts, and the rest are those behind it.
-- first_symbol s: the symbol in sight, without where its text lies.
-- in_sight ts: the symbol of the first of the tokens.
-- ends_in_sight s: whether the symbol in sight ends the piece that it stands in. is_whole_in_sight s: whether it is a
--   whole piece where one begins with it.
-- is_module_in_sight s: whether it is the word `module`.
-- IsPopped old token new: the token is the first of the old ones, and the new ones are those behind it; at the end
--   there is none.
use Rattle.std.specs.Prelude.{◌≡◌, List, [], ◌∷◌, Option, Some, None, Bool, false}
use Rattle.hold_vsyntax.specs.Pieces.{ends_piece, is_piece}
use Rattle.hold_vlex.specs.Lexed.{Lexeme, Lexed, lexeme}
use Rattle.hold_vlex.specs.declared.token.Token.{Token}
use Rattle.hold_vsyntax.specs.declared.reader.Front.{Front}
use Rattle.hold_vsyntax.specs.declared.symbol.Symbol.{Symbol as Found}
use Rattle.hold_vsyntax.specs.Symbols.{Symbol, symbol}
use Rattle.hold_vsyntax.specs.Text.{is_module}
use Rattle.hold_vsyntax.specs.inner.Shown.{shown}

abbrev pub tokens_from : Option Front → Lexed → List Lexeme
tokens_from None rest = []
tokens_from (Some f) rest = lexeme f.token ∷ rest.tokens

abbrev pub IsSeenFront : Option Front → Lexed → Type 0
IsSeenFront None rest = rest.tokens ≡ []
IsSeenFront (Some f) rest = shown f.symbol ≡ symbol (lexeme f.token)

pub record IsSeen (front : Option Front) (rest : Lexed) : Type 0 where
  pub sound : rest.fault ≡ None
  pub seen : IsSeenFront front rest

pub record IsFront (tokens : List Lexeme) (front : Option Front) (rest : Lexed) : Type 0 where
  pub same : tokens_from front rest ≡ tokens
  pub seen : IsSeen front rest

abbrev pub first_symbol : Option Found → Option Symbol
first_symbol None = None
first_symbol (Some s) = Some (shown s)

abbrev pub in_sight : List Lexeme → Option Symbol
in_sight [] = None
in_sight (t ∷ ts) = Some (symbol t)

abbrev pub IsPopped : List Lexeme → Option Token → List Lexeme → Type 0
IsPopped old None new = (old ≡ []) × (new ≡ [])
IsPopped old (Some t) new = old ≡ lexeme t ∷ new

abbrev pub ends_in_sight : Option Symbol → Bool
ends_in_sight None = false
ends_in_sight (Some s) = ends_piece s

abbrev pub is_whole_in_sight : Option Symbol → Bool
is_whole_in_sight None = false
is_whole_in_sight (Some s) = is_piece s

abbrev pub is_module_in_sight : Option Symbol → Bool
is_module_in_sight None = false
is_module_in_sight (Some s) = is_module s
