-- blamed ts: what the first piece of the tokens is refused for, where no word `module` may open it.
-- blamed_at_front ts: the same where it may.
-- Blames stop fault: the stop is this fault. Want of memory may come in its place.
-- Follows ps fault: something follows on the end of the module, and the fault tells that. IsBad p fault: the piece can't
--   stand there, and the fault tells that.
-- IsStatement i ps qs: the pieces ps are the statement i and then the pieces qs.
-- Stops ps end fault: no statement and no end of the module stands first among the pieces, or something follows on
--   the end, and the fault tells that; end is where the text ends.
-- IsStep ps result qs end: a statement was read, or the end of the module, behind which nothing is left; else the
--   reader stops.
-- IsBody ps items: the pieces are those of the statements and the end of the module.
-- IsBodyFault ps end fault: some statements can stand first, and then the reader stops.
-- HasRead old items new: the old pieces are those statements and then the new pieces.
use Rattle.std.specs.Prelude.{◌≡◌, ◌⊎◌, ℕ, ◌<◌, List, [], ◌∷◌, ◌++◌, map, length, Option, Some, None, Result, Ok, Err}
use Rattle.hold_base.specs.Answers.{IfStopFault}
use Rattle.hold_base.specs.declared.stop.Stop.{Stop}
use Rattle.hold_base.specs.declared.stop.Stop.TheVariants.{Memory, Fault}
use Rattle.hold_vlex.specs.Lexed.{Lexeme}
use Rattle.hold_vsyntax.specs.declared.fault.SyntaxFault.{SyntaxFault}
use Rattle.hold_vsyntax.specs.declared.fault.SyntaxFault.TheVariants.{Syntax}
use Rattle.hold_vsyntax.specs.declared.tree.Item.{Item}
use Rattle.hold_vsyntax.specs.Symbols.{symbols}
use Rattle.hold_vsyntax.specs.Pieces.{pieces}
use Rattle.hold_vsyntax.specs.inner.Passing.{first_piece}
use Rattle.hold_vsyntax.specs.Grammar.{item_piece, end_piece}
use Rattle.hold_vsyntax.specs.Text.{first_left_out, without_opening, blame}

abbrev pub blamed : List Lexeme → SyntaxFault
blamed ts = blame (first_piece ts) (first_left_out (first_piece ts))

abbrev pub blamed_at_front : List Lexeme → SyntaxFault
blamed_at_front ts = blame (first_piece ts) (first_left_out (without_opening (first_piece ts)))

abbrev pub Blames : Stop SyntaxFault → SyntaxFault → Type 0
Blames stop fault = IfStopFault stop (λ found. found ≡ fault)

pub record IsStatement (i : Item) (ps qs : List (List Lexeme)) : Type 0 where
  pub piece : List Lexeme
  pub cut : ps ≡ piece ∷ qs
  pub written : symbols piece ≡ item_piece i

pub record IsBad (bad : List Lexeme) (fault : SyntaxFault) : Type 0 where
  pub no_end : symbols bad ≡ end_piece → ⊥
  pub no_statement : (i : Item) → symbols bad ≡ item_piece i → ⊥
  pub named : fault ≡ blame bad (first_left_out bad)

abbrev pub Follows : List (List Lexeme) → SyntaxFault → Type 0
Follows [] fault = ⊥
Follows (bad ∷ ps) fault = fault ≡ blame bad (first_left_out bad)

abbrev pub Stops : List (List Lexeme) → ℕ → SyntaxFault → Type 0
Stops [] end fault = fault ≡ Syntax end
Stops (p ∷ ps) end fault = IsBad p fault ⊎ ((symbols p ≡ end_piece) × Follows ps fault)

abbrev pub IsStep : List Lexeme → Result (Option Item) (Stop SyntaxFault) → List Lexeme → ℕ → Type 0
IsStep old (Ok (Some i)) new end = IsStatement i (pieces old) (pieces new) × (length new < length old)
IsStep old (Ok None) new end = map symbols (pieces old) ≡ end_piece ∷ []
IsStep old (Err Memory) new end = Unit {0}
IsStep old (Err (Fault fault)) new end = Stops (pieces old) end fault

pub record IsBody (ps : List (List Lexeme)) (items : List Item) : Type 0 where
  pub written : map symbols ps ≡ map item_piece items ++ end_piece ∷ []

pub record HasRead (old : List (List Lexeme)) (items : List Item) (new : List (List Lexeme)) : Type 0 where
  pub done : List (List Lexeme)
  pub cut : old ≡ done ++ new
  pub written : map symbols done ≡ map item_piece items

pub record IsBodyFault (ps : List (List Lexeme)) (end : ℕ) (fault : SyntaxFault) : Type 0 where
  pub items : List Item
  pub left : List (List Lexeme)
  pub read : HasRead ps items left
  pub stops : Stops left end fault
