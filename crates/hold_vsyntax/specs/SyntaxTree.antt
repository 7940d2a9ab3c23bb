-- IsTree text m: the text has no lexical fault, and its tokens, cut into pieces, are the pieces of the module m.
-- IsLexFault text fault: the fault is the text's first lexical fault.
-- IsBadPiece text fault: the text has no lexical fault, and the fault is that of the first piece that can't stand.
-- IsEarlyEnd text fault: the text has no lexical fault, each piece can stand, and the text ends before its module does; the
--   fault is a piece that can't stand at the text's end.
-- IsSyntaxFault text fault: the text is no module, for its first lexical fault, else for its first piece that can't
--   stand, else since it ends too early.
use Rattle.std.specs.Prelude.{◌≡◌, ◌⊎◌, ℕ, List, length, Some, None}
use Rattle.hold_vlex.specs.Lexed.{lexed}
use Rattle.hold_vlex.specs.declared.fault.LexFault.{LexFault}
use Rattle.hold_vsyntax.specs.declared.fault.SyntaxFault.{SyntaxFault}
use Rattle.hold_vsyntax.specs.declared.fault.SyntaxFault.TheVariants.{Lex, Syntax}
use Rattle.hold_vsyntax.specs.declared.tree.Module.{Module}
use Rattle.hold_vsyntax.specs.Text.{IsModule, IsPieceFault, EndsEarly}

pub record IsTree (text : List ℕ) (m : Module) : Type 0 where
  pub tokens : (lexed text).fault ≡ None
  pub pieces : IsModule (lexed text).tokens m

pub record IsLexFault (text : List ℕ) (fault : SyntaxFault) : Type 0 where
  pub lex_fault : LexFault
  pub found : (lexed text).fault ≡ Some lex_fault
  pub named : fault ≡ Lex lex_fault

pub record IsBadPiece (text : List ℕ) (fault : SyntaxFault) : Type 0 where
  pub tokens : (lexed text).fault ≡ None
  pub piece : IsPieceFault (lexed text).tokens fault

pub record IsEarlyEnd (text : List ℕ) (fault : SyntaxFault) : Type 0 where
  pub tokens : (lexed text).fault ≡ None
  pub early : EndsEarly (lexed text).tokens
  pub named : fault ≡ Syntax (length text)

abbrev pub IsSyntaxFault : List ℕ → SyntaxFault → Type 0
IsSyntaxFault text fault = IsLexFault text fault ⊎ IsBadPiece text fault ⊎ IsEarlyEnd text fault
