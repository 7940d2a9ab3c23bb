-- IsModule tokens m: the pieces of the tokens are those of the module: its header, its statements and
--   `endmodule`; nothing follows.
-- CanStand ps: some module's pieces begin with these.
-- IsFirstBad tokens done bad: the pieces `done`, with which the tokens begin, can stand, and the next, bad, can't
--   stand behind them.
-- first_left_out ts: the first token that the profile leaves out; None where there is none.
-- is_module s: whether the symbol is the word `module`.
-- without_opening ts: the tokens without the word `module` that may open them.
-- left_out_in done bad: the first token of the bad piece that is left out. The text's first token may be `module`.
-- place_of ts: where the first of the tokens stands; 0 where there is none.
-- blame bad left_out: what the bad piece is refused for: a token that is left out, else the place where it begins.
-- blame_at place left_out: the same where it begins at that place.
-- IsPieceFault tokens fault: the first piece that can't stand is refused so.
-- EndsEarly tokens: each piece can stand, and they are no whole module.
use Rattle.std.specs.Prelude.{◌≡◌, ℕ, Bool, true, false, List, [], ◌∷◌, ◌++◌, map, if◌then◌else◌, Option, Some, None}
use Rattle.hold_vlex.specs.Lexed.{Lexeme}
use Rattle.hold_vsyntax.specs.declared.mark.Mark.TheVariants.{Module as TheModule}
use Rattle.hold_vsyntax.specs.declared.tree.Module.{Module}
use Rattle.hold_vsyntax.specs.declared.fault.SyntaxFault.{SyntaxFault}
use Rattle.hold_vsyntax.specs.declared.fault.SyntaxFault.TheVariants.{Syntax, LeftOut}
use Rattle.hold_vsyntax.specs.Symbols.{Symbol, Marked, symbol, symbols, is_left_out}
use Rattle.hold_vsyntax.specs.Pieces.{pieces}
use Rattle.hold_vsyntax.specs.Grammar.{pieces_of}

abbrev pub IsModule : List Lexeme → Module → Type 0
IsModule tokens m = map symbols (pieces tokens) ≡ pieces_of m

abbrev pub CanStand : List (List Lexeme) → Type 0
CanStand ps = (m : Module) × (more : List (List Symbol)) × (pieces_of m ≡ map symbols ps ++ more)

pub record IsFirstBad (tokens : List Lexeme) (done : List (List Lexeme)) (bad : List Lexeme) : Type 0 where
  pub rest : List (List Lexeme)
  pub cut : pieces tokens ≡ done ++ bad ∷ rest
  pub fine : CanStand done
  pub stuck : CanStand (done ++ bad ∷ []) → ⊥

abbrev pub first_left_out : List Lexeme → Option Lexeme
first_left_out [] = None
first_left_out (t ∷ ts) = if is_left_out t then Some t else first_left_out ts

abbrev pub is_module : Symbol → Bool
is_module (Marked TheModule) = true
is_module _ = false

abbrev pub without_opening : List Lexeme → List Lexeme
without_opening [] = []
without_opening (t ∷ ts) = if is_module (symbol t) then ts else t ∷ ts

abbrev pub left_out_in : List (List Lexeme) → List Lexeme → Option Lexeme
left_out_in [] bad = first_left_out (without_opening bad)
left_out_in (p ∷ ps) bad = first_left_out bad

abbrev pub place_of : List Lexeme → ℕ
place_of [] = 0
place_of (t ∷ ts) = t.at

abbrev pub blame_at : ℕ → Option Lexeme → SyntaxFault
blame_at place None = Syntax place
blame_at place (Some t) = LeftOut t.text t.at

abbrev pub blame : List Lexeme → Option Lexeme → SyntaxFault
blame bad left_out = blame_at (place_of bad) left_out

abbrev pub IsPieceFault : List Lexeme → SyntaxFault → Type 0
IsPieceFault tokens fault =
    (done : List (List Lexeme)) × (bad : List Lexeme) × IsFirstBad tokens done bad × (fault ≡ blame bad (left_out_in done bad))

pub record EndsEarly (tokens : List Lexeme) : Type 0 where
  pub fine : CanStand (pieces tokens)
  pub open_end : (m : Module) → IsModule tokens m → ⊥
