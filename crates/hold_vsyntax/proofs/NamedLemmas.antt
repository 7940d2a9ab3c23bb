-- The identifiers of a tree have names, since the tokens do.
use Rattle.std.proofs.Common.{ℕ, List, [], ◌∷◌, map, subst, Bool, true, false, cond}
use Rattle.std.specs.Prelude.{Option, Some, None, Result, Ok, Err, IfOk}
use Rattle.std.specs.List.{AllByRecursion}
use Rattle.hold_netlist.specs.Keywords.{keywords}
use Rattle.hold_base.specs.NameBytes.{IsName}
use Rattle.hold_netlist.specs.Names.{is_among}
use Rattle.hold_vlex.specs.Lexed.{Lexeme, lexed}
use Rattle.hold_vlex.specs.declared.token.Sort.{Sort}
use Rattle.hold_vlex.specs.declared.token.Sort.TheVariants.{Word, Escaped, Number, Constant, Directive, Sign, Other}
use Rattle.hold_vsyntax.specs.declared.mark.Mark.{Mark}
use Rattle.hold_vsyntax.specs.declared.tree.Module.{Module}
use Rattle.hold_vsyntax.specs.Symbols.{Named, symbol, symbols, symbol_of, word_symbol, word_mark, sign_mark, marked, ident}
use Rattle.hold_vsyntax.specs.Pieces.{pieces, pieces_within, onto, is_piece, ends_piece}
use Rattle.hold_vsyntax.specs.Text.{IsModule}
use Rattle.hold_base.specs.declared.stop.Stop.{Stop}
use Rattle.hold_vsyntax.specs.declared.fault.SyntaxFault.{SyntaxFault}
use Rattle.hold_vsyntax.specs.SyntaxTree.{IsTree}
use Rattle.hold_vsyntax.specs.Named.{IsNamed, AreNamed, IsNamedModule}

marked_named : (o : Option Mark) → IsNamed (marked o)
marked_named (Some m) = tt
marked_named None = tt

word_named : (text : List ℕ) (at : ℕ) → IsName text → IsNamed (word_symbol text at)
unfolding word_symbol
word_named text at h = by (is_among text keywords)
  where
    by : (b : Bool) → IsNamed (cond b (marked (word_mark text)) (Named (ident text at)))
    by true = marked_named (word_mark text)
    by false = h

symbol_named : (s : Sort) (text : List ℕ) (at : ℕ) → IsName text → IsNamed (symbol_of s text at)
symbol_named Word text at h = word_named text at h
symbol_named Escaped text at h = h
symbol_named Number text at h = tt
symbol_named (Constant b) text at h = tt
symbol_named Directive text at h = tt
symbol_named Sign text at h = marked_named (sign_mark text)
symbol_named Other text at h = tt

-- the text of each token is a name
abbrev pub HaveNames : List Lexeme → Type 0
HaveNames ts = AllByRecursion (λ (t : Lexeme). IsName t.text) ts

symbols_named : (ts : List Lexeme) → HaveNames ts → AreNamed (symbols ts)
symbols_named [] h = tt
symbols_named (t ∷ ts) h = (symbol_named t.sort t.text t.at h.0, symbols_named ts h.1)

-- a piece with one token more
onto_names : (t : Lexeme) (ps : List (List Lexeme)) → IsName t.text → AllByRecursion HaveNames ps → AllByRecursion HaveNames (onto t ps)
onto_names t [] h k = ((h, tt), tt)
onto_names t (p ∷ ps) h k = ((h, k.0), k.1)

chosen : (b : Bool) (x y : List (List Lexeme)) → AllByRecursion HaveNames x → AllByRecursion HaveNames y → AllByRecursion HaveNames (cond b x y)
chosen true x y h k = h
chosen false x y h k = k

mutual
  pieces_names : (ts : List Lexeme) → HaveNames ts → AllByRecursion HaveNames (pieces ts)
  pieces_names [] h = tt
  pieces_names (t ∷ ts) h =
      chosen (is_piece (symbol t)) ((t ∷ []) ∷ pieces ts) (onto t (pieces_within ts))
      ((h.0, tt), pieces_names ts h.1) (onto_names t (pieces_within ts) h.0 (within_names ts h.1))

  within_names : (ts : List Lexeme) → HaveNames ts → AllByRecursion HaveNames (pieces_within ts)
  within_names [] h = (tt, tt)
  within_names (t ∷ ts) h =
      chosen (ends_piece (symbol t)) ((t ∷ []) ∷ pieces ts) (onto t (pieces_within ts))
      ((h.0, tt), pieces_names ts h.1) (onto_names t (pieces_within ts) h.0 (within_names ts h.1))

all_named : (ps : List (List Lexeme)) → AllByRecursion HaveNames ps → AllByRecursion AreNamed (map symbols ps)
all_named [] h = tt
all_named (p ∷ ps) h = (symbols_named p h.0, all_named ps h.1)

pub module_named : (tokens : List Lexeme) (m : Module) → HaveNames tokens → IsModule tokens m → IsNamedModule m
module_named tokens m h is = subst (λ l. AllByRecursion AreNamed l) is (all_named (pieces tokens) (pieces_names tokens h))

pub tree_named : (text : List ℕ) (r : Result Module (Stop SyntaxFault)) → HaveNames (lexed text).tokens → IfOk r (IsTree text) → IfOk r IsNamedModule
tree_named text (Ok m) h read = module_named (lexed text).tokens m h read.pieces
tree_named text (Err e) h read = tt
