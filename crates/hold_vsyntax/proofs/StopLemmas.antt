-- What a step answers, by what was read and what was blamed.
use Rattle.std.proofs.Common.{◌≡◌, ◌≢◌, ℕ, List, [], ◌∷◌, refl, not, length, sym, ap, subst, Bool, true, false, ◌∙◌, ◌<◌, is_some}
use Rattle.std.specs.Prelude.{Option, Some, None, Err}
use Rattle.hold_base.specs.declared.stop.Stop.{Stop}
use Rattle.hold_base.specs.declared.stop.Stop.TheVariants.{Memory, Fault}
use Rattle.hold_vlex.specs.Lexed.{Lexeme}
use Rattle.hold_vlex.specs.declared.token.Token.{Token}
use Rattle.hold_vsyntax.specs.declared.fault.SyntaxFault.{SyntaxFault}
use Rattle.hold_vsyntax.specs.declared.mark.Mark.TheVariants.{EndModule}
use Rattle.hold_vsyntax.specs.declared.symbol.Symbol.{Symbol as Found}
use Rattle.hold_vsyntax.specs.declared.tree.Item.{Item}
use Rattle.hold_vsyntax.specs.Symbols.{Symbol, symbols}
use Rattle.hold_vsyntax.specs.Pieces.{pieces}
use Rattle.hold_vsyntax.specs.inner.Passing.{rest_behind}
use Rattle.hold_vsyntax.specs.inner.Reading.{begins, item_at}
use Rattle.hold_vsyntax.specs.inner.Tokens.{IsPopped, in_sight, first_symbol}
use Rattle.hold_vsyntax.specs.inner.Body.{Blames, blamed, IsStatement, IsStep}
use Rattle.hold_vsyntax.proofs.StepLemmas.{step_ok, step_bad, end_bad}

-- what is in sight isn't nothing
pub is_seen : (o : Option Found) (x : Option Symbol) (b : Bool) → first_symbol o ≡ x → b ≡ is_some o → b ≡ true → x ≢ None
is_seen None x b e is t = cc
is_seen (Some s) x b e is t = λ h. none (e ∙ h)
  where
    none : first_symbol (Some s) ≡ None → ⊥
    none h = cc

pub is_not_unseen : (o : Option Found) (x : Option Symbol) (b : Bool) → first_symbol o ≡ x → is_some o ≡ not b → b ≡ false → x ≢ None
is_not_unseen o x b e is t = is_seen o x (is_some o) e refl (is ∙ ap not t)

pub is_unseen : (o : Option Found) (ts : List Lexeme) (b : Bool) → first_symbol o ≡ in_sight ts → is_some o ≡ not b → b ≡ true → ts ≡ []
is_unseen None [] b e is t = refl
is_unseen None (x ∷ ts) b e is t = cc
is_unseen (Some s) ts b e is t = cc

pub end_stops : (ts new rest : List Lexeme) (t : Option Token) (end : ℕ) (stop : Stop SyntaxFault) → begins EndModule (symbols ts) ≡ true → IsPopped ts t new
    → in_sight new ≢ None → Blames stop (blamed new) → IsStep ts (Err stop) rest end
end_stops ts new rest t end Memory is popped some h = tt
end_stops ts new rest t end (Fault f) is popped some h = end_bad ts new t end f is popped some h

pub step_reads : (ts ahead new : List Lexeme) (i : Item) (rest : List Symbol) → ahead ≡ ts → item_at (symbols ahead) ≡ Some (i, rest) → new ≡ rest_behind ts
    → IsStatement i (pieces ts) (pieces new) × (length new < length ts)
step_reads ts ahead new i rest same read passed =
    subst (λ l. IsStatement i (pieces ts) (pieces l) × (length l < length ts)) (sym passed) (step_ok ts i rest (ap (λ l. item_at (symbols l)) (sym same) ∙ read))

pub step_stops : (ts ahead rest : List Lexeme) (end : ℕ) (stop : Stop SyntaxFault) → in_sight ts ≢ None → begins EndModule (symbols ts) ≡ false → ahead ≡ ts
    → item_at (symbols ahead) ≡ None → Blames stop (blamed ts) → IsStep ts (Err stop) rest end
step_stops ts ahead rest end Memory some no_end same none h = tt
step_stops ts ahead rest end (Fault f) some no_end same none h =
    step_bad ts end f some no_end (ap (λ l. item_at (symbols l)) (sym same) ∙ none) h
