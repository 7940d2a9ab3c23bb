-- What a fault that is passed on says of the whole.
use Rattle.std.proofs.Common.{◌≡◌, List, sym, ap, subst, ◌∙◌}
use Rattle.std.specs.Prelude.{Option, None, Result, Err}
use Rattle.std.specs.Result.{IsErrAnd}
use Rattle.std.proofs.lemmas.Result.{err_from_is_err_and}
use Rattle.hold_base.specs.declared.stop.Stop.{Stop}
use Rattle.hold_base.specs.declared.stop.Stop.TheVariants.{Memory, Fault}
use Rattle.hold_vsyntax.specs.declared.fault.BadPiece.{BadPiece}
use Rattle.hold_vsyntax.specs.Symbols.{Symbol}
use Rattle.hold_vsyntax.specs.inner.Gives.{Gives}

fails : {X Y : Type 0} (e : Stop BadPiece) (read : Option (X × List Symbol)) (u : List Symbol) (total : Option (Y × List Symbol)) (v : List Symbol)
    → Gives {X = X} (Err e) read u → (read ≡ None → total ≡ None) → Gives {X = Y} (Err e) total v
fails Memory read u total v h k = tt
fails (Fault f) read u total v h k = k h

pub gives_failed : {X Y : Type 0} (r : Result Y (Stop BadPiece)) (e : Stop BadPiece) (read : Option (X × List Symbol)) (u : List Symbol) (total : Option (Y × List Symbol)) (v : List Symbol)
    → IsErrAnd r (λ y. y ≡ e) → Gives {X = X} (Err e) read u → (read ≡ None → total ≡ None) → Gives {X = Y} r total v
gives_failed {Y = Y} r e read u total v is h k =
    let p = err_from_is_err_and r is in
    let same : r ≡ Err e = p.1 ∙ ap (λ z. Err z) p.2 in
    subst (λ (z : Result Y (Stop BadPiece)). Gives {X = Y} z total v) (sym same) (fails e read u total v h k)

-- a fault says that nothing was read
pub fault_none : {X : Type 0} (e : Stop BadPiece) (f : BadPiece) (read : Option (X × List Symbol)) (u : List Symbol) → e ≡ Fault f → Gives {X = X} (Err e) read u → read ≡ None
fault_none Memory f read u is h = cc
fault_none (Fault g) f read u is h = h
