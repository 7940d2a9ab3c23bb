-- Answers of one call that are handed on by another.
use Rattle.std.proofs.Common.{◌≡◌, ap}
use Rattle.std.specs.Prelude.{Result, Ok, Err, IfOk}
use Rattle.std.specs.Result.{IsErr}
use Rattle.hold_base.specs.Answers.{Answers}
use Rattle.hold_base.specs.declared.stop.Stop.{Stop}
use Rattle.hold_base.specs.declared.stop.Stop.TheVariants.{Memory, Fault}

abbrev err : (X F : Type 0) → F → Result X F
err X F f = Err f

same_fault : (X F : Type 0) (f g : F) → err X F f ≡ err X F g → f ≡ g
same_fault X F f g e = cc

pub handed_on : (X Y F : Type 0) (stop : Stop F) (fault : F) → Answers (err X (Stop F) stop) (err X F fault) → Answers (err Y (Stop F) stop) (err Y F fault)
handed_on X Y F Memory fault h = tt
handed_on X Y F (Fault other) fault h = ap (err Y F) (same_fault X F fault other h)

pub nothing-of_err : {X E : Type 0} (r : Result X E) (P : X → Type 0) → IsErr r → IfOk r P
nothing-of_err (Ok x) P is = absurd cc
nothing-of_err (Err e) P is = tt
