-- What a caller answers that passes on a callee's reason to stop.
use Rattle.std.proofs.Common.{◌≡◌, Option, None, Some, ap, refl, subst, sym}
use Rattle.std.specs.Prelude.{Result, Ok, Err}
use Rattle.std.specs.Result.{IsErrAnd}
use Rattle.hold_base.specs.declared.stop.Stop.{Stop}
use Rattle.hold_base.specs.declared.stop.Stop.TheVariants.{Memory, Fault}
use Rattle.hold_base.specs.Answers.{Answers, unless, IfFault, IfStopFault}

pub IfStopFault-weaken : {F : Type 0} (stop : Stop F) (P Q : F → Type 0) → IfStopFault stop P → ((f : F) → P f → Q f) → IfStopFault stop Q
IfStopFault-weaken Memory P Q h weaker = tt
IfStopFault-weaken (Fault f) P Q h weaker = weaker f h

-- where P holds of the callee's fault, and Q of each of which P does, Q holds of the caller's
pub passed_on : {X F : Type 0} (r : Result X (Stop F)) (stop : Stop F) (P Q : F → Type 0) → IsErrAnd r (λ y. y ≡ stop) → IfStopFault stop P → ((f : F) → P f → Q f) → IfFault r Q
passed_on (Ok x) stop P Q e h weaker = tt
passed_on (Err s) stop P Q e h weaker = IfStopFault-weaken s P Q (subst (λ t. IfStopFault t P) (sym e) h) weaker

-- what a fault or a value tells of an expected one
pub Answers-stop : {X F : Type 0} (stop : Stop F) (expected : Result X F) → Answers {X = X} (Err stop) expected → IfStopFault stop (λ f. expected ≡ Err f)
Answers-stop Memory expected h = tt
Answers-stop (Fault f) expected h = h

pub unless-Err : {X F : Type 0} (o : Option F) (x : X) (f : F) → unless o x ≡ Err f → o ≡ Some f
unless-Err None x f h = cc
unless-Err (Some g) x f h = let same : g ≡ f = cc in ap Some same

pub unless-Ok : {X F : Type 0} (o : Option F) (x y : X) → unless o x ≡ Ok y → o ≡ None
unless-Ok None x y h = refl
unless-Ok (Some g) x y h = cc
