-- What is found only where a test holds.
use Rattle.std.proofs.Common.{◌≡◌, Bool, true, false, refl}
use Rattle.std.specs.Prelude.{Some, None}
use Rattle.hold_certtext.specs.inner.Parsing.{guard}

pub guard-Some : {X : Type 0} (b : Bool) (x y : X) → guard b x ≡ Some y → (b ≡ true) × (x ≡ y)
guard-Some true x y h = (refl, cc)
guard-Some false x y h = absurd cc

pub guard-true : {X : Type 0} (b : Bool) (x : X) → b ≡ true → guard b x ≡ Some x
guard-true true x h = refl
guard-true false x h = absurd cc

pub guard-never : {X : Type 0} (b : Bool) (x : X) → (b ≡ true → ⊥) → guard b x ≡ None
guard-never true x never = absurd (never refl)
guard-never false x never = refl
