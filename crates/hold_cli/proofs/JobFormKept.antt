-- Values that are kept where they pass a test.
use Rattle.std.proofs.Common.{◌≡◌, Bool, true, false, cond, Option, Some, None, refl, subst}
use Rattle.std.proofs.lemmas.Option.{same_Some}
use Rattle.hold_base.proofs.Bools.{cond-Some}
use Rattle.hold_cli.specs.JobFormKeys.{kept}

-- what is kept passed the test
pub kept_passes : {A : Type 0} (test : A → Bool) (o : Option A) (a : A) → kept test o ≡ Some a → test a ≡ true
kept_passes test None a e = cc
kept_passes {A} test (Some x) a e = passed (test x) refl e
  where
    passed : (b : Bool) → test x ≡ b → cond b (Some x) None ≡ Some a → test a ≡ true
    passed true is e = subst (λ (y : A). test y ≡ true) (same_Some x a e) is
    passed false is e = cc

-- what is kept was there
pub kept_came : {A : Type 0} (test : A → Bool) (o : Option A) (a : A) → kept test o ≡ Some a → o ≡ Some a
kept_came test None a e = e
kept_came test (Some x) a e = cond-Some (test x) (Some x) a e
