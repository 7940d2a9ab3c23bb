use Rattle.std.proofs.Common.{ℕ, subst}
use Rattle.std.specs.Prelude.{Option}
use Rattle.hold_values.specs.Given.{IfAny}
use Rattle.hold_values.specs.inner.Found.{IsCheckAt}
use Rattle.hold_values.proofs.GivenLemmas.{no-check}
use Rattle.hold_values.proofs.types.default_setup.Goals as goal

pub returns-in-None : goal.returns-in-None
returns-in-None c =
    no-check (λ check. check.setup) c.args.bound.now c.args.job.now c.args.corner.0 c.args.pin
    (subst (λ (o : Option ℕ). IfAny (IsCheckAt c.args.bound.now c.args.job.now c.args.pin) o) c.in-None.is c.in_ok-place.ensures)
