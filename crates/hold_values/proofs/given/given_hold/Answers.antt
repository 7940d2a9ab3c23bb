use Rattle.std.proofs.Common.{subst}
use Rattle.std.specs.Prelude.{ℤ, Option}
use Rattle.hold_sdf.specs.declared.entry.Entry.{Entry}
use Rattle.hold_told.specs.Else.{OrElse}
use Rattle.hold_told.specs.Entries.{Says, IsOfCheck, hold_of}
use Rattle.hold_told.specs.Values.{IsGreatestOf, GreatestIfAny}
use Rattle.hold_values.specs.Defaults.{IsDefaultTime}
use Rattle.hold_values.specs.Given.{IfAny}
use Rattle.hold_values.proofs.GivenLemmas.{else-second, no-greatest, ok-weaker}
use Rattle.hold_values.proofs.given.given_hold.Goals as goal

pub returns-in-None : goal.returns-in-None
returns-in-None c entries told =
    let Said : ℤ → Type 0 = Says (λ (e : Entry). IsOfCheck c.args.bound.now e c.args.pin) hold_of entries in
    let Default : ℤ → Type 0 = IsDefaultTime (λ check. check.hold) c.args.bound.now c.args.job.now c.args.corner.0 c.args.pin in
    let none = subst (λ (o : Option ℤ). GreatestIfAny Said o) c.in-None.is told in
    ok-weaker (λ (o : Option ℤ). IfAny Default o) (λ (o : Option ℤ). IfAny (OrElse (IsGreatestOf Said) Default) o) c.default_hold.result (λ o h. else-second (IsGreatestOf Said) Default o (no-greatest Said none) h) c.default_hold.ensures
