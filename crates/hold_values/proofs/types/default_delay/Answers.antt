use Rattle.std.proofs.Common.{ℕ, List, refl, subst}
use Rattle.std.specs.Prelude.{Option}
use Rattle.hold_base.specs.declared.time.Interval.{Interval}
use Rattle.hold_values.specs.Defaults.{IsDefaultDelay, IsSpanOfType}
use Rattle.hold_values.specs.Given.{IfAny}
use Rattle.hold_values.proofs.GivenLemmas.{given-delay, no-delay, ok-weaker}
use Rattle.hold_values.proofs.types.default_delay.Goals as goal

pub returns-in_default : goal.returns-in_default
returns-in_default c x h = c.in_default.ensures.none refl h.inst h.t h.output h.pin_of

pub returns-in-Some-clock : goal.returns-in-Some-clock
returns-in-Some-clock c =
    let Of : List ℕ → List ℕ → List ℕ → Option Interval → Type 0 = λ kind from to o. IfAny (IsSpanOfType c.args.job.now c.args.corner.0 kind from to) o in
    let kind = c.in-Some.cell.now.name in
    let to = c.in-Some.output.now.name in
    ok-weaker (Of c.bytes.result.now c.bytes-in-Some-clock.result.now c.bytes-in-Some-clock-2.result.now) (λ (o : Option Interval). IfAny (IsDefaultDelay c.args.bound.now c.args.job.now c.args.corner.0 c.args.pin) o) c.type_span.result
    (λ o h. given-delay c.args.bound.now c.args.job.now c.args.corner.0 c.args.pin c.in-Some.field-0-0.0 c.in-Some.cell.now c.in-Some.output.now c.in-Some.ensures.some c.in-Some-clock.clock c.in-Some-clock.is o
    (subst (λ (n : List ℕ). Of kind c.in-Some-clock.clock n o) c.bytes-in-Some-clock-2.ensures
    (subst (λ (n : List ℕ). Of kind n c.bytes-in-Some-clock-2.result.now o) c.bytes-in-Some-clock.ensures
    (subst (λ (n : List ℕ). Of n c.bytes-in-Some-clock.result.now c.bytes-in-Some-clock-2.result.now o) c.bytes.ensures h))))
    c.type_span.ensures

pub returns-in-None : goal.returns-in-None
returns-in-None c = no-delay c.args.bound.now c.args.job.now c.args.corner.0 c.args.pin c.in-Some.field-0-0.0 c.in-Some.cell.now c.in-Some.output.now c.in-Some.ensures.some c.in-None.is
