use Rattle.std.proofs.Common.{◌≡◌, ℕ, List, refl, ap, ◌∙◌}
use Rattle.std.specs.Prelude.{Option}
use Rattle.hold_roles.specs.inner.NamePlaces.{first_at}
use Rattle.hold_values.specs.Given.{IfAny}
use Rattle.hold_values.specs.inner.Found.{IsCheckAt}
use Rattle.hold_values.specs.inner.Keys.{check_text, check_texts}
use Rattle.hold_values.proofs.GivenLemmas.{given-check, ok-weaker}
use Rattle.hold_values.proofs.types.check_of.Goals as goal

pub returns-in_default : goal.returns-in_default
returns-in_default c x h = c.in_default.ensures.none refl h.inst h.t h.pin h.pin_of

pub returns : goal.returns
returns c =
    let texts = check_texts c.args.job.now.checks in
    let key : check_text c.bytes.result.now c.bytes-2.result.now ≡ check_text c.in-Some.cell.now.name c.in-Some.data.now.name =
    ap (λ (n : List ℕ). check_text n c.bytes-2.result.now) c.bytes.ensures ∙ ap (λ (n : List ℕ). check_text c.in-Some.cell.now.name n) c.bytes-2.ensures in
    ok-weaker (λ (place : Option ℕ). place ≡ first_at 0 (check_text c.bytes.result.now c.bytes-2.result.now) texts) (λ (place : Option ℕ). IfAny (IsCheckAt c.args.bound.now c.args.job.now c.args.pin) place) c.check.result
    (λ place is. given-check c.args.bound.now c.args.job.now 0 c.args.pin c.in-Some.field-0-0.0 c.in-Some.cell.now c.in-Some.data.now c.in-Some.ensures.some place (is ∙ ap (λ (n : List ℕ). first_at 0 n texts) key)) c.check.ensures
