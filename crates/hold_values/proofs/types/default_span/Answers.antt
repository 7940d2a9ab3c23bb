use Rattle.std.proofs.Common.{◌≡◌, ℕ, List, refl, subst, arith}
use Rattle.std.specs.Prelude.{Option}
use Rattle.std.proofs.lemmas.Grind.{common_steps}
use Rattle.hold_base.specs.declared.time.Interval.{Interval}
use Rattle.hold_values.specs.Defaults.{IsDefaultSpan, IsSpanOfType}
use Rattle.hold_values.specs.Given.{IfAny}
use Rattle.hold_values.proofs.GivenLemmas.{apart-none, given-span, ok-weaker}
use Rattle.hold_values.proofs.types.default_span.Goals as goal

pub returns-in_default : goal.returns-in_default
returns-in_default c x h = c.in_default.ensures.none refl h.inst h.t h.input h.begins

pub returns-in_default-pin_of : goal.returns-in_default-pin_of
returns-in_default-pin_of c x h = c.in_default-pin_of.ensures.none refl h.inst h.t h.output h.ends

pub returns-then-ne : goal.returns-then-ne
returns-then-ne c =
    apart-none c.args.bound.now c.args.job.now c.args.corner.0 c.args.arc.now c.in-Some.inst.0 c.in-Some-pin_of.other.0 c.in-Some.cell.now c.in-Some-pin_of.field-0-1.now c.in-Some.input.now c.in-Some-pin_of.output.now
    c.in-Some.ensures.some c.in-Some-pin_of.ensures.some (λ same. grind (arith, common_steps, c.if-ne.ensures, same))

pub returns : goal.returns
returns c =
    let same : c.in-Some.inst.0 ≡ c.in-Some-pin_of.other.0 = grind (arith, common_steps, c.if-ne.ensures) in
    let Of : List ℕ → List ℕ → List ℕ → Option Interval → Type 0 = λ kind from to o. IfAny (IsSpanOfType c.args.job.now c.args.corner.0 kind from to) o in
    let kind = c.in-Some.cell.now.name in
    let from = c.in-Some.input.now.name in
    ok-weaker (Of c.bytes.result.now c.bytes-2.result.now c.bytes-3.result.now) (λ (o : Option Interval). IfAny (IsDefaultSpan c.args.bound.now c.args.job.now c.args.corner.0 c.args.arc.now) o) c.type_span.result
    (λ o h. given-span c.args.bound.now c.args.job.now c.args.corner.0 c.args.arc.now c.in-Some.inst.0 c.in-Some-pin_of.other.0 c.in-Some.cell.now c.in-Some-pin_of.field-0-1.now c.in-Some.input.now c.in-Some-pin_of.output.now
    c.in-Some.ensures.some c.in-Some-pin_of.ensures.some c.if-arc.false same o
    (subst (λ (n : List ℕ). Of kind from n o) c.bytes-3.ensures
    (subst (λ (n : List ℕ). Of kind n c.bytes-3.result.now o) c.bytes-2.ensures
    (subst (λ (n : List ℕ). Of n c.bytes-2.result.now c.bytes-3.result.now o) c.bytes.ensures h))))
    c.type_span.ensures
