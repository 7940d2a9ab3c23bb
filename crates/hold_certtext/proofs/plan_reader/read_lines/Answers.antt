use Rattle.std.proofs.Common.{◌≡◌, true, false, sym, ap, subst, ◌∙◌, arith}
use Rattle.std.specs.Prelude.{Some, None}
use Rattle.hold_certtext.specs.PlanText.{IsPlanOf}
use Rattle.hold_certtext.specs.inner.Parsing.{guard}
use Rattle.hold_certtext.specs.inner.PlanReading.{PlanSoFar, plan_so_far, plan_step}
use Rattle.hold_certtext.proofs.LineLemmas.{none-left, some-left}
use Rattle.hold_certtext.proofs.PlanLaws.{PlanProgress, plan-start, plan-step, plan-number, plan-lines, plan-unended, plan-bad, plan-behind, plan-whole}
use Rattle.hold_certtext.proofs.plan_reader.read_lines.Goals as goal

pub returns-in_default-clause-fault : goal.returns-in_default-clause-fault
returns-in_default-clause-fault c =
    plan-unended c.args.text.now c.loop-alloc.rest.now (plan_so_far c.loop-alloc.draft) c.loop-alloc.number c.loop-alloc.invariant c.in_default.ensures.none (λ whole. let clash : true ≡ false = sym (c.is_whole.ensures.1 whole) ∙ c.loop-alloc-test.true in cc)

pub take-requires : goal.take-requires
take-requires c =
    let trees = plan-lines c.args.text.now c.loop-alloc.rest.now (plan_so_far c.loop-alloc.draft) c.loop-alloc.number c.loop-alloc.invariant in
    let number = plan-number c.args.text.now c.loop-alloc.rest.now (plan_so_far c.loop-alloc.draft) c.loop-alloc.number c.loop-alloc.invariant in
    omega (arith, trees, number)

pub returns-then-not-branch-clause-fault : goal.returns-then-not-branch-clause-fault
returns-then-not-branch-clause-fault c =
    let none : plan_step (plan_so_far c.loop-alloc.draft) c.in-Some.line.now ≡ None = c.in_ok-take.ensures ∙ ap (λ b. guard b (plan_so_far c.take.new.self)) c.if-not-branch.true in
    plan-bad c.args.text.now c.loop-alloc.rest.now c.in-Some.line.now c.in-Some.behind.now (plan_so_far c.loop-alloc.draft) c.loop-alloc.number c.loop-alloc.invariant
    c.in-Some.ensures.line c.in-Some.ensures.cut none

pub overflow_add-number : goal.overflow_add-number
overflow_add-number c =
    let number = plan-number c.args.text.now c.loop-alloc.rest.now (plan_so_far c.loop-alloc.draft) c.loop-alloc.number c.loop-alloc.invariant in
    omega (arith, number)

pub loop-alloc-preserved : goal.loop-alloc-preserved
loop-alloc-preserved c =
    let taken : plan_step (plan_so_far c.loop-alloc.draft) c.in-Some.line.now ≡ Some (plan_so_far c.take.new.self) = c.in_ok-take.ensures ∙ ap (λ b. guard b (plan_so_far c.take.new.self)) c.if-not-branch.false in
    plan-step c.args.text.now c.loop-alloc.rest.now c.in-Some.line.now c.in-Some.behind.now (plan_so_far c.loop-alloc.draft) (plan_so_far c.take.new.self) c.loop-alloc.number
    c.loop-alloc.invariant c.in-Some.ensures.cut taken

pub returns-then-is_empty-clause-plan : goal.returns-then-is_empty-clause-plan
returns-then-is_empty-clause-plan c =
    subst (IsPlanOf c.args.text.now) (sym c.finish.ensures)
    (plan-whole c.args.text.now c.loop-alloc.rest.now (plan_so_far c.loop-alloc.draft) c.loop-alloc.number c.loop-alloc.invariant (c.is_whole.ensures.0 c.loop-alloc-test.false)
    (none-left c.loop-alloc.rest.now (sym c.if-is_empty.ensures)))

pub returns-else-is_empty-clause-fault : goal.returns-else-is_empty-clause-fault
returns-else-is_empty-clause-fault c =
    plan-behind c.args.text.now c.loop-alloc.rest.now (plan_so_far c.loop-alloc.draft) c.loop-alloc.number c.loop-alloc.invariant (c.is_whole.ensures.0 c.loop-alloc-test.false)
    (some-left c.loop-alloc.rest.now (sym c.if-is_empty.ensures))

pub loop-alloc-init : goal.loop-alloc-init
loop-alloc-init c = subst (λ (s : PlanSoFar). PlanProgress c.args.text.now c.args.text.now s 1) (sym c.new-draft.ensures) (plan-start c.args.text.now)
