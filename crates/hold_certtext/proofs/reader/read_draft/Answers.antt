use Rattle.std.proofs.Common.{◌≡◌, true, false, sym, ap, ◌∙◌, arith}
use Rattle.std.specs.Prelude.{Some, None}
use Rattle.hold_certtext.specs.inner.Parsing.{guard}
use Rattle.hold_certtext.specs.inner.Reading.{so_far, step}
use Rattle.hold_certtext.proofs.LineLemmas.{none-left, some-left}
use Rattle.hold_certtext.proofs.ProgressLemmas.{progress-step, progress-number, progress-trees, progress-unended, progress-bad, progress-behind, progress-whole}
use Rattle.hold_certtext.proofs.reader.read_draft.Goals as goal

pub returns-in_default-clause-fault : goal.returns-in_default-clause-fault
returns-in_default-clause-fault c =
    progress-unended c.args.text.now c.loop-alloc.rest.now (so_far c.loop-alloc.draft) c.loop-alloc.number c.loop-alloc.invariant c.in_default.ensures.none (λ whole. let clash : true ≡ false = sym (c.is_whole.ensures.1 whole) ∙ c.loop-alloc-test.true in cc)

pub take-requires : goal.take-requires
take-requires c =
    let trees = progress-trees c.args.text.now c.loop-alloc.rest.now (so_far c.loop-alloc.draft) c.loop-alloc.number c.loop-alloc.invariant in
    let number = progress-number c.args.text.now c.loop-alloc.rest.now (so_far c.loop-alloc.draft) c.loop-alloc.number c.loop-alloc.invariant in
    omega (arith, trees, number)

pub returns-then-not-branch-clause-fault : goal.returns-then-not-branch-clause-fault
returns-then-not-branch-clause-fault c =
    let none : step (so_far c.loop-alloc.draft) c.in-Some.line.now ≡ None = c.in_ok-take.ensures ∙ ap (λ b. guard b (so_far c.take.new.self)) c.if-not-branch.true in
    progress-bad c.args.text.now c.loop-alloc.rest.now c.in-Some.line.now c.in-Some.behind.now (so_far c.loop-alloc.draft) c.loop-alloc.number c.loop-alloc.invariant
    c.in-Some.ensures.line c.in-Some.ensures.cut none

pub overflow_add-number : goal.overflow_add-number
overflow_add-number c =
    let number = progress-number c.args.text.now c.loop-alloc.rest.now (so_far c.loop-alloc.draft) c.loop-alloc.number c.loop-alloc.invariant in
    omega (arith, number)

pub loop-alloc-preserved : goal.loop-alloc-preserved
loop-alloc-preserved c =
    let taken : step (so_far c.loop-alloc.draft) c.in-Some.line.now ≡ Some (so_far c.take.new.self) = c.in_ok-take.ensures ∙ ap (λ b. guard b (so_far c.take.new.self)) c.if-not-branch.false in
    progress-step c.args.text.now c.loop-alloc.rest.now c.in-Some.line.now c.in-Some.behind.now (so_far c.loop-alloc.draft) (so_far c.take.new.self) c.loop-alloc.number
    c.loop-alloc.invariant c.in-Some.ensures.cut taken

pub returns-then-is_empty-clause-draft : goal.returns-then-is_empty-clause-draft
returns-then-is_empty-clause-draft c =
    progress-whole c.args.text.now c.loop-alloc.rest.now c.loop-alloc.draft c.loop-alloc.number c.loop-alloc.invariant (c.is_whole.ensures.0 c.loop-alloc-test.false)
    (none-left c.loop-alloc.rest.now (sym c.if-is_empty.ensures))

pub returns-else-is_empty-clause-fault : goal.returns-else-is_empty-clause-fault
returns-else-is_empty-clause-fault c =
    progress-behind c.args.text.now c.loop-alloc.rest.now (so_far c.loop-alloc.draft) c.loop-alloc.number c.loop-alloc.invariant (c.is_whole.ensures.0 c.loop-alloc-test.false)
    (some-left c.loop-alloc.rest.now (sym c.if-is_empty.ensures))
