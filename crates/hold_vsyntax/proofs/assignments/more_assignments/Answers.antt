use Rattle.std.proofs.Common.{sym, ◌∙◌, ap}
use Rattle.std.specs.Prelude.{Some}
use Rattle.hold_vsyntax.specs.inner.Reading.{assignment_at, more_of}
use Rattle.hold_vsyntax.specs.Symbols.{symbols}
use Rattle.hold_vsyntax.proofs.ReadingLemmas.{more_preserved, more_ended, more_failed, more_smaller}
use Rattle.hold_vsyntax.proofs.PartLaws.{assignment_shrinks}
use Rattle.hold_vsyntax.proofs.GivesLemmas.{gives_failed}
use Rattle.hold_vsyntax.proofs.assignments.more_assignments.Goals as goal

pub returns-in_err-assigned : goal.returns-in_err-assigned
returns-in_err-assigned c =
    gives_failed c.from_residual.result c.in_err-assigned.field-0.0 (assignment_at (symbols c.takes.new.reader)) (symbols c.assignment.new.reader)
    (more_of assignment_at (symbols c.args.reader.now)) (symbols c.assignment.new.reader) c.from_residual.ensures.1 c.in_err-assigned.ensures
    (λ h. more_failed assignment_at c.loop-alloc.list.items (symbols c.loop-alloc.reader) (symbols c.takes.new.reader) (more_of assignment_at (symbols c.args.reader.now))
    c.loop-alloc.invariant (sym c.takes.ensures.takes ∙ c.loop-alloc-test.true) c.takes.ensures.rest h)

pub loop-alloc-preserved : goal.loop-alloc-preserved
loop-alloc-preserved c =
    more_preserved assignment_at assignment_shrinks c.loop-alloc.list.items c.push.new.self.items c.in_ok-assigned.assigned (symbols c.loop-alloc.reader) (symbols c.takes.new.reader)
    (symbols c.assignment.new.reader) (more_of assignment_at (symbols c.args.reader.now)) c.loop-alloc.invariant
    (sym c.takes.ensures.takes ∙ c.loop-alloc-test.true) c.takes.ensures.rest c.in_ok-assigned.ensures c.in_ok-push.ensures.items

pub loop-alloc-smaller : goal.loop-alloc-smaller
loop-alloc-smaller c =
    more_smaller assignment_at assignment_shrinks c.in_ok-assigned.assigned (symbols c.loop-alloc.reader) (symbols c.takes.new.reader) (symbols c.assignment.new.reader)
    (sym c.takes.ensures.takes ∙ c.loop-alloc-test.true) c.takes.ensures.rest c.in_ok-assigned.ensures

pub returns : goal.returns
returns c =
    more_ended assignment_at c.loop-alloc.list.items (symbols c.loop-alloc.reader) (symbols c.takes.new.reader) (more_of assignment_at (symbols c.args.reader.now)) c.loop-alloc.invariant
    (sym c.takes.ensures.takes ∙ c.loop-alloc-test.false) c.takes.ensures.rest
    ∙ ap (λ l. Some (l, symbols c.takes.new.reader)) (sym c.from_vec.ensures)
