use Rattle.std.proofs.Common.{sym, ◌∙◌, ap}
use Rattle.std.specs.Prelude.{Some}
use Rattle.hold_vsyntax.specs.inner.Reading.{instance_at, more_of}
use Rattle.hold_vsyntax.specs.Symbols.{symbols}
use Rattle.hold_vsyntax.proofs.ReadingLemmas.{more_preserved, more_ended, more_failed, more_smaller}
use Rattle.hold_vsyntax.proofs.InstanceLaws.{instance_shrinks}
use Rattle.hold_vsyntax.proofs.GivesLemmas.{gives_failed}
use Rattle.hold_vsyntax.proofs.instances.more_instances.Goals as goal

pub returns-in_err-one : goal.returns-in_err-one
returns-in_err-one c =
    gives_failed c.from_residual.result c.in_err-one.field-0.0 (instance_at (symbols c.takes.new.reader)) (symbols c.instance.new.reader)
    (more_of instance_at (symbols c.args.reader.now)) (symbols c.instance.new.reader) c.from_residual.ensures.1 c.in_err-one.ensures
    (λ h. more_failed instance_at c.loop-alloc.list.items (symbols c.loop-alloc.reader) (symbols c.takes.new.reader) (more_of instance_at (symbols c.args.reader.now))
    c.loop-alloc.invariant (sym c.takes.ensures.takes ∙ c.loop-alloc-test.true) c.takes.ensures.rest h)

pub loop-alloc-preserved : goal.loop-alloc-preserved
loop-alloc-preserved c =
    more_preserved instance_at instance_shrinks c.loop-alloc.list.items c.push.new.self.items c.in_ok-one.one (symbols c.loop-alloc.reader) (symbols c.takes.new.reader)
    (symbols c.instance.new.reader) (more_of instance_at (symbols c.args.reader.now)) c.loop-alloc.invariant
    (sym c.takes.ensures.takes ∙ c.loop-alloc-test.true) c.takes.ensures.rest c.in_ok-one.ensures c.in_ok-push.ensures.items

pub loop-alloc-smaller : goal.loop-alloc-smaller
loop-alloc-smaller c =
    more_smaller instance_at instance_shrinks c.in_ok-one.one (symbols c.loop-alloc.reader) (symbols c.takes.new.reader) (symbols c.instance.new.reader)
    (sym c.takes.ensures.takes ∙ c.loop-alloc-test.true) c.takes.ensures.rest c.in_ok-one.ensures

pub returns : goal.returns
returns c =
    more_ended instance_at c.loop-alloc.list.items (symbols c.loop-alloc.reader) (symbols c.takes.new.reader) (more_of instance_at (symbols c.args.reader.now)) c.loop-alloc.invariant
    (sym c.takes.ensures.takes ∙ c.loop-alloc-test.false) c.takes.ensures.rest
    ∙ ap (λ l. Some (l, symbols c.takes.new.reader)) (sym c.from_vec.ensures)
