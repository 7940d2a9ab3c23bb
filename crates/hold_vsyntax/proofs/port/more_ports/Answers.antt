use Rattle.std.proofs.Common.{sym, ◌∙◌, ap}
use Rattle.std.specs.Prelude.{Some}
use Rattle.hold_vsyntax.specs.inner.Reading.{next_port_at, more_of}
use Rattle.hold_vsyntax.specs.Symbols.{symbols}
use Rattle.hold_vsyntax.proofs.ReadingLemmas.{more_preserved, more_ended, more_failed, more_smaller}
use Rattle.hold_vsyntax.proofs.PortLaws.{next_port_shrinks}
use Rattle.hold_vsyntax.proofs.GivesLemmas.{gives_failed}
use Rattle.hold_vsyntax.proofs.port.more_ports.Goals as goal

pub returns-in_err-port : goal.returns-in_err-port
returns-in_err-port c =
    gives_failed c.from_residual.result c.in_err-port.field-0.0 (next_port_at (symbols c.takes.new.reader)) (symbols c.next_port.new.reader)
    (more_of next_port_at (symbols c.args.reader.now)) (symbols c.next_port.new.reader) c.from_residual.ensures.1 c.in_err-port.ensures
    (λ h. more_failed next_port_at c.loop-alloc.list.items (symbols c.loop-alloc.reader) (symbols c.takes.new.reader) (more_of next_port_at (symbols c.args.reader.now))
    c.loop-alloc.invariant (sym c.takes.ensures.takes ∙ c.loop-alloc-test.true) c.takes.ensures.rest h)

pub loop-alloc-preserved : goal.loop-alloc-preserved
loop-alloc-preserved c =
    more_preserved next_port_at next_port_shrinks c.loop-alloc.list.items c.push.new.self.items c.in_ok-port.port (symbols c.loop-alloc.reader) (symbols c.takes.new.reader)
    (symbols c.next_port.new.reader) (more_of next_port_at (symbols c.args.reader.now)) c.loop-alloc.invariant
    (sym c.takes.ensures.takes ∙ c.loop-alloc-test.true) c.takes.ensures.rest c.in_ok-port.ensures c.in_ok-push.ensures.items

pub loop-alloc-smaller : goal.loop-alloc-smaller
loop-alloc-smaller c =
    more_smaller next_port_at next_port_shrinks c.in_ok-port.port (symbols c.loop-alloc.reader) (symbols c.takes.new.reader) (symbols c.next_port.new.reader)
    (sym c.takes.ensures.takes ∙ c.loop-alloc-test.true) c.takes.ensures.rest c.in_ok-port.ensures

pub returns : goal.returns
returns c =
    more_ended next_port_at c.loop-alloc.list.items (symbols c.loop-alloc.reader) (symbols c.takes.new.reader) (more_of next_port_at (symbols c.args.reader.now)) c.loop-alloc.invariant
    (sym c.takes.ensures.takes ∙ c.loop-alloc-test.false) c.takes.ensures.rest
    ∙ ap (λ l. Some (l, symbols c.takes.new.reader)) (sym c.from_vec.ensures)
