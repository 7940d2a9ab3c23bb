use Rattle.std.proofs.Common.{sym, ◌∙◌}
use Rattle.hold_vsyntax.specs.inner.Reading.{item_at}
use Rattle.hold_vsyntax.specs.Symbols.{symbols}
use Rattle.hold_vsyntax.proofs.GivesLemmas.{fault_none}
use Rattle.hold_vsyntax.specs.inner.Tokens.{in_sight}
use Rattle.hold_vsyntax.proofs.StopLemmas.{is_not_unseen, step_reads, step_stops}
use Rattle.hold_vsyntax.proofs.body.step.Goals as goal

pub returns-in-Ok : goal.returns-in-Ok
returns-in-Ok c =
    step_reads c.args.reader.now c.fork-ahead.result c.pass_piece.new.reader c.in-Ok.item (symbols c.item.new.reader) c.fork-ahead.ensures c.in-Ok.ensures c.pass_piece.ensures

pub returns-in-Err-Fault : goal.returns-in-Err-Fault
returns-in-Err-Fault c =
    step_stops c.args.reader.now c.fork-ahead.result c.blame.new.reader c.args.end c.blame.result
    (is_not_unseen c.peek.result (in_sight c.args.reader.now) c.is_none.result c.peek.ensures c.is_none.ensures c.if-is_none.false)
    (sym c.sees.ensures ∙ c.if-sees.false) c.fork-ahead.ensures
    (fault_none c.in-Err-Fault.field-0 c.in-Err-Fault.field-0-0 (item_at (symbols c.fork-ahead.result)) (symbols c.item.new.reader) c.in-Err-Fault.field-0-is c.in-Err-Fault.ensures)
    c.blame.ensures
