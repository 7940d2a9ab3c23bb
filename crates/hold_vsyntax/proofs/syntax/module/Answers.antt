use Rattle.hold_vsyntax.specs.Symbols.{symbols}
use Rattle.hold_vsyntax.proofs.ModuleLemmas.{module_read, module_stopped}
use Rattle.hold_vsyntax.proofs.syntax.module.Goals as goal

pub returns-in_err-items-in-Ok-clause-refused : goal.returns-in_err-items-in-Ok-clause-refused
returns-in_err-items-in-Ok-clause-refused c =
    module_stopped c.from_residual.result c.in_err-items-in-Ok.field-0.0 c.args.reader.now c.fork-ahead.result c.pass_piece.new.reader c.in-Ok.name c.in-Ok.header
    (symbols c.opening.new.reader) c.args.end c.from_residual.ensures.1 c.in_err-items-in-Ok.ensures.refused c.fork-ahead.ensures c.in-Ok.ensures c.pass_piece.ensures

pub returns-in_ok-items-in-Ok-clause-read : goal.returns-in_ok-items-in-Ok-clause-read
returns-in_ok-items-in-Ok-clause-read c =
    module_read c.args.reader.now c.fork-ahead.result c.pass_piece.new.reader c.in-Ok.name c.in-Ok.header (symbols c.opening.new.reader)
    c.in_ok-items-in-Ok.items c.fork-ahead.ensures c.in-Ok.ensures c.pass_piece.ensures c.in_ok-items-in-Ok.ensures.read
