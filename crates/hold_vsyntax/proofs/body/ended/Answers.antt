use Rattle.hold_vsyntax.specs.inner.Tokens.{in_sight}
use Rattle.hold_vsyntax.proofs.StopLemmas.{is_seen, end_stops}
use Rattle.hold_vsyntax.proofs.body.ended.Goals as goal

pub returns-then-is_some : goal.returns-then-is_some
returns-then-is_some c = λ end.
    end_stops c.args.reader.now c.pop-end.new.self c.blame.new.reader c.pop-end.result end c.blame.result c.requires c.pop-end.ensures
    (is_seen c.peek.result (in_sight c.pop-end.new.self) c.is_some.result c.peek.ensures c.is_some.ensures c.if-is_some.true) c.blame.ensures
