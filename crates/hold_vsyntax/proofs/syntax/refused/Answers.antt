use Rattle.std.proofs.Common.{ap}
use Rattle.hold_vsyntax.specs.inner.Tokens.{in_sight}
use Rattle.hold_vsyntax.proofs.StopLemmas.{is_not_unseen, is_unseen}
use Rattle.hold_vsyntax.proofs.ModuleLemmas.{opening_stops, nothing_stops}
use Rattle.hold_vsyntax.proofs.syntax.refused.Goals as goal

pub returns-then-is_none : goal.returns-then-is_none
returns-then-is_none c =
    nothing_stops c.args.reader.now c.args.end (is_unseen c.peek.result c.args.reader.now c.is_none.result c.peek.ensures c.is_none.ensures c.if-is_none.true)

pub returns-else-is_none : goal.returns-else-is_none
returns-else-is_none c =
    opening_stops c.args.reader.now c.args.end c.blame_at_front.result
    (λ none. is_not_unseen c.peek.result (in_sight c.args.reader.now) c.is_none.result c.peek.ensures c.is_none.ensures c.if-is_none.false (ap in_sight none))
    c.requires c.blame_at_front.ensures
