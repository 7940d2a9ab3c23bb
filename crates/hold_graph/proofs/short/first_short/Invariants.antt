use Rattle.std.proofs.Common.{take}
use Rattle.std.specs.Prelude.{All}
use Rattle.hold_base.specs.declared.number.PinNo.{PinNo}
use Rattle.hold_graph.specs.inner.Arrival.{left_by, IsEnough}
use Rattle.hold_graph.proofs.short.first_short.Given as goal

abbrev pub invariant-loop-capture : goal.invariant-loop-capture
invariant-loop-capture l = All
    (λ (capture : PinNo). IsEnough (left_by l.line.arcs.now l.tables.steps.items l.base l.line.into.now l.tables.best.items l.tables.ends.items l.tables.checks.items capture))
    (take l.capture-index l.captures)
