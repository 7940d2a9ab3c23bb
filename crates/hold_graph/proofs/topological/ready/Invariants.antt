use Rattle.std.proofs.Common.{take}
use Rattle.hold_graph.specs.inner.Waiting.{IsReady}
use Rattle.hold_graph.proofs.topological.ready.Given as goal

abbrev pub invariant-loop-pin : goal.invariant-loop-pin
invariant-loop-pin l = IsReady (take l.pin l.counts) l.order.items
