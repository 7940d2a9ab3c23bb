use Rattle.std.proofs.Common.{take}
use Rattle.hold_graph.specs.inner.Marks.{AreExact}
use Rattle.hold_uses.specs.inner.Marks.{ComesTo, IsListedAnd}
use Rattle.hold_uses.proofs.uses.listed_and_reached.Given as goal

abbrev pub invariant-loop-pin : goal.invariant-loop-pin
invariant-loop-pin l = AreExact l.graph.pins (IsListedAnd (ComesTo l.way l.graph.arcs l.marks) (take l.pin-index l.listed)) l.flags.items
