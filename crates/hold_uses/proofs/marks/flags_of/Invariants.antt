use Rattle.std.proofs.Common.{take}
use Rattle.hold_graph.specs.inner.Marks.{AreFlags}
use Rattle.hold_uses.proofs.marks.flags_of.Given as goal

abbrev pub invariant-loop-pin : goal.invariant-loop-pin
invariant-loop-pin l = AreFlags l.pins (take l.pin-index l.listed) l.flags.items
