use Rattle.hold_uses.proofs.Marking.{IsSpreadUpTo}
use Rattle.hold_uses.proofs.marks.spread.Given as goal

abbrev pub invariant-loop-pin : goal.invariant-loop-pin
invariant-loop-pin l = IsSpreadUpTo l.way l.graph.pins l.graph.arcs l.listed l.order l.pin-index l.marks.items
