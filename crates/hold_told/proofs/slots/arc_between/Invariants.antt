use Rattle.hold_told.proofs.SlotLemmas.{IsUnlikeUpTo}
use Rattle.hold_told.proofs.slots.arc_between.Given as goal

abbrev pub invariant-loop-place : goal.invariant-loop-place
invariant-loop-place l = IsUnlikeUpTo l.graph.arcs l.place-items l.from l.wire l.place-index
