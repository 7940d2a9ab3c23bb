use Rattle.hold_uses.proofs.Marking.{AreUnmarkedUpTo}
use Rattle.hold_uses.proofs.marks.any_marked.Given as goal

abbrev pub invariant-loop-place : goal.invariant-loop-place
invariant-loop-place l = AreUnmarkedUpTo l.way l.arcs l.marks l.places l.place-index
