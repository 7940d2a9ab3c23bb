use Rattle.std.proofs.Common.{◌≤◌, length}
use Rattle.hold_proof.specs.inner.Places.{AreLinked}
use Rattle.hold_proof.proofs.places.places_of.Given as goal

abbrev pub invariant-loop-place : goal.invariant-loop-place
invariant-loop-place l = AreLinked l.pins l.listed l.place l.first.items l.next.items × (l.place ≤ length l.listed)

abbrev pub decreases-loop-place : goal.decreases-loop-place
decreases-loop-place l = l.place
