use Rattle.hold_roles.proofs.NamePlaceLemmas.{IsPlacedUpTo}
use Rattle.hold_roles.proofs.library.places_of.Given as goal

abbrev pub invariant-loop-place : goal.invariant-loop-place
invariant-loop-place l = IsPlacedUpTo l.types l.place l.places
