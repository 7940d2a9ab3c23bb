use Rattle.std.proofs.Common.{◌≡◌, length}
use Rattle.hold_plain.proofs.PlaceTables.{IsTableUpTo}
use Rattle.hold_plain.proofs.places.places_of.Given as goal

abbrev pub invariant-loop-place : goal.invariant-loop-place
invariant-loop-place l = record { len : length l.table.items ≡ l.bound; places : IsTableUpTo l.keys l.place l.table.items }
