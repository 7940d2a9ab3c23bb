use Rattle.std.proofs.Common.{◌≡◌, drop}
use Rattle.hold_netlist.specs.Names.{pin_names}
use Rattle.hold_roles.specs.inner.NamePlaces.{first_at}
use Rattle.hold_told.proofs.name_places.pin_place.Given as goal

abbrev pub invariant-loop-place : goal.invariant-loop-place
invariant-loop-place l = first_at l.place l.name (pin_names (drop l.place l.pins)) ≡ first_at 0 l.name (pin_names l.pins)
