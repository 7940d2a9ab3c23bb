use Rattle.std.proofs.Common.{drop}
use Rattle.hold_netlist.specs.Names.{port_names}
use Rattle.hold_build.proofs.NameLemmas.{IsNamedUpTo}
use Rattle.hold_told.proofs.name_places.port_places.Given as goal

-- the table and what is left tell the places of all
abbrev pub invariant-loop-place : goal.invariant-loop-place
invariant-loop-place l = IsNamedUpTo (port_names l.ports) (port_names (drop l.place l.ports)) l.place l.places
