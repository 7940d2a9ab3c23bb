use Rattle.std.proofs.Common.{drop}
use Rattle.hold_netlist.specs.Names.{pin_names}
use Rattle.hold_build.proofs.NameLemmas.{IsNamedUpTo}
use Rattle.hold_build.proofs.pin_tables.pin_places.Given as goal

-- the table and what is left tell the places of all
abbrev pub invariant-loop-place : goal.invariant-loop-place
invariant-loop-place l = IsNamedUpTo (pin_names l.pins) (pin_names (drop l.place l.pins)) l.place l.places
