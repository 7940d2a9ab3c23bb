use Rattle.std.proofs.Common.{◌≡◌, drop}
use Rattle.hold_netlist.specs.Names.{is_among}
use Rattle.hold_told.proofs.type_pins.is_listed.Given as goal

abbrev pub invariant-loop-listed : goal.invariant-loop-listed
invariant-loop-listed l = is_among l.name (drop l.listed-index l.listed-items) ≡ is_among l.name l.names
