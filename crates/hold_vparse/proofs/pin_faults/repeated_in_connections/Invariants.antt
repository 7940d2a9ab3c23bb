use Rattle.std.proofs.Common.{◌≡◌, [], drop}
use Rattle.hold_netlist.specs.inner.NameTable.{names_of}
use Rattle.hold_vparse.specs.DoubleNames.{repeated_pins}
use Rattle.hold_vparse.specs.inner.Found.{merged, found_ident}
use Rattle.hold_vparse.specs.Soonest.{soonest}
use Rattle.hold_vparse.proofs.pin_faults.repeated_in_connections.Given as goal

abbrev pub invariant-loop-connection : goal.invariant-loop-connection
invariant-loop-connection l = merged (found_ident l.found) (soonest (repeated_pins (names_of l.seen) (drop l.connection-index l.connections))) ≡ soonest (repeated_pins [] l.connections)
