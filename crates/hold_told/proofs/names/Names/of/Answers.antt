use Rattle.std.proofs.Common.{List, length, ap, arith}
use Rattle.hold_netlist.specs.declared.wire.Port.{Port}
use Rattle.hold_told.proofs.PortLemmas.{ports-few}
use Rattle.hold_told.proofs.names.Names.of.Goals as goal

pub port_places-requires : goal.port_places-requires
port_places-requires c = omega (arith, ports-few c.args.netlist.now c.know_valid.ensures, ap (λ (l : List Port). length l) c.ports.ensures)
