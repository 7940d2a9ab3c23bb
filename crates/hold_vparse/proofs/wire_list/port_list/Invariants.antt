use Rattle.std.proofs.Common.{◌≡◌, ◌++◌, drop, map}
use Rattle.hold_vparse.specs.Declares.{port}
use Rattle.hold_vparse.specs.inner.Flat.{seen_ports}
use Rattle.hold_vparse.proofs.wire_list.port_list.Given as goal

abbrev pub invariant-loop-port : goal.invariant-loop-port
invariant-loop-port l = l.list.items ++ map port (seen_ports (drop l.port-index l.ports)) ≡ map port (seen_ports l.ports)
