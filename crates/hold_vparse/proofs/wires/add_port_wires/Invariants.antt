use Rattle.std.proofs.Common.{◌≡◌, ◌++◌, drop, map}
use Rattle.hold_vparse.specs.inner.Flat.{seen_ports, net_wires}
use Rattle.hold_vparse.specs.Lines.{PortLine}
use Rattle.hold_vparse.specs.Nets.{wire}
use Rattle.hold_vparse.proofs.wires.add_port_wires.Given as goal

abbrev pub invariant-loop-port : goal.invariant-loop-port
invariant-loop-port l = net_wires l.list.items ++ map (λ (p : PortLine). wire p.name.name p.range) (seen_ports (drop l.port-index l.ports)) ≡ net_wires l.fn.list.items ++ map (λ (p : PortLine). wire p.name.name p.range) (seen_ports l.ports)
