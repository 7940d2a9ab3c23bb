use Rattle.std.proofs.Common.{◌≡◌, ◌++◌, drop, map}
use Rattle.hold_netlist.specs.CanonicalText.{spelled}
use Rattle.hold_netlist.specs.Names.{port_names}
use Rattle.hold_vwrite.specs.inner.Joined.{each_after_comma}
use Rattle.hold_vwrite.proofs.module.put_more_ports.Given as goal

abbrev pub invariant-loop-port : goal.invariant-loop-port
invariant-loop-port l = l.out.items ++ each_after_comma (map spelled (port_names (drop l.port-index l.ports))) ≡ l.fn.out.items ++ each_after_comma (map spelled (port_names l.ports))
