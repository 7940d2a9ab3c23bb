use Rattle.std.proofs.Common.{◌≡◌, ◌++◌, drop}
use Rattle.hold_netlist.specs.CanonicalText.{port_lines}
use Rattle.hold_vwrite.proofs.lines.put_port_lines.Given as goal

abbrev pub invariant-loop-i : goal.invariant-loop-i
invariant-loop-i l = l.out.items ++ port_lines (drop l.i l.ports) (drop l.i l.wires) ≡ l.fn.out.items ++ port_lines l.ports l.wires
