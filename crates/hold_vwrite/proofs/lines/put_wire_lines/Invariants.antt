use Rattle.std.proofs.Common.{◌≡◌, ◌++◌, drop}
use Rattle.std.specs.Prelude.{flat_map}
use Rattle.hold_netlist.specs.CanonicalText.{wire_line}
use Rattle.hold_vwrite.proofs.lines.put_wire_lines.Given as goal

abbrev pub invariant-loop-wire : goal.invariant-loop-wire
invariant-loop-wire l = l.out.items ++ flat_map wire_line (drop l.wire-index l.wires) ≡ l.fn.out.items ++ flat_map wire_line l.wires
