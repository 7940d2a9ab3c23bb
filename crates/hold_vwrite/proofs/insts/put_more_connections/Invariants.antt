use Rattle.std.proofs.Common.{◌≡◌, ◌++◌, drop, map}
use Rattle.hold_netlist.specs.CanonicalText.{connection_text}
use Rattle.hold_vwrite.specs.inner.Joined.{each_after_comma}
use Rattle.hold_vwrite.proofs.insts.put_more_connections.Given as goal

abbrev pub invariant-loop-pin : goal.invariant-loop-pin
invariant-loop-pin l = l.out.items ++ each_after_comma (map (connection_text l.netlist.wires) (drop l.pin-index l.pins)) ≡ l.fn.out.items ++ each_after_comma (map (connection_text l.netlist.wires) l.pins)
