use Rattle.std.proofs.Common.{◌≡◌, ◌++◌, drop}
use Rattle.hold_netlist.specs.Doubles.{first_repeat}
use Rattle.hold_netlist.specs.Names.{wire_names}
use Rattle.hold_netlist.specs.inner.NameTable.{names_of}
use Rattle.hold_netlist.proofs.doubles.see_wires.Given as goal

-- what is left has the first double name of the whole, and all names before it were seen
abbrev pub invariant-loop-wire : goal.invariant-loop-wire
invariant-loop-wire l = record {
  rest : first_repeat (names_of l.seen) (wire_names (drop l.wire-index l.wires)) ≡ first_repeat (names_of l.initial.seen) (wire_names l.wires);
  seen : names_of l.seen ++ wire_names (drop l.wire-index l.wires) ≡ names_of l.initial.seen ++ wire_names l.wires;
}
