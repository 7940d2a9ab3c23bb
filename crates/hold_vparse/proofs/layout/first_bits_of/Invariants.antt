use Rattle.std.proofs.Common.{◌≡◌, ◌++◌, ◌+◌, drop, false}
use Rattle.std.specs.List.{list_any}
use Rattle.hold_vparse.specs.NameFaults.{has_large_bound}
use Rattle.hold_netlist.specs.Bits.{bits_of, width_of}
use Rattle.hold_netlist.specs.inner.Numbering.{firsts_from}
use Rattle.hold_vparse.proofs.layout.first_bits_of.Given as goal

-- the numbers so far and those of the wires that are left are the whole's
abbrev pub invariant-loop-wire : goal.invariant-loop-wire
invariant-loop-wire l = record {
  rest : l.firsts.items ++ firsts_from l.next width_of (drop l.wire-index l.wires) ≡ firsts_from 0 width_of l.wires;
  bits : l.next + bits_of (drop l.wire-index l.wires) ≡ bits_of l.wires;
  small : list_any has_large_bound (drop l.wire-index l.wires) ≡ false;
}
