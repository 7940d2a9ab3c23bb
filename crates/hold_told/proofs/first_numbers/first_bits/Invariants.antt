use Rattle.std.proofs.Common.{◌≡◌, ◌+◌, ◌++◌, drop}
use Rattle.hold_netlist.specs.Bits.{width_of, bits_of}
use Rattle.hold_netlist.specs.inner.Numbering.{firsts_from}
use Rattle.hold_told.proofs.first_numbers.first_bits.Given as goal

abbrev pub invariant-loop-wire : goal.invariant-loop-wire
invariant-loop-wire l = record {
  rest : l.next + bits_of (drop l.wire-index l.wires) ≡ bits_of l.wires;
  firsts : l.firsts.items ++ firsts_from l.next width_of (drop l.wire-index l.wires) ≡ firsts_from 0 width_of l.wires;
}
