use Rattle.std.proofs.Common.{◌≡◌, ◌+◌, ◌≤◌, drop}
use Rattle.hold_netlist.specs.Bits.{bits_of}
use Rattle.hold_netlist.proofs.limits.bits_within.Given as goal

abbrev pub invariant-loop-wire : goal.invariant-loop-wire
invariant-loop-wire l = record {
  rest : l.bits + bits_of (drop l.wire-index l.wires) ≡ bits_of l.wires;
  within : l.bits ≤ l.most;
}
