use Rattle.std.proofs.Common.{◌≡◌, ◌+◌, ◌≤◌, drop, false}
use Rattle.std.specs.List.{list_any}
use Rattle.hold_base.specs.Limits.{bits_limit}
use Rattle.hold_netlist.specs.Bits.{bits_of}
use Rattle.hold_vparse.specs.NameFaults.{has_large_bound}
use Rattle.hold_vparse.proofs.layout.bits_within_limit.Given as goal

abbrev pub invariant-loop-wire : goal.invariant-loop-wire
invariant-loop-wire l = record {
  rest : l.bits + bits_of (drop l.wire-index l.wires) ≡ bits_of l.wires;
  within : l.bits ≤ bits_limit;
  small : list_any has_large_bound (drop l.wire-index l.wires) ≡ false;
}
