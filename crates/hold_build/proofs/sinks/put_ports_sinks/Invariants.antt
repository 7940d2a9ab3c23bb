use Rattle.std.proofs.Common.{◌≡◌, ◌+◌, ◌≤◌, ◌++◌, drop}
use Rattle.hold_netlist.specs.Bits.{bits_of}
use Rattle.hold_build.specs.inner.Sinks.{port_sinks}
use Rattle.hold_build.proofs.sinks.put_ports_sinks.Given as goal

-- what is left makes the list of all
abbrev pub invariant-loop-place : goal.invariant-loop-place
invariant-loop-place l = record {
  rest : l.out.items ++ port_sinks l.fn.first l.from (drop l.place l.ports) (drop l.place l.wires) ≡ l.fn.out.items ++ port_sinks l.fn.first 0 l.ports l.wires;
  few : l.from + bits_of (drop l.place l.wires) ≤ bits_of l.wires;
}
