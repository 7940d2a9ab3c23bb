use Rattle.std.proofs.Common.{◌≡◌, ◌+◌, drop, length}
use Rattle.hold_netlist.specs.Bits.{bits_of}
use Rattle.hold_roles.specs.Drivers.{port_drives}
use Rattle.hold_roles.specs.inner.Slots.{with_drives}
use Rattle.hold_roles.proofs.drivers.put_ports.Given as goal

-- what is left makes the slots of all
abbrev pub invariant-loop-place : goal.invariant-loop-place
invariant-loop-place l = record {
  rest : with_drives l.slots (port_drives l.fn.first l.from (drop l.place l.ports) (drop l.place l.wires)) ≡ with_drives l.fn.slots (port_drives l.fn.first 0 l.ports l.wires);
  each : length l.slots ≡ length l.fn.slots;
  bits : l.from + bits_of (drop l.place l.wires) ≡ bits_of l.wires;
}
