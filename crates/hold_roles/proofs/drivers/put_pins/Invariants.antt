use Rattle.std.proofs.Common.{◌≡◌, ◌+◌, drop, length}
use Rattle.std.specs.List.{AllByRecursion}
use Rattle.hold_netlist.specs.WellFormed.{IsWrittenPin}
use Rattle.hold_roles.specs.Drivers.{pin_drives}
use Rattle.hold_roles.specs.inner.Slots.{with_drives}
use Rattle.hold_roles.proofs.drivers.put_pins.Given as goal

-- what is left makes the slots of all
abbrev pub invariant-loop-place : goal.invariant-loop-place
invariant-loop-place l = record {
  rest : with_drives l.slots (pin_drives l.cell (l.first + l.place) (drop l.place l.pins)) ≡ with_drives l.fn.slots (pin_drives l.cell l.first l.pins);
  each : length l.slots ≡ length l.fn.slots;
  written : AllByRecursion (IsWrittenPin (length l.fn.slots)) (drop l.place l.pins);
}
