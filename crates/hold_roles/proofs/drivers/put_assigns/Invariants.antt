use Rattle.std.proofs.Common.{◌≡◌, drop, length}
use Rattle.std.specs.List.{AllByRecursion}
use Rattle.std.specs.Prelude.{flat_map}
use Rattle.hold_netlist.specs.WellFormed.{IsWrittenAssign}
use Rattle.hold_roles.specs.Drivers.{assign_drive}
use Rattle.hold_roles.specs.inner.Slots.{with_drives}
use Rattle.hold_roles.proofs.drivers.put_assigns.Given as goal

-- what is left makes the slots of all
abbrev pub invariant-loop-assign : goal.invariant-loop-assign
invariant-loop-assign l = record {
  rest : with_drives l.slots (flat_map assign_drive (drop l.assign-index l.assigns)) ≡ with_drives l.fn.slots (flat_map assign_drive l.assigns);
  each : length l.slots ≡ length l.fn.slots;
  written : AllByRecursion (IsWrittenAssign (length l.fn.slots)) (drop l.assign-index l.assigns);
}
