use Rattle.std.proofs.Common.{◌≡◌, ◌+◌, ◌≤◌, drop, length}
use Rattle.std.specs.List.{AllByRecursion}
use Rattle.hold_base.specs.Limits.{pins_limit}
use Rattle.hold_netlist.specs.Pins.{connection_count}
use Rattle.hold_netlist.specs.WellFormed.{IsWrittenInst}
use Rattle.hold_roles.specs.Drivers.{inst_drives}
use Rattle.hold_roles.specs.inner.Slots.{with_drives}
use Rattle.hold_roles.proofs.drivers.put_insts.Given as goal

-- what is left makes the slots of all
abbrev pub invariant-loop-inst : goal.invariant-loop-inst
invariant-loop-inst l = record {
  rest : with_drives l.slots (inst_drives l.library l.first (drop l.inst-index l.insts)) ≡ with_drives l.fn.slots (inst_drives l.library 0 l.insts);
  each : length l.slots ≡ length l.fn.slots;
  written : AllByRecursion (IsWrittenInst (length l.fn.slots)) (drop l.inst-index l.insts);
  few : l.first + connection_count (drop l.inst-index l.insts) ≤ pins_limit;
}
