use Rattle.std.proofs.Common.{◌≡◌, ◌+◌, ◌-◌, length, map}
use Rattle.std.specs.List.{range_with_len}
use Rattle.hold_roles.specs.Drivers.{bit_drive}
use Rattle.hold_roles.specs.inner.Slots.{with_drives}
use Rattle.hold_roles.proofs.drivers.put_port_bits.Given as goal

-- what is left makes the slots of all
abbrev pub invariant-loop-n : goal.invariant-loop-n
invariant-loop-n l = record {
  rest : with_drives l.slots (map (bit_drive l.fn.first) (range_with_len (l.fn.from + l.n) (l.fn.width - l.n))) ≡ with_drives l.fn.slots (map (bit_drive l.fn.first) (range_with_len l.fn.from l.fn.width));
  each : length l.slots ≡ length l.fn.slots;
}
