-- is_of kind role: whether the role is that of a register's pin of that kind.
-- check_time side u: what the check of a side asks of a data pin, its hold at the early side and its setup at the late one.
use Rattle.std.specs.Prelude.{Bool, ℤ}
use Rattle.hold_base.specs.declared.time.Side.{Side}
use Rattle.hold_base.specs.declared.time.Side.TheVariants.{Early, Late}
use Rattle.hold_plain.specs.declared.pin_use.PinRole.{PinRole}
use Rattle.hold_plain.specs.declared.pin_use.PinUse.{PinUse}
use Rattle.hold_plain.specs.declared.registers.RegisterPin.{RegisterPin}
use Rattle.hold_plain.specs.declared.registers.RegisterPin.TheVariants.{Clock, Data, Output}
use Rattle.hold_plain.specs.Problem.{is_clock_pin, is_data, is_launch, setup_of, hold_of}

abbrev pub is_of : RegisterPin → PinRole → Bool
is_of Clock = is_clock_pin
is_of Data = is_data
is_of Output = is_launch

abbrev pub check_time : Side → PinUse → ℤ
check_time Early = hold_of
check_time Late = setup_of
