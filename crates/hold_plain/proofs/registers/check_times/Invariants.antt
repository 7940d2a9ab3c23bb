use Rattle.std.proofs.Common.{◌≡◌, ◌++◌, drop}
use Rattle.hold_plain.specs.inner.RegisterPins.{check_time}
use Rattle.hold_plain.specs.Problem.{is_data, uses_with}
use Rattle.hold_plain.proofs.registers.check_times.Given as goal

abbrev pub invariant-loop-pin : goal.invariant-loop-pin
invariant-loop-pin l = l.times.items ++ uses_with is_data (check_time l.side) (drop l.pin-index l.uses) ≡ uses_with is_data (check_time l.side) l.uses
