-- first_passed_limit d: what a design has too many of, the first of net bits (at most 2^25), instances
-- (2^25), pins (2^26) and assigned bits (2^25).
-- None where each count is within its limit.
use Rattle.std.specs.Prelude.{length, Option, Some, None, nat_lt, if◌then◌else◌}
use Rattle.hold_base.specs.Limits.{bits_limit, insts_limit, pins_limit, assigns_limit}
use Rattle.hold_base.specs.declared.stop.What.{What}
use Rattle.hold_base.specs.declared.stop.What.TheVariants.{Bits, Instances, Pins, Assigns}
use Rattle.hold_netlist.specs.Design.{Design}
use Rattle.hold_netlist.specs.Bits.{bits_of}
use Rattle.hold_netlist.specs.Pins.{pins_of}

abbrev pub first_passed_limit : Design → Option What
first_passed_limit d = if nat_lt bits_limit (bits_of d.wires) then Some Bits else if nat_lt insts_limit (length d.insts) then Some Instances else if nat_lt pins_limit (pins_of d) then Some Pins else if nat_lt assigns_limit (length d.assigns) then Some Assigns else None
