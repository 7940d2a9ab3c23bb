-- width_of_range r: how many bits a range has: its bounds' distance and one more. Without a range, one.
-- width_of w: how many bits a wire has.
-- bits_of wires: how many bits the wires have. Net bits are numbered from 0 wire by wire, and within a
--   wire from its left bound to its right.
-- net_bit wires w k: the number of the net bit that is k from the left bound of wire w. Wires count from 0.
-- IsNetBit wires n w k: net bit n is that one, and the wire has it.
use Rattle.std.specs.Prelude.{ℕ, ◌+◌, ◌-◌, List, sum_by, Option, Some, None}
use Rattle.hold_netlist.specs.declared.wire.Wire.{Wire}
use Rattle.hold_netlist.specs.Numbering.{number_at, IsNumbered}

abbrev pub width_of_range : Option (ℕ × ℕ) → ℕ
width_of_range None = 1
width_of_range (Some r) = (r.0 - r.1) + (r.1 - r.0) + 1

abbrev pub width_of : Wire → ℕ
width_of w = width_of_range w.range

abbrev pub bits_of : List Wire → ℕ
bits_of wires = sum_by width_of wires

abbrev pub net_bit : List Wire → ℕ → ℕ → ℕ
net_bit wires w k = number_at width_of wires w k

abbrev pub IsNetBit : List Wire → ℕ → ℕ → ℕ → Type 0
IsNetBit wires n w k = IsNumbered width_of wires n w k
