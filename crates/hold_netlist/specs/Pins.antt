-- pin_count i: how many connections an instance has, an empty one too.
-- connection_count insts: how many connections the instances have.
-- port_bits d: how many bits the ports have, which are the first wires.
-- pins_of d: how many pins there are: the connections, and then the port bits.
-- IsConnection insts p i j: pin p is connection j of instance i, both counted from 0.
use Rattle.std.specs.Prelude.{ℕ, ◌+◌, List, length, sum_by, take}
use Rattle.hold_netlist.specs.declared.inst.Inst.{Inst}
use Rattle.hold_netlist.specs.Design.{Design}
use Rattle.hold_netlist.specs.Bits.{bits_of}
use Rattle.hold_netlist.specs.Numbering.{IsNumbered}

abbrev pub pin_count : Inst → ℕ
pin_count i = length i.pins

abbrev pub connection_count : List Inst → ℕ
connection_count insts = sum_by pin_count insts

abbrev pub port_bits : Design → ℕ
port_bits d = bits_of (take (length d.ports) d.wires)

abbrev pub pins_of : Design → ℕ
pins_of d = connection_count d.insts + port_bits d

abbrev pub IsConnection : List Inst → ℕ → ℕ → ℕ → Type 0
IsConnection insts p i j = IsNumbered pin_count insts p i j
