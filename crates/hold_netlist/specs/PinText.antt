-- How pins and net bits are said, for instance in a fault: by their names' bytes as they are, with nothing escaped.
--
-- connection_name inst pin: the instance's name, a slash and the pin's name. connection_names i: those of its connections, in order.
-- wire_bit_name w k: the bit that is k from the left bound of a wire: the wire's name and, for a vector, also one of a single
--   bit, the bit's index in brackets. wire_bit_names w: those of its bits, in order.
-- bit_names wires: the texts of all net bits, in the order of their numbers.
-- bit_name wires n: the text of net bit n; nothing past the last.
-- pin_texts d: the texts of all pins, in the order of their numbers: the connections, then the bits of the ports.
-- pin_text d p: the text of pin p; nothing past the last.
use Rattle.std.specs.Prelude.{ℕ, List, [], ◌++◌, length, take, map, flat_map, slice_index_or, codes}
use Rattle.std.specs.List.{range_with_len}
use Rattle.hold_netlist.specs.declared.inst.Pin.{Pin}
use Rattle.hold_netlist.specs.declared.inst.Inst.{Inst}
use Rattle.hold_netlist.specs.declared.wire.Wire.{Wire}
use Rattle.hold_netlist.specs.Bits.{width_of}
use Rattle.hold_netlist.specs.CanonicalText.{index_text}
use Rattle.hold_netlist.specs.Design.{Design}

abbrev pub connection_name : List ℕ → Pin → List ℕ
connection_name inst pin = inst ++ codes "/" ++ pin.name

abbrev pub connection_names : Inst → List (List ℕ)
connection_names i = map (connection_name i.name) i.pins

abbrev pub wire_bit_name : Wire → ℕ → List ℕ
wire_bit_name w k = w.name ++ index_text w.range k

abbrev pub wire_bit_names : Wire → List (List ℕ)
wire_bit_names w = map (wire_bit_name w) (range_with_len 0 (width_of w))

abbrev pub bit_names : List Wire → List (List ℕ)
bit_names wires = flat_map wire_bit_names wires

abbrev pub bit_name : List Wire → ℕ → List ℕ
bit_name wires n = slice_index_or (bit_names wires) n []

abbrev pub pin_texts : Design → List (List ℕ)
pin_texts d = flat_map connection_names d.insts ++ bit_names (take (length d.ports) d.wires)

abbrev pub pin_text : Design → ℕ → List ℕ
pin_text d p = slice_index_or (pin_texts d) p []
