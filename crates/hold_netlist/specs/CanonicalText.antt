-- The canonical Verilog text of a design: one text a netlist, in a layout of this project's own. A line ends with
-- a newline.
--
-- spelled name: a name as it is written: plain where it is a simple identifier, else a backslash, the name and
--   one space.
-- joined texts: the texts with a comma and a space between each and the next.
-- range_text r: the range of a declaration and a space; nothing for a scalar.
-- direction_text d: the word of a direction, and a space.
-- index_text r n: the index of bit n, counted from the left bound of the range, in brackets; nothing for a scalar.
-- bit_of_wire w n: bit n of a wire, counted from its left bound: the name, and for a vector, also one of a
--   single bit, its index in brackets.
-- bit_text wires n: net bit n, found going down the wires; nothing past the last.
-- source_text wires s: a net bit or a constant; nothing for an empty connection.
-- port_line p w: the line of a port, with the range of that wire.
-- port_lines ports wires: a line for each port, with the range of its wire, the one at its place. A port without
--   a wire has no line.
-- wire_line, assign_line, connection_text, inst_line: one wire, assigned bit, connection, instance.
-- module_line name ports: the line that opens the module, with its name and those of the ports.
-- canonical_text d: the text: module and port names, ports, other wires, assigned bits, instances, end.
use Rattle.std.specs.Prelude.{ℕ, ◌+◌, ◌-◌, List, [], ◌∷◌, ◌++◌, length, drop, flat_map, map, Option, Some, None, nat_lt, if◌then◌else◌, decimal, codes}
use Rattle.hold_netlist.specs.declared.wire.Direction.{Direction}
use Rattle.hold_netlist.specs.declared.wire.Direction.TheVariants.{Input, Output}
use Rattle.hold_netlist.specs.declared.wire.Port.{Port}
use Rattle.hold_netlist.specs.declared.wire.Wire.{Wire}
use Rattle.hold_netlist.specs.declared.inst.Source.{Source}
use Rattle.hold_netlist.specs.declared.inst.Source.TheVariants.{Net, Zero, One, Empty}
use Rattle.hold_netlist.specs.declared.inst.Pin.{Pin}
use Rattle.hold_netlist.specs.declared.inst.Inst.{Inst}
use Rattle.hold_netlist.specs.declared.inst.Assign.{Assign}
use Rattle.hold_netlist.specs.Design.{Design}
use Rattle.hold_netlist.specs.Bits.{width_of}
use Rattle.hold_netlist.specs.Names.{port_names}
use Rattle.hold_netlist.specs.Identifier.{is_simple}

abbrev pub spelled : List ℕ → List ℕ
spelled name = if is_simple name then name else codes "\\" ++ name ++ codes " "

abbrev pub joined : List (List ℕ) → List ℕ
joined [] = []
joined (t ∷ []) = t
joined (t ∷ u ∷ ts) = t ++ codes ", " ++ joined (u ∷ ts)

abbrev pub range_text : Option (ℕ × ℕ) → List ℕ
range_text None = []
range_text (Some r) = codes "[" ++ decimal r.0 ++ codes ":" ++ decimal r.1 ++ codes "] "

abbrev pub direction_text : Direction → List ℕ
direction_text Input = codes "input "
direction_text Output = codes "output "

abbrev pub index_text : Option (ℕ × ℕ) → ℕ → List ℕ
index_text None n = []
index_text (Some r) n = codes "[" ++ decimal (if nat_lt r.0 r.1 then r.0 + n else r.0 - n) ++ codes "]"

abbrev pub bit_of_wire : Wire → ℕ → List ℕ
bit_of_wire w n = spelled w.name ++ index_text w.range n

abbrev pub bit_text : List Wire → ℕ → List ℕ
bit_text [] n = []
bit_text (w ∷ ws) n = if nat_lt n (width_of w) then bit_of_wire w n else bit_text ws (n - width_of w)

abbrev pub source_text : List Wire → Source → List ℕ
source_text wires (Net n) = bit_text wires n.0
source_text wires Zero = codes "1'b0"
source_text wires One = codes "1'b1"
source_text wires Empty = []

abbrev pub port_line : Port → Wire → List ℕ
port_line p w = codes "  " ++ direction_text p.direction ++ range_text w.range ++ spelled p.name ++ codes ";\n"

abbrev pub port_lines : List Port → List Wire → List ℕ
port_lines [] wires = []
port_lines (p ∷ ps) [] = []
port_lines (p ∷ ps) (w ∷ ws) = port_line p w ++ port_lines ps ws

abbrev pub wire_line : Wire → List ℕ
wire_line w = codes "  wire " ++ range_text w.range ++ spelled w.name ++ codes ";\n"

abbrev pub assign_line : List Wire → Assign → List ℕ
assign_line wires a = codes "  assign " ++ bit_text wires a.left.0 ++ codes " = " ++ source_text wires a.right ++ codes ";\n"

abbrev pub connection_text : List Wire → Pin → List ℕ
connection_text wires p = codes "." ++ spelled p.name ++ codes "(" ++ source_text wires p.source ++ codes ")"

abbrev pub inst_line : List Wire → Inst → List ℕ
inst_line wires i = codes "  " ++ spelled i.kind ++ codes " " ++ spelled i.name ++ codes "(" ++ joined (map (connection_text wires) i.pins) ++ codes ");\n"

abbrev pub module_line : List ℕ → List Port → List ℕ
module_line name ports = codes "module " ++ spelled name ++ codes "(" ++ joined (map spelled (port_names ports)) ++ codes ");\n"

abbrev pub canonical_text : Design → List ℕ
canonical_text d = module_line d.name d.ports ++ port_lines d.ports d.wires ++ flat_map wire_line (drop (length d.ports) d.wires) ++ flat_map (assign_line d.wires) d.assigns ++ flat_map (inst_line d.wires) d.insts ++ codes "endmodule\n"
