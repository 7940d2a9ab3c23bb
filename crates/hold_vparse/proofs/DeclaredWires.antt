-- What the lines of a module declare, as wires.
--
-- line_names ls: the names that the lines declare as ports.
-- wire_of_port l, wire_of_line l: the wire that one line declares.
-- IsAmongWires wires i: the identifier names one of the wires.
use Rattle.std.proofs.Common.{◌≡◌, ℕ, List, [], ◌∷◌, map, true, refl, ap}
use Rattle.hold_netlist.specs.Names.{wire_names, is_among}
use Rattle.hold_netlist.specs.declared.wire.Wire.{Wire}
use Rattle.hold_vsyntax.specs.declared.tree.Ident.{Ident}
use Rattle.hold_vparse.specs.Lines.{PortLine, WireLine}
use Rattle.hold_vparse.specs.Nets.{names, wire}

abbrev pub line_names : List PortLine → List (List ℕ)
line_names ls = names (map (λ (l : PortLine). l.name) ls)

abbrev pub wire_of_port : PortLine → Wire
wire_of_port l = wire l.name.name l.range

abbrev pub wire_of_line : WireLine → Wire
wire_of_line l = wire l.name.name l.range

abbrev pub IsAmongWires : List Wire → Ident → Type 0
IsAmongWires wires i = is_among i.name (wire_names wires) ≡ true

pub names_of_ports : (ls : List PortLine) → wire_names (map wire_of_port ls) ≡ line_names ls
names_of_ports [] = refl
names_of_ports (l ∷ ls) = ap (λ r. l.name.name ∷ r) (names_of_ports ls)
