-- The syntax tree of a netlist's canonical text. Each part is told the place at which its text begins, since an
-- identifier keeps where it stands.
--
-- one x: a list of this one.
-- range_of r: the range as it is declared.
-- index_of r n: the index of bit n, counted from the left bound. selected_of r n: how that bit is selected.
-- bit_part at wires n: net bit n, found going down the wires. Past the last wire there is none.
-- tied_to net s: a pin tied to that part of a net. tied_of, right_of: a source where it stands.
-- names_at at names: the names with a comma and a space between each and the next.
-- port_item, wire_item, assign_item, inst_item: the statement of one line; port_items and so on: of all lines.
-- connection_at, connections_at: one connection, and all with a comma and a space between each and the next.
-- header_at name ports: the ports' names, behind the module's name.
-- lines_at at d: all statements.
-- tree_of d: the tree of the canonical text of d.
use Rattle.std.specs.Prelude.{ℕ, ◌+◌, ◌-◌, false, true, List, [], ◌∷◌, ◌++◌, length, drop, flat_map, Option, Some, None, nat_lt, if◌then◌else◌}
use Rattle.hold_netlist.specs.declared.wire.Port.{Port}
use Rattle.hold_netlist.specs.declared.wire.Wire.{Wire}
use Rattle.hold_netlist.specs.declared.inst.Source.{Source}
use Rattle.hold_netlist.specs.declared.inst.Source.TheVariants.{Net as NetBit, Zero, One, Empty}
use Rattle.hold_netlist.specs.declared.inst.Pin.{Pin}
use Rattle.hold_netlist.specs.declared.inst.Inst.{Inst}
use Rattle.hold_netlist.specs.declared.inst.Assign.{Assign}
use Rattle.hold_netlist.specs.Design.{Design}
use Rattle.hold_netlist.specs.Bits.{width_of}
use Rattle.hold_netlist.specs.Names.{port_names}
use Rattle.hold_netlist.specs.CanonicalText.{spelled, range_text, direction_text, bit_text, port_line, port_lines, wire_line, assign_line, connection_text, inst_line, module_line}
use Rattle.hold_vsyntax.specs.declared.tree.Ident.{Ident}
use Rattle.hold_vsyntax.specs.declared.tree.Several.{Several}
use Rattle.hold_vsyntax.specs.declared.tree.Range.{Range}
use Rattle.hold_vsyntax.specs.declared.tree.Header.{Header}
use Rattle.hold_vsyntax.specs.declared.tree.Header.TheVariants.{Plain}
use Rattle.hold_vsyntax.specs.declared.tree.Selected.{Selected}
use Rattle.hold_vsyntax.specs.declared.tree.Selected.TheVariants.{Whole, Bit, Part as Bits}
use Rattle.hold_vsyntax.specs.declared.tree.Part.{Part}
use Rattle.hold_vsyntax.specs.declared.tree.Right.{Right}
use Rattle.hold_vsyntax.specs.declared.tree.Right.TheVariants.{Net as Side, Constant as ConstantSide}
use Rattle.hold_vsyntax.specs.declared.tree.Tied.{Tied}
use Rattle.hold_vsyntax.specs.declared.tree.Tied.TheVariants.{Open, Net, Bit as BitOf, Constant}
use Rattle.hold_vsyntax.specs.declared.tree.Connection.{Connection}
use Rattle.hold_vsyntax.specs.declared.tree.Item.{Item}
use Rattle.hold_vsyntax.specs.declared.tree.Item.TheVariants.{Ports, Wires, Assignments, Instances as InstancesOf}
use Rattle.hold_vsyntax.specs.declared.tree.Module.{Module}
use Rattle.hold_vsyntax.specs.Symbols.{ident}

abbrev pub one : {X : Type 0} → X → Several X
one x = record { first = x; rest = [] }

abbrev pub range_of : Option (ℕ × ℕ) → Option Range
range_of None = None
range_of (Some r) = Some (record { left = r.0; right = r.1 })

abbrev pub index_of : ℕ × ℕ → ℕ → ℕ
index_of r n = if nat_lt r.0 r.1 then r.0 + n else r.0 - n

abbrev pub selected_of : Option (ℕ × ℕ) → ℕ → Selected
selected_of None n = Whole
selected_of (Some r) n = Bit (index_of r n)

abbrev pub part_of : ℕ → Wire → ℕ → Part
part_of at w n = record { net = ident w.name at; selected = selected_of w.range n }

abbrev pub bit_part : ℕ → List Wire → ℕ → Part
bit_part at [] n = record { net = ident [] at; selected = Whole }
bit_part at (w ∷ ws) n = if nat_lt n (width_of w) then part_of at w n else bit_part at ws (n - width_of w)

abbrev pub tied_to : Ident → Selected → Tied
tied_to net Whole = Net net
tied_to net (Bit i) = BitOf net i
tied_to net (Bits r) = Net net

abbrev pub tied_of : ℕ → List Wire → Source → Tied
tied_of at wires (NetBit n) = tied_to (bit_part at wires n.0).net (bit_part at wires n.0).selected
tied_of at wires Zero = Constant false
tied_of at wires One = Constant true
tied_of at wires Empty = Open

-- the right side of an assignment is never empty
abbrev pub right_of : ℕ → List Wire → Source → Right
right_of at wires (NetBit n) = Side (bit_part at wires n.0)
right_of at wires Zero = ConstantSide false
right_of at wires One = ConstantSide true
right_of at wires Empty = ConstantSide false

abbrev pub names_at : ℕ → List (List ℕ) → List Ident
names_at at [] = []
names_at at (n ∷ ns) = ident n at ∷ names_at (at + (length (spelled n) + 2)) ns

abbrev pub port_item : ℕ → Port → Wire → Item
port_item at p w = Ports (record {
  direction = p.direction;
  wire = false;
  range = range_of w.range;
  names = one (ident p.name (at + (2 + (length (direction_text p.direction) + length (range_text w.range)))));
})

abbrev pub port_items : ℕ → List Port → List Wire → List Item
port_items at [] wires = []
port_items at (p ∷ ps) [] = []
port_items at (p ∷ ps) (w ∷ ws) = port_item at p w ∷ port_items (at + length (port_line p w)) ps ws

abbrev pub wire_item : ℕ → Wire → Item
wire_item at w = Wires (record { range = range_of w.range; names = one (ident w.name (at + (7 + length (range_text w.range)))) })

abbrev pub wire_items : ℕ → List Wire → List Item
wire_items at [] = []
wire_items at (w ∷ ws) = wire_item at w ∷ wire_items (at + length (wire_line w)) ws

abbrev pub assign_item : ℕ → List Wire → Assign → Item
assign_item at wires a = Assignments (one (record {
  left = bit_part (at + 9) wires a.left.0;
  right = right_of (at + (9 + (length (bit_text wires a.left.0) + 3))) wires a.right;
}))

abbrev pub assign_items : ℕ → List Wire → List Assign → List Item
assign_items at wires [] = []
assign_items at wires (a ∷ rest) = assign_item at wires a ∷ assign_items (at + length (assign_line wires a)) wires rest

abbrev pub connection_at : ℕ → List Wire → Pin → Connection
connection_at at wires p = record { pin = ident p.name (at + 1); tied = tied_of (at + (1 + (length (spelled p.name) + 1))) wires p.source }

abbrev pub connections_at : ℕ → List Wire → List Pin → List Connection
connections_at at wires [] = []
connections_at at wires (p ∷ ps) = connection_at at wires p ∷ connections_at (at + (length (connection_text wires p) + 2)) wires ps

abbrev pub inst_item : ℕ → List Wire → Inst → Item
inst_item at wires i = InstancesOf (record {
  kind = ident i.kind (at + 2);
  list = one (record {
    name = ident i.name (at + (2 + (length (spelled i.kind) + 1)));
    connections = connections_at (at + (2 + (length (spelled i.kind) + (1 + (length (spelled i.name) + 1))))) wires i.pins;
  });
})

abbrev pub inst_items : ℕ → List Wire → List Inst → List Item
inst_items at wires [] = []
inst_items at wires (i ∷ is) = inst_item at wires i ∷ inst_items (at + length (inst_line wires i)) wires is

abbrev pub lines_at : ℕ → Design → List Item
lines_at at d =
    port_items at d.ports d.wires
    ++ (wire_items (at + length (port_lines d.ports d.wires)) (drop (length d.ports) d.wires)
    ++ (assign_items (at + (length (port_lines d.ports d.wires) + length (flat_map wire_line (drop (length d.ports) d.wires)))) d.wires d.assigns
    ++ inst_items (at + (length (port_lines d.ports d.wires) + (length (flat_map wire_line (drop (length d.ports) d.wires)) + length (flat_map (assign_line d.wires) d.assigns)))) d.wires d.insts))

abbrev pub header_at : List ℕ → List (List ℕ) → Header
header_at name ports = Plain (names_at (7 + (length (spelled name) + 1)) ports)

abbrev pub tree_of : Design → Module
tree_of d = record {
  name = ident d.name 7;
  header = header_at d.name (port_names d.ports);
  items = lines_at (length (module_line d.name d.ports)) d;
}
