-- How each part of a syntax tree is written in symbols. A text is in the grammar of this project's profile where its
-- pieces are those of a tree.
--
-- separated write xs: the xs, each after a comma. several write s: one or more with commas between them.
-- listed write xs: the same, and nothing where there are none.
-- name_symbols i: an identifier. bounds_symbols r: two bounds with their brackets. direction_mark d: the word of a direction.
-- wire_symbols written: the word `wire` where it is written.
-- range_symbols r: the range; nothing for a scalar.
-- port_symbols p: a port that is declared in the header. next_port_symbols p: a later one, which may have its name alone.
-- header_symbols h: the ports in the header, with the parentheses; nothing where it has neither.
-- selected_symbols s: what is written after the name of a net.
-- part_symbols, right_symbols, assignment_symbols, tied_symbols, connection_symbols, instance_symbols: one of each.
-- header_piece m: the piece that opens the module.
-- body_ports_symbols, body_wires_symbols, item_symbols: a statement without its semicolon. item_piece i: its piece.
-- end_piece: the piece that closes the module.
-- pieces_of m: all pieces of the module, in order.
use Rattle.std.specs.Prelude.{Bool, true, false, List, [], ◌∷◌, ◌++◌, map, flat_map, Option, Some, None}
use Rattle.hold_netlist.specs.declared.wire.Direction.{Direction}
use Rattle.hold_netlist.specs.declared.wire.Direction.TheVariants.{Input as InputPort, Output as OutputPort}
use Rattle.hold_vsyntax.specs.declared.mark.Mark.{Mark}
use Rattle.hold_vsyntax.specs.declared.mark.Mark.TheVariants.{Module as TheModule, EndModule, Input, Output, Wire, Assign, Comma, Semicolon, Colon, Dot, Equals, LeftParenthesis, RightParenthesis, LeftBracket, RightBracket}
use Rattle.hold_vsyntax.specs.declared.tree.Ident.{Ident}
use Rattle.hold_vsyntax.specs.declared.tree.Several.{Several}
use Rattle.hold_vsyntax.specs.declared.tree.Range.{Range}
use Rattle.hold_vsyntax.specs.declared.tree.HeaderPort.{HeaderPort}
use Rattle.hold_vsyntax.specs.declared.tree.NextPort.{NextPort}
use Rattle.hold_vsyntax.specs.declared.tree.NextPort.TheVariants.{Declared as DeclaredNext, Alike}
use Rattle.hold_vsyntax.specs.declared.tree.Header.{Header}
use Rattle.hold_vsyntax.specs.declared.tree.Header.TheVariants.{Bare, Plain, Declared}
use Rattle.hold_vsyntax.specs.declared.tree.Selected.{Selected}
use Rattle.hold_vsyntax.specs.declared.tree.Selected.TheVariants.{Whole, Bit, Part as Bits}
use Rattle.hold_vsyntax.specs.declared.tree.Part.{Part}
use Rattle.hold_vsyntax.specs.declared.tree.Tied.{Tied}
use Rattle.hold_vsyntax.specs.declared.tree.Right.{Right}
use Rattle.hold_vsyntax.specs.declared.tree.Right.TheVariants.{Net as Side, Constant as ConstantSide}
use Rattle.hold_vsyntax.specs.declared.tree.Tied.TheVariants.{Open, Net, Bit as BitOf, Constant}
use Rattle.hold_vsyntax.specs.declared.tree.Assignment.{Assignment}
use Rattle.hold_vsyntax.specs.declared.tree.Connection.{Connection}
use Rattle.hold_vsyntax.specs.declared.tree.Instance.{Instance}
use Rattle.hold_vsyntax.specs.declared.tree.BodyPorts.{BodyPorts}
use Rattle.hold_vsyntax.specs.declared.tree.BodyWires.{BodyWires}
use Rattle.hold_vsyntax.specs.declared.tree.Item.{Item}
use Rattle.hold_vsyntax.specs.declared.tree.Item.TheVariants.{Ports, Wires, Assignments, Instances as InstancesOf}
use Rattle.hold_vsyntax.specs.declared.tree.Module.{Module}
use Rattle.hold_vsyntax.specs.Symbols.{Symbol, Marked, Named, Counted, Tied as ConstantBit}

abbrev pub separated : {X : Type 0} → (X → List Symbol) → List X → List Symbol
separated write xs = flat_map (λ x. Marked Comma ∷ write x) xs

abbrev pub several : {X : Type 0} → (X → List Symbol) → Several X → List Symbol
several write s = write s.first ++ separated write s.rest

abbrev pub listed : {X : Type 0} → (X → List Symbol) → List X → List Symbol
listed write [] = []
listed write (x ∷ xs) = write x ++ separated write xs

abbrev pub name_symbols : Ident → List Symbol
name_symbols i = Named i ∷ []

abbrev pub wire_symbols : Bool → List Symbol
wire_symbols true = Marked Wire ∷ []
wire_symbols false = []

abbrev pub bounds_symbols : Range → List Symbol
bounds_symbols r = Marked LeftBracket ∷ Counted r.left ∷ Marked Colon ∷ Counted r.right ∷ Marked RightBracket ∷ []

abbrev pub range_symbols : Option Range → List Symbol
range_symbols None = []
range_symbols (Some r) = bounds_symbols r

abbrev pub direction_mark : Direction → Mark
direction_mark InputPort = Input
direction_mark OutputPort = Output

abbrev pub port_symbols : HeaderPort → List Symbol
port_symbols p = Marked (direction_mark p.direction) ∷ (wire_symbols p.wire ++ (range_symbols p.range ++ name_symbols p.name))

abbrev pub next_port_symbols : NextPort → List Symbol
next_port_symbols (DeclaredNext p) = port_symbols p
next_port_symbols (Alike name) = name_symbols name

abbrev pub header_symbols : Header → List Symbol
header_symbols Bare = []
header_symbols (Plain names) = Marked LeftParenthesis ∷ (listed name_symbols names ++ Marked RightParenthesis ∷ [])
header_symbols (Declared first rest) =
    Marked LeftParenthesis ∷ (port_symbols first ++ (separated next_port_symbols rest ++ Marked RightParenthesis ∷ []))

abbrev pub selected_symbols : Selected → List Symbol
selected_symbols Whole = []
selected_symbols (Bit index) = Marked LeftBracket ∷ Counted index ∷ Marked RightBracket ∷ []
selected_symbols (Bits r) = bounds_symbols r

abbrev pub part_symbols : Part → List Symbol
part_symbols p = Named p.net ∷ selected_symbols p.selected

abbrev pub right_symbols : Right → List Symbol
right_symbols (Side p) = part_symbols p
right_symbols (ConstantSide value) = ConstantBit value ∷ []

abbrev pub assignment_symbols : Assignment → List Symbol
assignment_symbols a = part_symbols a.left ++ (Marked Equals ∷ right_symbols a.right)

abbrev pub tied_symbols : Tied → List Symbol
tied_symbols Open = []
tied_symbols (Net name) = name_symbols name
tied_symbols (BitOf name index) = Named name ∷ Marked LeftBracket ∷ Counted index ∷ Marked RightBracket ∷ []
tied_symbols (Constant value) = ConstantBit value ∷ []

abbrev pub connection_symbols : Connection → List Symbol
connection_symbols c =
    Marked Dot ∷ Named c.pin ∷ Marked LeftParenthesis ∷ (tied_symbols c.tied ++ Marked RightParenthesis ∷ [])

abbrev pub instance_symbols : Instance → List Symbol
instance_symbols i =
    Named i.name ∷ Marked LeftParenthesis ∷ (listed connection_symbols i.connections ++ Marked RightParenthesis ∷ [])

abbrev pub header_piece : Module → List Symbol
header_piece m = Marked TheModule ∷ Named m.name ∷ (header_symbols m.header ++ Marked Semicolon ∷ [])

abbrev pub body_ports_symbols : BodyPorts → List Symbol
body_ports_symbols p = Marked (direction_mark p.direction) ∷ (wire_symbols p.wire ++ (range_symbols p.range ++ several name_symbols p.names))

abbrev pub body_wires_symbols : BodyWires → List Symbol
body_wires_symbols w = Marked Wire ∷ (range_symbols w.range ++ several name_symbols w.names)

abbrev pub item_symbols : Item → List Symbol
item_symbols (Ports p) = body_ports_symbols p
item_symbols (Wires w) = body_wires_symbols w
item_symbols (Assignments s) = Marked Assign ∷ several assignment_symbols s
item_symbols (InstancesOf i) = Named i.kind ∷ several instance_symbols i.list

abbrev pub item_piece : Item → List Symbol
item_piece i = item_symbols i ++ Marked Semicolon ∷ []

abbrev pub end_piece : List Symbol
end_piece = Marked EndModule ∷ []

abbrev pub pieces_of : Module → List (List Symbol)
pieces_of m = header_piece m ∷ (map item_piece m.items ++ end_piece ∷ [])
