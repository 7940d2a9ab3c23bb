-- all s: the one or more, as a list.
-- range_bounds r: the two bounds of a range. bounds_of r: the same; None of a scalar.
-- PortLine: a port as some line declares it: its direction, range and name. WireLine: a wire as some
--   line declares it: its range and name. port_line, wire_line: such a line of these parts.
-- header_names h: the names of a plain list of ports, in order; of any other header none.
-- header_lines h: the ports that the header declares, in order. One that stands there by its name alone has the
--   direction and the range of the one before it.
--   header_line p, next_lines d r ps: the lines of one port, and of those behind one of this direction and range.
-- body_lines items: the names to which the body gives a direction, in order, also those that are no port. wire_lines
--   items: the wires that it declares by the word `wire` at the head of a statement.
-- assignments items, instances items: all of them, in order; an instance with the name of its type.
-- lines_of_item, wires_of_item, assignments_of_item, instances_of_item: those of one statement.
-- line_of name lines: the first of the lines that declares this name; None where none does.
-- as_declared i line: the port i as that line declares it. ports_in h lines: the ports of a header, those of a plain
--   list as these lines declare them.
-- ports_of m: the ports in header order, each with its direction and range. A port of a plain list to which no
--   line gives a direction is taken for a scalar input; where there is one, the text is refused.
use Rattle.std.specs.Prelude.{ℕ, List, [], ◌∷◌, map, flat_map, bytes_eq, if◌then◌else◌, Option, Some, None}
use Rattle.hold_netlist.specs.declared.wire.Direction.{Direction}
use Rattle.hold_netlist.specs.declared.wire.Direction.TheVariants.{Input}
use Rattle.hold_vsyntax.specs.declared.tree.Ident.{Ident}
use Rattle.hold_vsyntax.specs.declared.tree.Several.{Several}
use Rattle.hold_vsyntax.specs.declared.tree.Range.{Range}
use Rattle.hold_vsyntax.specs.declared.tree.HeaderPort.{HeaderPort}
use Rattle.hold_vsyntax.specs.declared.tree.NextPort.{NextPort}
use Rattle.hold_vsyntax.specs.declared.tree.NextPort.TheVariants.{Declared as DeclaredNext, Alike}
use Rattle.hold_vsyntax.specs.declared.tree.Header.{Header}
use Rattle.hold_vsyntax.specs.declared.tree.Header.TheVariants.{Bare, Plain, Declared}
use Rattle.hold_vsyntax.specs.declared.tree.Assignment.{Assignment}
use Rattle.hold_vsyntax.specs.declared.tree.Instance.{Instance}
use Rattle.hold_vsyntax.specs.declared.tree.Item.{Item}
use Rattle.hold_vsyntax.specs.declared.tree.Item.TheVariants.{Ports, Wires, Assignments, Instances}
use Rattle.hold_vsyntax.specs.declared.tree.Module.{Module}

abbrev pub all : {X : Type 0} → Several X → List X
all s = s.first ∷ s.rest

abbrev pub range_bounds : Range → ℕ × ℕ
range_bounds r = (r.left, r.right)

abbrev pub bounds_of : Option Range → Option (ℕ × ℕ)
bounds_of None = None
bounds_of (Some r) = Some (range_bounds r)

pub record PortLine : Type 0 where
  pub direction : Direction
  pub range : Option (ℕ × ℕ)
  pub name : Ident

pub record WireLine : Type 0 where
  pub range : Option (ℕ × ℕ)
  pub name : Ident

abbrev pub port_line : Direction → Option (ℕ × ℕ) → Ident → PortLine
port_line direction range name = record { direction = direction; range = range; name = name }

abbrev pub wire_line : Option (ℕ × ℕ) → Ident → WireLine
wire_line range name = record { range = range; name = name }

abbrev pub header_names : Header → List Ident
header_names Bare = []
header_names (Plain names) = names
header_names (Declared first rest) = []

abbrev pub header_line : HeaderPort → PortLine
header_line p = port_line p.direction (bounds_of p.range) p.name

abbrev pub next_lines : Direction → Option (ℕ × ℕ) → List NextPort → List PortLine
next_lines direction range [] = []
next_lines direction range (DeclaredNext p ∷ ps) = header_line p ∷ next_lines p.direction (bounds_of p.range) ps
next_lines direction range (Alike name ∷ ps) = port_line direction range name ∷ next_lines direction range ps

abbrev pub header_lines : Header → List PortLine
header_lines Bare = []
header_lines (Plain names) = []
header_lines (Declared first rest) = header_line first ∷ next_lines first.direction (bounds_of first.range) rest

abbrev pub lines_of_item : Item → List PortLine
lines_of_item (Ports p) = map (port_line p.direction (bounds_of p.range)) (all p.names)
lines_of_item _ = []

abbrev pub body_lines : List Item → List PortLine
body_lines items = flat_map lines_of_item items

abbrev pub wires_of_item : Item → List WireLine
wires_of_item (Wires w) = map (wire_line (bounds_of w.range)) (all w.names)
wires_of_item _ = []

abbrev pub wire_lines : List Item → List WireLine
wire_lines items = flat_map wires_of_item items

abbrev pub assignments_of_item : Item → List Assignment
assignments_of_item (Assignments s) = all s
assignments_of_item _ = []

abbrev pub assignments : List Item → List Assignment
assignments items = flat_map assignments_of_item items

abbrev pub instances_of_item : Item → List (Ident × Instance)
instances_of_item (Instances i) = map (λ x. (i.kind, x)) (all i.list)
instances_of_item _ = []

abbrev pub instances : List Item → List (Ident × Instance)
instances items = flat_map instances_of_item items

abbrev pub line_of : List ℕ → List PortLine → Option PortLine
line_of name [] = None
line_of name (l ∷ ls) = if bytes_eq name l.name.name then Some l else line_of name ls

abbrev pub as_declared : Ident → Option PortLine → PortLine
as_declared name None = port_line Input None name
as_declared name (Some l) = port_line l.direction l.range name

abbrev pub ports_in : Header → List PortLine → List PortLine
ports_in Bare lines = []
ports_in (Plain names) lines = map (λ (i : Ident). as_declared i (line_of i.name lines)) names
ports_in (Declared first rest) lines = header_lines (Declared first rest)

abbrev pub ports_of : Module → List PortLine
ports_of m = ports_in m.header (body_lines m.items)
