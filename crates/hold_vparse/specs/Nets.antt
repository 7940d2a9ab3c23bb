-- The nets of a module.
--
-- names is: the names of identifiers.
-- port_idents m: the identifiers of the ports in the header.
-- declared_names m: the names that are declared as nets: by a header, by a direction or by `wire`.
-- uses m: the identifiers that stand in a connection or on the left of an assignment, in the order of the text;
--   used_in_tied, used_in_instance, used_in_item: those in one part of it.
-- first_uses seen is: those whose name is neither among the seen nor an earlier one's.
-- wire name range: a wire of that name and range.
-- port_wires m: the wires of the ports, in header order. other_wires m: those that `wire` declares and that are no
--   port, in order.
-- implicit_wires m: a scalar for each name that is used and that no header, direction or `wire` declares, in the order of
--   first uses. That an instance has the name makes no difference.
-- nets m: all wires: ports, other declared ones, implicit ones.
use Rattle.std.specs.Prelude.{ℕ, List, [], ◌∷◌, ◌++◌, map, flat_map, not, if◌then◌else◌, Option, None}
use Rattle.std.specs.List.{filter}
use Rattle.hold_netlist.specs.declared.wire.Wire.{Wire}
use Rattle.hold_netlist.specs.Names.{is_among}
use Rattle.hold_vsyntax.specs.declared.tree.Ident.{Ident}
use Rattle.hold_vsyntax.specs.declared.tree.Tied.{Tied}
use Rattle.hold_vsyntax.specs.declared.tree.Tied.TheVariants.{Open, Net, Bit, Constant}
use Rattle.hold_vsyntax.specs.declared.tree.Assignment.{Assignment}
use Rattle.hold_vsyntax.specs.declared.tree.Connection.{Connection}
use Rattle.hold_vsyntax.specs.declared.tree.Instance.{Instance}
use Rattle.hold_vsyntax.specs.declared.tree.Item.{Item}
use Rattle.hold_vsyntax.specs.declared.tree.Item.TheVariants.{Ports, Wires, Assignments, Instances}
use Rattle.hold_vsyntax.specs.declared.tree.Module.{Module}
use Rattle.hold_vparse.specs.Lines.{all, PortLine, WireLine, header_names, header_lines, body_lines, wire_lines, ports_of}

abbrev pub names : List Ident → List (List ℕ)
names is = map (λ i. i.name) is

abbrev pub port_idents : Module → List Ident
port_idents m = header_names m.header ++ map (λ l. l.name) (header_lines m.header)

abbrev pub declared_names : Module → List (List ℕ)
declared_names m = names (port_idents m) ++ (names (map (λ l. l.name) (body_lines m.items)) ++ names (map (λ l. l.name) (wire_lines m.items)))

abbrev pub used_in_tied : Tied → List Ident
used_in_tied Open = []
used_in_tied (Net name) = name ∷ []
used_in_tied (Bit name index) = name ∷ []
used_in_tied (Constant value) = []

abbrev pub used_in_instance : Instance → List Ident
used_in_instance i = flat_map (λ (c : Connection). used_in_tied c.tied) i.connections

abbrev pub used_in_item : Item → List Ident
used_in_item (Ports p) = []
used_in_item (Wires w) = []
used_in_item (Assignments s) = map (λ (a : Assignment). a.left.net) (all s)
used_in_item (Instances i) = flat_map used_in_instance (all i.list)

abbrev pub uses : Module → List Ident
uses m = flat_map used_in_item m.items

abbrev pub first_uses : List (List ℕ) → List Ident → List Ident
first_uses seen [] = []
first_uses seen (i ∷ is) = if is_among i.name seen then first_uses seen is else i ∷ first_uses (seen ++ i.name ∷ []) is

abbrev pub wire : List ℕ → Option (ℕ × ℕ) → Wire
wire name range = record { name = name; range = range }

abbrev pub port_wires : Module → List Wire
port_wires m = map (λ (l : PortLine). wire l.name.name l.range) (ports_of m)

abbrev pub other_wires : Module → List Wire
other_wires m =
    map (λ (l : WireLine). wire l.name.name l.range)
    (filter (λ (l : WireLine). not (is_among l.name.name (names (port_idents m)))) (wire_lines m.items))

abbrev pub implicit_wires : Module → List Wire
implicit_wires m = map (λ (i : Ident). wire i.name None) (first_uses (declared_names m) (uses m))

abbrev pub nets : Module → List Wire
nets m = port_wires m ++ (other_wires m ++ implicit_wires m)
