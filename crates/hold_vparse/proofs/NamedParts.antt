-- The identifiers of a module have names, part by part.
--
-- HasName i: the identifier's name is one. HaveNames is: so it is for each of them.
-- NextHasName p: the name of a later port of the header is one.
use Rattle.std.proofs.Common.{ℕ, List, [], ◌∷◌, map}
use Rattle.std.specs.Prelude.{Option}
use Rattle.std.specs.List.{AllByRecursion}
use Rattle.hold_base.proofs.Lists.{AllByRecursion-append_left, AllByRecursion-append_right, AllByRecursion-map, AllByRecursion-flat_map}
use Rattle.hold_base.specs.NameBytes.{IsName}
use Rattle.hold_netlist.specs.declared.wire.Direction.{Direction}
use Rattle.hold_vsyntax.specs.declared.tree.Ident.{Ident}
use Rattle.hold_vsyntax.specs.declared.tree.Several.{Several}
use Rattle.hold_vsyntax.specs.declared.tree.HeaderPort.{HeaderPort}
use Rattle.hold_vsyntax.specs.declared.tree.NextPort.{NextPort}
use Rattle.hold_vsyntax.specs.declared.tree.NextPort.TheVariants.{Declared as DeclaredNext, Alike}
use Rattle.hold_vsyntax.specs.declared.tree.Header.{Header}
use Rattle.hold_vsyntax.specs.declared.tree.Header.TheVariants.{Bare, Plain, Declared}
use Rattle.hold_vsyntax.specs.declared.tree.Tied.{Tied}
use Rattle.hold_vsyntax.specs.declared.tree.Tied.TheVariants.{Open, Net, Bit as BitOf, Constant}
use Rattle.hold_vsyntax.specs.declared.tree.Assignment.{Assignment}
use Rattle.hold_vsyntax.specs.declared.tree.Connection.{Connection}
use Rattle.hold_vsyntax.specs.declared.tree.Instance.{Instance}
use Rattle.hold_vsyntax.specs.declared.tree.Item.{Item}
use Rattle.hold_vsyntax.specs.declared.tree.Item.TheVariants.{Ports, Wires, Assignments, Instances}
use Rattle.hold_vsyntax.specs.declared.tree.Module.{Module}
use Rattle.hold_vsyntax.specs.Symbols.{Symbol}
use Rattle.hold_vsyntax.specs.Grammar.{separated, several, listed, name_symbols, wire_symbols, range_symbols, port_symbols, next_port_symbols, header_symbols, assignment_symbols, tied_symbols, connection_symbols, instance_symbols, item_symbols, item_piece}
use Rattle.hold_vsyntax.specs.Named.{AreNamed, IsNamedModule}
use Rattle.hold_vparse.specs.Lines.{all, PortLine, WireLine, bounds_of, wire_line, header_names, header_lines, next_lines, wires_of_item, wire_lines, instances_of_item, instances}
use Rattle.hold_vparse.specs.Nets.{used_in_tied, used_in_instance, used_in_item, uses}

abbrev pub HasName : Ident → Type 0
HasName i = IsName i.name

abbrev pub HaveNames : List Ident → Type 0
HaveNames is = AllByRecursion HasName is

-- parts between commas
module _ {X : Type 0} (write : X → List Symbol) (P : X → Type 0) (each : (x : X) → AreNamed (write x) → P x) where
  separated-named : (xs : List X) → AreNamed (separated write xs) → AllByRecursion P xs
  separated-named [] h = tt
  separated-named (x ∷ xs) h = (each x (AllByRecursion-append_left _ (write x) (separated write xs) h.1), separated-named xs (AllByRecursion-append_right _ (write x) (separated write xs) h.1))

  several-named : (s : Several X) → AreNamed (several write s) → AllByRecursion P (all s)
  several-named s h = (each s.first (AllByRecursion-append_left _ (write s.first) (separated write s.rest) h), separated-named s.rest (AllByRecursion-append_right _ (write s.first) (separated write s.rest) h))

  listed-named : (xs : List X) → AreNamed (listed write xs) → AllByRecursion P xs
  listed-named [] h = tt
  listed-named (x ∷ xs) h = (each x (AllByRecursion-append_left _ (write x) (separated write xs) h), separated-named xs (AllByRecursion-append_right _ (write x) (separated write xs) h))

name-named : (i : Ident) → AreNamed (name_symbols i) → HasName i
name-named i h = h.0

-- the header
abbrev NextHasName : NextPort → Type 0
NextHasName (DeclaredNext p) = HasName p.name
NextHasName (Alike name) = HasName name

port-named : (p : HeaderPort) → AreNamed (port_symbols p) → HasName p.name
port-named p h = (AllByRecursion-append_right _ (range_symbols p.range) (name_symbols p.name) (AllByRecursion-append_right _ (wire_symbols p.wire) _ h.1)).0

next-named : (p : NextPort) → AreNamed (next_port_symbols p) → NextHasName p
next-named (DeclaredNext p) h = port-named p h
next-named (Alike name) h = h.0

next_lines-named : (direction : Direction) (range : Option (ℕ × ℕ)) (ps : List NextPort) → AllByRecursion NextHasName ps → AllByRecursion (λ (l : PortLine). HasName l.name) (next_lines direction range ps)
next_lines-named direction range [] h = tt
next_lines-named direction range (DeclaredNext p ∷ ps) h = (h.0, next_lines-named p.direction (bounds_of p.range) ps h.1)
next_lines-named direction range (Alike name ∷ ps) h = (h.0, next_lines-named direction range ps h.1)

pub record IsNamedHeader (h : Header) : Type 0 where
  pub listed_names : HaveNames (header_names h)
  pub declared_names : AllByRecursion (λ (l : PortLine). HasName l.name) (header_lines h)

header-named : (h : Header) → AreNamed (header_symbols h) → IsNamedHeader h
header-named Bare h = record { listed_names = tt; declared_names = tt }
header-named (Plain names) h = record {
  listed_names = listed-named name_symbols HasName name-named names (AllByRecursion-append_left _ (listed name_symbols names) _ h.1);
  declared_names = tt;
}
header-named (Declared first rest) h =
    let ports = AllByRecursion-append_right _ (port_symbols first) _ h.1 in
    record {
      listed_names = tt;
      declared_names = (
        port-named first (AllByRecursion-append_left _ (port_symbols first) _ h.1),
        next_lines-named first.direction (bounds_of first.range) rest
            (separated-named next_port_symbols NextHasName next-named rest (AllByRecursion-append_left _ (separated next_port_symbols rest) _ ports)),
      );
    }

-- instances
pub record IsNamedConnection (c : Connection) : Type 0 where
  pub pin_name : HasName c.pin
  pub used_names : HaveNames (used_in_tied c.tied)

tied-named : (t : Tied) → AreNamed (tied_symbols t) → HaveNames (used_in_tied t)
tied-named Open h = tt
tied-named (Net name) h = (h.0, tt)
tied-named (BitOf name index) h = (h.0, tt)
tied-named (Constant value) h = tt

connection-named : (c : Connection) → AreNamed (connection_symbols c) → IsNamedConnection c
connection-named c h = record { pin_name = h.1.0; used_names = tied-named c.tied (AllByRecursion-append_left _ (tied_symbols c.tied) _ h.1.1.1) }

pub record IsNamedInstance (i : Instance) : Type 0 where
  pub own_name : HasName i.name
  pub each : AllByRecursion IsNamedConnection i.connections

instance-named : (i : Instance) → AreNamed (instance_symbols i) → IsNamedInstance i
instance-named i h = record {
  own_name = h.0;
  each = listed-named connection_symbols IsNamedConnection connection-named i.connections (AllByRecursion-append_left _ (listed connection_symbols i.connections) _ h.1.1);
}

used-named : (i : Instance) → IsNamedInstance i → HaveNames (used_in_instance i)
used-named i h = AllByRecursion-flat_map IsNamedConnection HasName (λ (c : Connection). used_in_tied c.tied) (λ c named. named.used_names) i.connections h.each

pub record IsNamedPlacement (i : Ident × Instance) : Type 0 where
  pub kind_name : HasName i.0
  pub inner : IsNamedInstance i.1

placements-named : (kind : Ident) (is : List Instance) → HasName kind → AllByRecursion IsNamedInstance is → AllByRecursion IsNamedPlacement (map (λ x. (kind, x)) is)
placements-named kind [] k h = tt
placements-named kind (i ∷ is) k h = (record { kind_name = k; inner = h.0 }, placements-named kind is k h.1)

-- statements
record IsNamedItem (i : Item) : Type 0 where
  wires : AllByRecursion (λ (l : WireLine). HasName l.name) (wires_of_item i)
  used : HaveNames (used_in_item i)
  placed : AllByRecursion IsNamedPlacement (instances_of_item i)

assignment-named : (a : Assignment) → AreNamed (assignment_symbols a) → HasName a.left.net
assignment-named a h = h.0

item-named : (i : Item) → AreNamed (item_symbols i) → IsNamedItem i
item-named (Ports p) h = record { wires = tt; used = tt; placed = tt }
item-named (Wires w) h = record {
  wires = AllByRecursion-map (λ (l : WireLine). HasName l.name) (wire_line (bounds_of w.range)) (all w.names)
      (several-named name_symbols HasName name-named w.names (AllByRecursion-append_right _ (range_symbols w.range) (several name_symbols w.names) h.1));
  used = tt;
  placed = tt;
}
item-named (Assignments s) h = record {
  wires = tt;
  used = AllByRecursion-map HasName (λ (a : Assignment). a.left.net) (all s) (several-named assignment_symbols (λ (a : Assignment). HasName a.left.net) assignment-named s h.1);
  placed = tt;
}
item-named (Instances i) h =
    let each = several-named instance_symbols IsNamedInstance instance-named i.list h.1 in
    record {
      wires = tt;
      used = AllByRecursion-flat_map IsNamedInstance HasName used_in_instance used-named (all i.list) each;
      placed = placements-named i.kind (all i.list) h.0 each;
    }

items-named : (is : List Item) → AllByRecursion AreNamed (map item_piece is) → AllByRecursion IsNamedItem is
items-named [] h = tt
items-named (i ∷ is) h = (item-named i (AllByRecursion-append_left _ (item_symbols i) _ h.0), items-named is h.1)

-- Each part of the module whose identifiers its netlist takes over.
pub record IsNamedInParts (m : Module) : Type 0 where
  pub own_name : HasName m.name
  pub in_header : IsNamedHeader m.header
  pub in_wires : AllByRecursion (λ (l : WireLine). HasName l.name) (wire_lines m.items)
  pub in_uses : HaveNames (uses m)
  pub in_instances : AllByRecursion IsNamedPlacement (instances m.items)

pub named_in_parts : (m : Module) → IsNamedModule m → IsNamedInParts m
named_in_parts m h =
    let items = items-named m.items (AllByRecursion-append_left _ (map item_piece m.items) _ h.1) in
    record {
      own_name = h.0.1.0;
      in_header = header-named m.header (AllByRecursion-append_left _ (header_symbols m.header) _ h.0.1.1);
      in_wires = AllByRecursion-flat_map IsNamedItem (λ (l : WireLine). HasName l.name) wires_of_item (λ i named. named.wires) m.items items;
      in_uses = AllByRecursion-flat_map IsNamedItem HasName used_in_item (λ i named. named.used) m.items items;
      in_instances = AllByRecursion-flat_map IsNamedItem IsNamedPlacement instances_of_item (λ i named. named.placed) m.items items;
    }
