-- Role: what a place in the text does to the name that stands there: it lists a port whose direction the body
--   has to give, declares a port in the header, gives a port its direction, declares a wire, declares an instance, or
--   uses a net, in a connection or on the left of an assignment.
-- Mention: a name with its place, and its role there.
-- mentions m: all mentions, in the order of the text. What stands on the right of assignments isn't one, nor are the
--   module's name, types and pins. mentions_of_instance, mentions_of_item: those in one part of it. mention role name:
--   one mention.
-- clash listed net earlier later: whether two mentions of one name, in these roles, declare it twice, where
--   `listed` says whether the name stands in a plain list of ports, and `net` whether it is declared as a net. Not so
--   of a listed port and its direction or a wire, of a port that the header declares and a wire, of a direction and a
--   wire, in either order, where the name is listed, of two uses, and of a use and anything else where the name is
--   declared as a net. So of all others. A name that isn't declared as a net is declared by its first use.
-- declares_again m later earlier: whether two mentions have one name and clash.
-- doubles m seen later: of the later mentions, those that clash with a seen one or an earlier one of them; so each use
--   of an implicit net behind an instance of its name is one.
-- repeated_pins seen cs: of the connections, the pins that are among the seen or an earlier one's.
-- repeated_in i: the pins that an instance names again.
-- doubled m: each identifier at which a name is declared again, or an instance names a pin again.
use Rattle.std.specs.Prelude.{ℕ, Bool, true, false, not, ◌&&◌, bytes_eq, List, [], ◌∷◌, ◌++◌, map, flat_map, if◌then◌else◌}
use Rattle.std.specs.List.{list_any}
use Rattle.hold_netlist.specs.Names.{is_among}
use Rattle.hold_vsyntax.specs.declared.tree.Ident.{Ident}
use Rattle.hold_vsyntax.specs.declared.tree.Assignment.{Assignment}
use Rattle.hold_vsyntax.specs.declared.tree.Connection.{Connection}
use Rattle.hold_vsyntax.specs.declared.tree.Instance.{Instance}
use Rattle.hold_vsyntax.specs.declared.tree.Item.{Item}
use Rattle.hold_vsyntax.specs.declared.tree.Item.TheVariants.{Ports, Wires, Assignments, Instances}
use Rattle.hold_vsyntax.specs.declared.tree.Module.{Module}
use Rattle.hold_vparse.specs.Lines.{all, PortLine, header_names, header_lines, instances}
use Rattle.hold_vparse.specs.Nets.{names, declared_names, used_in_instance}

pub data Role : Type 0 where
  ListsPort : Role
  DeclaresPort : Role
  GivesDirection : Role
  DeclaresWire : Role
  DeclaresInstance : Role
  UsesNet : Role

pub record Mention : Type 0 where
  pub role : Role
  pub name : Ident

abbrev pub mention : Role → Ident → Mention
mention role name = record { role = role; name = name }

abbrev pub mentions_of_instance : Instance → List Mention
mentions_of_instance i = mention DeclaresInstance i.name ∷ map (mention UsesNet) (used_in_instance i)

abbrev pub mentions_of_item : Item → List Mention
mentions_of_item (Ports p) = map (mention GivesDirection) (all p.names)
mentions_of_item (Wires w) = map (mention DeclaresWire) (all w.names)
mentions_of_item (Assignments s) = map (λ (a : Assignment). mention UsesNet a.left.net) (all s)
mentions_of_item (Instances i) = flat_map mentions_of_instance (all i.list)

abbrev pub mentions : Module → List Mention
mentions m =
    map (mention ListsPort) (header_names m.header)
    ++ (map (λ (l : PortLine). mention DeclaresPort l.name) (header_lines m.header) ++ flat_map mentions_of_item m.items)

abbrev pub clash : Bool → Bool → Role → Role → Bool
clash listed net ListsPort GivesDirection = false
clash listed net ListsPort DeclaresWire = false
clash listed net DeclaresPort DeclaresWire = false
clash listed net GivesDirection DeclaresWire = not listed
clash listed net DeclaresWire GivesDirection = not listed
clash listed net UsesNet UsesNet = false
clash listed net UsesNet later = not net
clash listed net earlier UsesNet = not net
clash listed net earlier later = true

abbrev pub declares_again : Module → Mention → Mention → Bool
declares_again m later earlier =
    bytes_eq later.name.name earlier.name.name
    && clash (is_among later.name.name (names (header_names m.header))) (is_among later.name.name (declared_names m)) earlier.role later.role

abbrev pub doubles : Module → List Mention → List Mention → List Ident
doubles m seen [] = []
doubles m seen (x ∷ xs) =
    if list_any (declares_again m x) seen then x.name ∷ doubles m (seen ++ x ∷ []) xs
    else doubles m (seen ++ x ∷ []) xs

abbrev pub repeated_pins : List (List ℕ) → List Connection → List Ident
repeated_pins seen [] = []
repeated_pins seen (c ∷ cs) =
    if is_among c.pin.name seen then c.pin ∷ repeated_pins (seen ++ c.pin.name ∷ []) cs
    else repeated_pins (seen ++ c.pin.name ∷ []) cs

abbrev pub repeated_in : Ident × Instance → List Ident
repeated_in i = repeated_pins [] i.1.connections

abbrev pub doubled : Module → List Ident
doubled m = doubles m [] (mentions m) ++ flat_map repeated_in (instances m.items)
