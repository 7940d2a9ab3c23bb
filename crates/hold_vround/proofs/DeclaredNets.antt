-- The nets of a module whose ports are listed and given a direction once, whose other wires are declared once, and
-- that uses no other nets: they are the wires that it declares.
--
-- wire_line_names ls: the names that the lines declare as wires.
-- IsInOrder s wires: so it is, and these are its wires.
use Rattle.std.proofs.Common.{◌≡◌, ℕ, List, [], ◌∷◌, ◌++◌, map, filter, true, not, refl, sym, ◌∙◌, ap, subst}
use Rattle.std.specs.Prelude.{None}
use Rattle.std.specs.List.{AllByRecursion}
use Rattle.std.proofs.lemmas.List.{append-nil, map-append}
use Rattle.hold_base.proofs.Lists.{AllByRecursion-weaken, filter-all}
use Rattle.hold_netlist.specs.Names.{wire_names, is_among}
use Rattle.hold_netlist.specs.Doubles.{first_repeat}
use Rattle.hold_netlist.specs.declared.wire.Wire.{Wire}
use Rattle.hold_vsyntax.specs.declared.tree.Ident.{Ident}
use Rattle.hold_vparse.specs.Lines.{WireLine, wire_lines, line_of, as_declared}
use Rattle.hold_vparse.specs.Nets.{names, port_idents, declared_names, uses, first_uses, wire, port_wires, other_wires, implicit_wires, nets}
use Rattle.hold_vparse.proofs.DeclaredWires.{IsAmongWires, line_names, wire_of_port, wire_of_line, names_of_ports}
use Rattle.hold_vparse.proofs.NameLists.{NoneAmong, Differ, unrepeated, unrepeated-append, is_among_right}
use Rattle.hold_vround.proofs.Statements.{Statements, items_of, module_of, body_lines_of, wire_lines_of}
use Rattle.hold_vround.proofs.PortLines.{ports_as_lines}

abbrev pub wire_line_names : List WireLine → List (List ℕ)
wire_line_names ls = names (map (λ (l : WireLine). l.name) ls)

pub record IsInOrder (s : Statements) (wires : List Wire) : Type 0 where
  pub listed_names : names s.listed ≡ line_names s.ports
  pub split : wires ≡ map wire_of_port s.ports ++ map wire_of_line s.wires
  pub once : first_repeat [] (wire_names wires) ≡ None
  pub used : AllByRecursion (IsAmongWires wires) (uses (module_of s))

names_of_wires : (ls : List WireLine) → wire_names (map wire_of_line ls) ≡ wire_line_names ls
names_of_wires [] = refl
names_of_wires (l ∷ ls) = ap (λ r. l.name.name ∷ r) (names_of_wires ls)

pub names_split : (s : Statements) (wires : List Wire) → wires ≡ map wire_of_port s.ports ++ map wire_of_line s.wires → wire_names wires ≡ line_names s.ports ++ wire_line_names s.wires
names_split s wires split =
    let all = ap wire_names split in
    let apart = map-append (λ (w : Wire). w.name) (map wire_of_port s.ports) (map wire_of_line s.wires) in
    let ports = names_of_ports s.ports in
    let others = names_of_wires s.wires in
    cc

-- ports and other wires have different names
pub record AreApart (ports others : List (List ℕ)) : Type 0 where
  pub ports_differ : Differ ports
  pub first_ports : first_repeat [] ports ≡ None
  pub first_others : first_repeat ports others ≡ None
  pub others_apart : NoneAmong others ports

pub apart : (s : Statements) (wires : List Wire) → IsInOrder s wires → AreApart (line_names s.ports) (wire_line_names s.wires)
apart s wires h =
    let once = subst (λ ns. first_repeat [] ns ≡ None) (names_split s wires h.split) h.once in
    let parts = unrepeated-append [] (line_names s.ports) (wire_line_names s.wires) once in
    record {
      ports_differ = (unrepeated [] (line_names s.ports) parts.0).1;
      first_ports = parts.0;
      first_others = parts.1;
      others_apart = (unrepeated (line_names s.ports) (wire_line_names s.wires) parts.1).0;
    }

-- the wires of the ports
wires_of_ports : (s : Statements) (wires : List Wire) → IsInOrder s wires → port_wires (module_of s) ≡ map wire_of_port s.ports
wires_of_ports s wires h =
    let lines = ap (λ ls. map wire_of_port (map (λ (i : Ident). as_declared i (line_of i.name ls)) s.listed)) (body_lines_of s) in
    lines ∙ ports_as_lines wire_of_port (λ direction range i j e. ap (λ n. wire n range) e) s.listed s.ports h.listed_names
    (subst Differ (sym h.listed_names) (apart s wires h).ports_differ)

names_listed : (s : Statements) → names (port_idents (module_of s)) ≡ names s.listed
names_listed s = ap names (append-nil s.listed)

-- the other wires
others_pass : (ports : List (List ℕ)) (ls : List WireLine) → NoneAmong (wire_line_names ls) ports → AllByRecursion (λ (l : WireLine). not (is_among l.name.name ports) ≡ true) ls
others_pass ports [] h = tt
others_pass ports (l ∷ ls) h = (ap not h.0, others_pass ports ls h.1)

wires_of_others : (s : Statements) (wires : List Wire) → IsInOrder s wires → other_wires (module_of s) ≡ map wire_of_line s.wires
wires_of_others s wires h =
    let known = names_listed s ∙ h.listed_names in
    ap (λ ns. map wire_of_line (filter (λ (l : WireLine). not (is_among l.name.name ns)) (wire_lines (items_of s)))) known
    ∙ ap (λ ls. map wire_of_line (filter (λ (l : WireLine). not (is_among l.name.name (line_names s.ports))) ls)) (wire_lines_of s)
    ∙ ap (map wire_of_line) (filter-all (λ (l : WireLine). not (is_among l.name.name (line_names s.ports))) s.wires (others_pass (line_names s.ports) s.wires (apart s wires h).others_apart))

-- what is declared
names_declared : (s : Statements) (wires : List Wire) → IsInOrder s wires → declared_names (module_of s) ≡ line_names s.ports ++ wire_names wires
names_declared s wires h =
    let known = names_listed s ∙ h.listed_names in
    let ports = ap line_names (body_lines_of s) in
    let others = ap wire_line_names (wire_lines_of s) in
    let all = names_split s wires h.split in
    cc

pub declared : (s : Statements) (wires : List Wire) → IsInOrder s wires → (name : List ℕ) → is_among name (wire_names wires) ≡ true → is_among name (declared_names (module_of s)) ≡ true
declared s wires h name among = rw (names_declared s wires h) (is_among_right name (line_names s.ports) (wire_names wires) among)

no_first_use : (seen : List (List ℕ)) (is : List Ident) → AllByRecursion (λ (i : Ident). is_among i.name seen ≡ true) is → first_uses seen is ≡ []
no_first_use seen [] h = refl
no_first_use seen (i ∷ is) h = let known = h.0 in rw known (no_first_use seen is h.1)

none_implicit : (s : Statements) (wires : List Wire) → IsInOrder s wires → implicit_wires (module_of s) ≡ []
none_implicit s wires h =
    let seen = declared_names (module_of s) in
    ap (map (λ (i : Ident). wire i.name None))
    (no_first_use seen (uses (module_of s)) (AllByRecursion-weaken (IsAmongWires wires) (λ (i : Ident). is_among i.name seen ≡ true) (λ i among. declared s wires h i.name among) (uses (module_of s)) h.used))

-- the nets are the wires
pub nets_of : (s : Statements) (wires : List Wire) → IsInOrder s wires → nets (module_of s) ≡ wires
nets_of s wires h =
    let ports = wires_of_ports s wires h in
    let others = wires_of_others s wires h in
    let implicit = none_implicit s wires h in
    let split = h.split in
    let end = append-nil (map wire_of_line s.wires) in
    cc
