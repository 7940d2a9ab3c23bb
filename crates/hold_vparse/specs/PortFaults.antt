-- undirected m: the ports of a plain list to which no line of the body gives a direction.
-- unlisted m: the identifiers in the body that are given a direction and stand in no plain list of ports.
-- port_line_of m name: the first line that gives this name a direction, in a header or in the body.
-- same_range r s: whether two ranges have the same bounds, or neither has any.
-- later i j: whichever stands later in the text.
-- unlike_line w line: the later of a wire and a port's line, where their ranges differ.
-- unlike m: of each port and a wire of its name whose range is another, the later declaration.
-- misdeclared m: the identifiers at which a port is declared otherwise than it may.
use Rattle.std.specs.Prelude.{ℕ, Bool, true, false, not, ◌&&◌, ◌==◌, List, [], ◌∷◌, ◌++◌, map, flat_map, nat_lt, is_none, if◌then◌else◌, Option, Some, None}
use Rattle.std.specs.List.{filter}
use Rattle.hold_netlist.specs.Names.{is_among}
use Rattle.hold_vsyntax.specs.declared.tree.Ident.{Ident}
use Rattle.hold_vsyntax.specs.declared.tree.Module.{Module}
use Rattle.hold_vparse.specs.Lines.{PortLine, WireLine, header_names, header_lines, body_lines, wire_lines, line_of}
use Rattle.hold_vparse.specs.Nets.{names}

abbrev pub undirected : Module → List Ident
undirected m = filter (λ (i : Ident). is_none (line_of i.name (body_lines m.items))) (header_names m.header)

abbrev pub unlisted : Module → List Ident
unlisted m = filter (λ (i : Ident). not (is_among i.name (names (header_names m.header)))) (map (λ (l : PortLine). l.name) (body_lines m.items))

abbrev pub port_line_of : Module → List ℕ → Option PortLine
port_line_of m name = line_of name (header_lines m.header ++ body_lines m.items)

abbrev pub same_range : Option (ℕ × ℕ) → Option (ℕ × ℕ) → Bool
same_range None None = true
same_range (Some r) (Some s) = r.0 == s.0 && r.1 == s.1
same_range None (Some s) = false
same_range (Some r) None = false

abbrev pub later : Ident → Ident → Ident
later i j = if nat_lt i.at j.at then j else i

abbrev pub unlike_line : WireLine → Option PortLine → List Ident
unlike_line w None = []
unlike_line w (Some l) = if same_range w.range l.range then [] else later w.name l.name ∷ []

abbrev pub unlike : Module → List Ident
unlike m = flat_map (λ (w : WireLine). unlike_line w (port_line_of m w.name.name)) (wire_lines m.items)

abbrev pub misdeclared : Module → List Ident
misdeclared m = undirected m ++ (unlisted m ++ unlike m)
