-- targets refs: what these references lead to, in order.
-- seen_ports lines, seen_wires lines: the lines, each as the tree's data that its references lead to.
-- seen_instances list: the instances behind their references, each with the name of its type.
-- seen_range, seen_port, seen_wire, seen_instance, seen_mention: what one such reference or line leads to.
-- seen_ident ident: the identifier behind a reference, as a list of one or none.
-- seen_mentions list: the mentions, each with the identifier behind its reference.
-- seen_found line: the line behind a reference, where there is one.
-- named_idents wires: the identifiers of these lines.
-- net_wire w: the wire that a line declares.
-- net_wires wires: the wires of these lines.
use Rattle.std.specs.Prelude.{ℕ, Option, Some, None, List, [], ◌∷◌, map}
use Rattle.std.specs.Borrow.{Bor}
use Rattle.hold_vsyntax.specs.declared.tree.Ident.{Ident}
use Rattle.hold_vsyntax.specs.declared.tree.Range.{Range}
use Rattle.hold_vsyntax.specs.declared.tree.Instance.{Instance}
use Rattle.hold_vparse.specs.declared.lines.Port.{Port}
use Rattle.hold_vparse.specs.declared.lines.NamedWire.{NamedWire}
use Rattle.hold_vparse.specs.declared.mentions.Mention.{Mention as Named}
use Rattle.hold_vparse.specs.DoubleNames.{Mention, mention}
use Rattle.hold_vparse.specs.inner.Roles.{seen_role}
use Rattle.hold_netlist.specs.declared.wire.Wire.{Wire}
use Rattle.hold_vparse.specs.Nets.{wire}
use Rattle.hold_vparse.specs.Lines.{PortLine, port_line, WireLine, wire_line, range_bounds}

abbrev pub targets : {X : Type 0} → List (Bor X) → List X
targets refs = map (λ r. r.now) refs

abbrev pub seen_ident : Option (Bor Ident) → List Ident
seen_ident None = []
seen_ident (Some i) = i.now ∷ []

abbrev pub seen_range : Option (Bor Range) → Option (ℕ × ℕ)
seen_range None = None
seen_range (Some r) = Some (range_bounds r.now)

abbrev pub seen_port : Port → PortLine
seen_port l = port_line l.direction (seen_range l.range) l.name.now

abbrev pub seen_ports : List Port → List PortLine
seen_ports lines = map seen_port lines

abbrev pub seen_found : Option (Bor Port) → Option PortLine
seen_found None = None
seen_found (Some l) = Some (seen_port l.now)

abbrev pub seen_wire : NamedWire → WireLine
seen_wire w = wire_line (seen_range w.range) w.name.now

abbrev pub seen_wires : List NamedWire → List WireLine
seen_wires lines = map seen_wire lines

abbrev pub seen_instance : Bor Ident × Bor Instance → Ident × Instance
seen_instance p = (p.0.now, p.1.now)

abbrev pub seen_instances : List (Bor Ident × Bor Instance) → List (Ident × Instance)
seen_instances list = map seen_instance list

abbrev pub named_idents : List NamedWire → List Ident
named_idents wires = map (λ w. w.name.now) wires

abbrev pub net_wire : NamedWire → Wire
net_wire w = wire w.name.now.name (seen_range w.range)

abbrev pub net_wires : List NamedWire → List Wire
net_wires wires = map net_wire wires

abbrev pub seen_mention : Named → Mention
seen_mention m = mention (seen_role m.role) m.name.now

abbrev pub seen_mentions : List Named → List Mention
seen_mentions list = map seen_mention list
