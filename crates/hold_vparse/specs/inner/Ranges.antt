-- RangeLists: the ranges of port lines, of wire lines and of nets, each in order; None of a scalar. range_lists: such
--   lists of these parts.
-- with_nets r more: the same with the ranges of more nets behind.
-- line_range ranges n: the range of the line or net in that place; None also where there is no such line.
-- port_ranges lines, wire_ranges lines, net_ranges wires: the ranges of lines and nets, in order.
-- other_ranges names lines: the ranges of those wire lines whose names are none of these, in order.
-- next_range r p: the range of a later port of a header, where r is that of the port before it.
-- ranges_of m: the ranges of a module's port lines, in the header and then in the body, of its wire lines and of its nets.
use Rattle.std.specs.Prelude.{ℕ, List, ◌++◌, map, not, slice_get, unwrap_or, Option, None}
use Rattle.std.specs.List.{filter}
use Rattle.hold_netlist.specs.Names.{is_among}
use Rattle.hold_netlist.specs.declared.wire.Wire.{Wire}
use Rattle.hold_vsyntax.specs.declared.tree.Module.{Module}
use Rattle.hold_vsyntax.specs.declared.tree.NextPort.{NextPort}
use Rattle.hold_vsyntax.specs.declared.tree.NextPort.TheVariants.{Declared, Alike}
use Rattle.hold_vparse.specs.Lines.{bounds_of, PortLine, WireLine, header_lines, body_lines, wire_lines}
use Rattle.hold_vparse.specs.Nets.{nets}

pub record RangeLists : Type 0 where
  pub ports : List (Option (ℕ × ℕ))
  pub wires : List (Option (ℕ × ℕ))
  pub nets : List (Option (ℕ × ℕ))

abbrev pub range_lists : List (Option (ℕ × ℕ)) → List (Option (ℕ × ℕ)) → List (Option (ℕ × ℕ)) → RangeLists
range_lists ports wires nets = record { ports = ports; wires = wires; nets = nets }

abbrev pub with_nets : RangeLists → List (Option (ℕ × ℕ)) → RangeLists
with_nets r more = range_lists r.ports r.wires (r.nets ++ more)

abbrev pub line_range : List (Option (ℕ × ℕ)) → ℕ → Option (ℕ × ℕ)
line_range ranges n = unwrap_or (slice_get ranges n) None

abbrev pub port_ranges : List PortLine → List (Option (ℕ × ℕ))
port_ranges lines = map (λ l. l.range) lines

abbrev pub wire_ranges : List WireLine → List (Option (ℕ × ℕ))
wire_ranges lines = map (λ l. l.range) lines

abbrev pub net_ranges : List Wire → List (Option (ℕ × ℕ))
net_ranges wires = map (λ w. w.range) wires

abbrev pub other_ranges : List (List ℕ) → List WireLine → List (Option (ℕ × ℕ))
other_ranges names lines = wire_ranges (filter (λ (l : WireLine). not (is_among l.name.name names)) lines)

abbrev pub next_range : Option (ℕ × ℕ) → NextPort → Option (ℕ × ℕ)
next_range r (Declared p) = bounds_of p.range
next_range r (Alike name) = r

abbrev pub ranges_of : Module → RangeLists
ranges_of m = range_lists (port_ranges (header_lines m.header ++ body_lines m.items)) (wire_ranges (wire_lines m.items)) (net_ranges (nets m))
