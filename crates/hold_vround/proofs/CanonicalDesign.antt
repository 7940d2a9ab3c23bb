-- The tree of a valid netlist's canonical text has no fault, and declares that netlist.
--
-- statements_of d: the statements of that tree.
use Rattle.std.proofs.Common.{◌≡◌, ℕ, ◌+◌, [], ◌++◌, map, flat_map, drop, length, refl, sym, ◌∙◌, ap}
use Rattle.std.specs.Prelude.{None}
use Rattle.std.proofs.lemmas.List.{take-append-drop}
use Rattle.hold_base.proofs.Options.{option_or-None}
use Rattle.hold_netlist.specs.CanonicalText.{spelled, module_line, port_lines, wire_line, assign_line}
use Rattle.hold_netlist.specs.Design.{Design}
use Rattle.hold_netlist.specs.Names.{port_names, wire_names}
use Rattle.hold_netlist.specs.Doubles.{first_repeat, first_double_in_insts}
use Rattle.hold_netlist.specs.Valid.{IsValid}
use Rattle.hold_vsyntax.specs.Symbols.{ident}
use Rattle.hold_vparse.specs.Lines.{body_lines, wire_lines, assignments, instances}
use Rattle.hold_vparse.specs.Declares.{design_of}
use Rattle.hold_vparse.specs.NameFaults.{first_name_fault}
use Rattle.hold_vparse.proofs.DeclaredWires.{wire_of_port, wire_of_line}
use Rattle.hold_vround.proofs.CanonicalTree.{names_at, port_items, wire_items, assign_items, inst_items, tree_of}
use Rattle.hold_vparse.proofs.NameLists.{Differ, unrepeated}
use Rattle.hold_vround.proofs.Statements.{Statements, module_of}
use Rattle.hold_vround.proofs.TreeParts.{names-at, port_statements, wire_statements, assign_statements, inst_statements, HaveNames, port_lines_names, port_lines_ports, port_lines_wires, wire_lines_wires}
use Rattle.hold_vround.proofs.TreeBits.{assignments_are, instances_are}
use Rattle.hold_vround.proofs.DeclaredDesign.{IsWrittenAs, declares}
use Rattle.hold_vround.proofs.NoFaults.{no_fault}

-- where the lines of each kind begin
abbrev ports_at : Design → ℕ
ports_at d = length (module_line d.name d.ports)

abbrev wires_at : Design → ℕ
wires_at d = ports_at d + length (port_lines d.ports d.wires)

abbrev assigns_at : Design → ℕ
assigns_at d = ports_at d + (length (port_lines d.ports d.wires) + length (flat_map wire_line (drop (length d.ports) d.wires)))

abbrev insts_at : Design → ℕ
insts_at d = ports_at d + (length (port_lines d.ports d.wires) + (length (flat_map wire_line (drop (length d.ports) d.wires)) + length (flat_map (assign_line d.wires) d.assigns)))

abbrev pub statements_of : Design → Statements
statements_of d = record {
  name = ident d.name 7;
  listed = names_at (7 + (length (spelled d.name) + 1)) (port_names d.ports);
  ports = body_lines (port_items (ports_at d) d.ports d.wires);
  wires = wire_lines (wire_items (wires_at d) (drop (length d.ports) d.wires));
  assigned = assignments (assign_items (assigns_at d) d.wires d.assigns);
  placed = instances (inst_items (insts_at d) d.wires d.insts);
}

statements_are : (d : Design) → module_of (statements_of d) ≡ tree_of d
statements_are d =
    let ports = port_statements d.ports d.wires (ports_at d) in
    let wires = wire_statements (drop (length d.ports) d.wires) (wires_at d) in
    let assigned = assign_statements d.wires d.assigns (assigns_at d) in
    let placed = inst_statements d.wires d.insts (insts_at d) in
    cc

wires_are : (d : Design) → HaveNames d.ports d.wires → d.wires ≡ map wire_of_port (statements_of d).ports ++ map wire_of_line (statements_of d).wires
wires_are d named =
    let ports = port_lines_wires d.ports d.wires (ports_at d) named in
    let others = wire_lines_wires (drop (length d.ports) d.wires) (wires_at d) in
    let both = take-append-drop (length d.ports) d.wires in
    cc

written : (d : Design) → IsValid d → IsWrittenAs d (statements_of d)
written d valid =
    let first = (option_or-None (first_repeat [] (wire_names d.wires)) (first_double_in_insts (wire_names d.wires) d.insts) valid.names).0 in
    let differ : Differ (wire_names d.wires) = (unrepeated [] (wire_names d.wires) first).1 in
    let named : HaveNames d.ports d.wires = valid.well_formed.ports in
    record {
      module_named = refl;
      same_names = names-at (port_names d.ports) _ ∙ sym (port_lines_names d.ports d.wires (ports_at d) named);
      same_ports = port_lines_ports d.ports d.wires (ports_at d) named;
      same_wires = wires_are d named;
      each_assigned = assignments_are d.wires differ d.assigns (assigns_at d) valid.well_formed.assigns;
      each_placed = instances_are d.wires differ d.insts (insts_at d) valid.well_formed.insts;
    }

pub tree_declares : (d : Design) → IsValid d → design_of (tree_of d) ≡ d
tree_declares d valid = ap design_of (sym (statements_are d)) ∙ declares d (statements_of d) valid.names (written d valid)

pub tree_has_no_fault : (d : Design) → IsValid d → first_name_fault (tree_of d) ≡ None
tree_has_no_fault d valid = ap first_name_fault (sym (statements_are d)) ∙ no_fault d (statements_of d) valid (written d valid)
