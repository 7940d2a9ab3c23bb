-- A module whose statements are written as a netlist's parts declares that netlist.
--
-- IsWrittenAs d s: so the statements are written.
use Rattle.std.proofs.Common.{◌≡◌, ℕ, List, [], ◌∷◌, ◌++◌, map, flat_map, sym, ◌∙◌, ap, subst}
use Rattle.std.specs.Prelude.{None}
use Rattle.std.specs.List.{AllByRecursion}
use Rattle.std.proofs.lemmas.List.Concat.{flat_map_single}
use Rattle.hold_base.proofs.Lists.{AllByRecursion-append}
use Rattle.hold_base.proofs.Options.{option_or-None}
use Rattle.hold_netlist.specs.Design.{Design, design}
use Rattle.hold_netlist.specs.Names.{wire_names}
use Rattle.hold_netlist.specs.Doubles.{first_repeat, first_double_in_insts, first_double_name}
use Rattle.hold_netlist.specs.declared.wire.Direction.{Direction}
use Rattle.hold_netlist.specs.declared.wire.Port.{Port}
use Rattle.hold_vsyntax.specs.declared.tree.Ident.{Ident}
use Rattle.hold_vsyntax.specs.declared.tree.Assignment.{Assignment}
use Rattle.hold_vsyntax.specs.declared.tree.Instance.{Instance}
use Rattle.hold_vparse.specs.Lines.{line_of, as_declared, ports_of, assignments, instances}
use Rattle.hold_vparse.specs.Nets.{names, used_in_instance, uses}
use Rattle.hold_vparse.specs.Declares.{port, inst, assigned, design_of}
use Rattle.hold_vparse.proofs.DeclaredWires.{IsAmongWires, line_names, wire_of_port, wire_of_line}
use Rattle.hold_vparse.proofs.NameLists.{Differ}
use Rattle.hold_vround.proofs.Pairs.{Each, map-Each, flat_map-Each, all-Each}
use Rattle.hold_vround.proofs.BitParts.{IsAssigned, well_assigned}
use Rattle.hold_vround.proofs.Placed.{IsPlaced, same_inst, placed_among}
use Rattle.hold_vround.proofs.Statements.{Statements, module_of, items_of, body_lines_of, assignments_of, instances_of, uses_of}
use Rattle.hold_vround.proofs.PortLines.{ports_as_lines}
use Rattle.hold_vround.proofs.DeclaredNets.{IsInOrder, apart, nets_of}

pub record IsWrittenAs (d : Design) (s : Statements) : Type 0 where
  pub module_named : s.name.name ≡ d.name
  pub same_names : names s.listed ≡ line_names s.ports
  pub same_ports : map port s.ports ≡ d.ports
  pub same_wires : d.wires ≡ map wire_of_port s.ports ++ map wire_of_line s.wires
  pub each_assigned : Each (IsAssigned d.wires) d.assigns s.assigned
  pub each_placed : Each (IsPlaced d.wires) d.insts s.placed

-- each left side is a wire's
pub lefts_among : (d : Design) (s : Statements) → IsWrittenAs d s → AllByRecursion (IsAmongWires d.wires) (map (λ (a : Assignment). a.left.net) s.assigned)
lefts_among d s h =
    subst (AllByRecursion (IsAmongWires d.wires)) (flat_map_single (λ (a : Assignment). a.left.net) s.assigned)
    (all-Each (IsAssigned d.wires) (IsAmongWires d.wires) (λ (a : Assignment). a.left.net ∷ []) (λ a x e. ((well_assigned d.wires a x e).among, tt)) d.assigns s.assigned h.each_assigned)

-- each name that is used is a wire's
all_used : (d : Design) (s : Statements) → IsWrittenAs d s → AllByRecursion (IsAmongWires d.wires) (uses (module_of s))
all_used d s h =
    let pins : AllByRecursion (IsAmongWires d.wires) (flat_map (λ (i : Ident × Instance). used_in_instance i.1) s.placed) =
    all-Each (IsPlaced d.wires) (IsAmongWires d.wires) (λ (i : Ident × Instance). used_in_instance i.1) (placed_among d.wires) d.insts s.placed h.each_placed in
    subst (AllByRecursion (IsAmongWires d.wires)) (sym (uses_of s))
    (AllByRecursion-append (IsAmongWires d.wires) (map (λ (a : Assignment). a.left.net) s.assigned) (flat_map (λ (i : Ident × Instance). used_in_instance i.1) s.placed) (lefts_among d s h) pins)

pub in_order : (d : Design) (s : Statements) → first_double_name d ≡ None → IsWrittenAs d s → IsInOrder s d.wires
in_order d s once h = record {
  listed_names = h.same_names;
  split = h.same_wires;
  once = (option_or-None (first_repeat [] (wire_names d.wires)) (first_double_in_insts (wire_names d.wires) d.insts) once).0;
  used = all_used d s h;
}

ports_read : (d : Design) (s : Statements) → IsInOrder s d.wires → IsWrittenAs d s → map port (ports_of (module_of s)) ≡ d.ports
ports_read d s o h =
    ap (λ ls. map port (map (λ (i : Ident). as_declared i (line_of i.name ls)) s.listed)) (body_lines_of s)
    ∙ ports_as_lines port (λ direction range i j e. ap (λ n. port_of n direction) e) s.listed s.ports h.same_names
    (subst Differ (sym h.same_names) (apart s d.wires o).ports_differ)
    ∙ h.same_ports
  where
    port_of : List ℕ → Direction → Port
    port_of name direction = record { name = name; direction = direction }

-- the module declares the netlist
pub declares : (d : Design) (s : Statements) → first_double_name d ≡ None → IsWrittenAs d s → design_of (module_of s) ≡ d
declares d s once h =
    let o = in_order d s once h in
    let wires = nets_of s d.wires o in
    let ports = ports_read d s o h in
    let insts = ap (λ ws. map (inst ws) (instances (items_of s))) wires ∙ ap (map (inst d.wires)) (instances_of s)
    ∙ map-Each (IsPlaced d.wires) (inst d.wires) (same_inst d.wires) d.insts s.placed h.each_placed in
    let assigns = ap (λ ws. flat_map (assigned ws) (assignments (items_of s))) wires ∙ ap (flat_map (assigned d.wires)) (assignments_of s)
    ∙ flat_map-Each (IsAssigned d.wires) (assigned d.wires) (λ a x e. (well_assigned d.wires a x e).is) d.assigns s.assigned h.each_assigned in
    let named = h.module_named in
    let whole : design_of (module_of s) ≡ design d.name d.ports d.wires d.insts d.assigns = cc in
    whole
