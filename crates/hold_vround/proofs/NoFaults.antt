-- A module that is written as a valid netlist's parts has no fault.
use Rattle.std.proofs.Common.{◌≡◌, ℕ, List, [], ◌∷◌, map, flat_map, filter, true, false, not, refl, sym, ◌∙◌, ap, subst, is_none}
use Rattle.std.specs.Prelude.{Option, Some, None}
use Rattle.std.specs.List.{AllByRecursion, list_any}
use Rattle.std.proofs.lemmas.Bool.{le-ltb, or_from}
use Rattle.hold_base.proofs.Lists.{AllByRecursion-weaken, filter-none}
use Rattle.hold_netlist.specs.Design.{Design}
use Rattle.hold_netlist.specs.Names.{is_among}
use Rattle.hold_netlist.specs.WellFormed.{HasBoundsInLimit, IsWrittenWire}
use Rattle.hold_netlist.specs.Limits.{first_passed_limit}
use Rattle.hold_netlist.specs.Valid.{IsValid}
use Rattle.hold_netlist.specs.declared.wire.Wire.{Wire}
use Rattle.hold_vsyntax.specs.declared.tree.Ident.{Ident}
use Rattle.hold_vparse.specs.Lines.{PortLine, WireLine, wire_lines, line_of, assignments, instances}
use Rattle.hold_vparse.specs.Nets.{names, nets}
use Rattle.hold_vparse.specs.PortFaults.{undirected, unlisted, unlike_line, unlike, misdeclared}
use Rattle.hold_vparse.specs.BitFaults.{misfit_assignment, misfit_named, misfit}
use Rattle.hold_vparse.specs.NameFaults.{is_large_range, has_large_bound, first_limit, first_name_fault}
use Rattle.hold_vparse.proofs.DeclaredWires.{line_names}
use Rattle.hold_vparse.proofs.NameLists.{NoneAmong}
use Rattle.hold_vround.proofs.Pairs.{none-Each}
use Rattle.hold_vround.proofs.PortLines.{each_among, line_of_none, line_of_some}
use Rattle.hold_vround.proofs.BitParts.{IsAssigned, well_assigned}
use Rattle.hold_vround.proofs.Placed.{IsPlaced, well_placed}
use Rattle.hold_vround.proofs.Statements.{Statements, items_of, module_of, body_lines_of, wire_lines_of, assignments_of, instances_of}
use Rattle.hold_vround.proofs.DeclaredNets.{wire_line_names, IsInOrder, apart, nets_of}
use Rattle.hold_vround.proofs.DeclaredDesign.{IsWrittenAs, in_order, declares}
use Rattle.hold_vround.proofs.NoDoubles.{none_doubled}

-- each listed port has a line
all_directed : (s : Statements) → names s.listed ≡ line_names s.ports → undirected (module_of s) ≡ []
all_directed s same =
    ap (λ ls. filter (λ (i : Ident). is_none (line_of i.name ls)) s.listed) (body_lines_of s)
    ∙ filter-none (λ (i : Ident). is_none (line_of i.name s.ports)) s.listed
    (AllByRecursion-weaken (λ (i : Ident). is_among i.name (names s.listed) ≡ true) (λ (i : Ident). is_none (line_of i.name s.ports) ≡ false)
    (λ i among. line_of_some i.name s.ports (subst (λ ns. is_among i.name ns ≡ true) same among)) s.listed (each_among s.listed))

-- each line's port is listed
all_listed : (s : Statements) → names s.listed ≡ line_names s.ports → unlisted (module_of s) ≡ []
all_listed s same =
    let idents = map (λ (l : PortLine). l.name) s.ports in
    ap (λ ls. filter (λ (i : Ident). not (is_among i.name (names s.listed))) (map (λ (l : PortLine). l.name) ls)) (body_lines_of s)
    ∙ filter-none (λ (i : Ident). not (is_among i.name (names s.listed))) idents
    (AllByRecursion-weaken (λ (i : Ident). is_among i.name (names idents) ≡ true) (λ (i : Ident). not (is_among i.name (names s.listed)) ≡ false)
    (λ i among. ap not (subst (λ ns. is_among i.name ns ≡ true) (sym same) among)) idents (each_among idents))

-- no wire is declared beside a port
none_beside : (ports : List PortLine) (ws : List WireLine) → NoneAmong (wire_line_names ws) (line_names ports) → flat_map (λ (w : WireLine). unlike_line w (line_of w.name.name ports)) ws ≡ []
none_beside ports [] h = refl
none_beside ports (w ∷ ws) h = let none = line_of_none w.name.name ports h.0 in rw none (none_beside ports ws h.1)

none_unlike : (s : Statements) → NoneAmong (wire_line_names s.wires) (line_names s.ports) → unlike (module_of s) ≡ []
none_unlike s h =
    ap (λ ls. flat_map (λ (w : WireLine). unlike_line w (line_of w.name.name ls)) (wire_lines (items_of s))) (body_lines_of s)
    ∙ ap (flat_map (λ (w : WireLine). unlike_line w (line_of w.name.name s.ports))) (wire_lines_of s)
    ∙ none_beside s.ports s.wires h

none_misdeclared : (d : Design) (s : Statements) → IsInOrder s d.wires → misdeclared (module_of s) ≡ []
none_misdeclared d s o =
    let directed = all_directed s o.listed_names in
    let listed = all_listed s o.listed_names in
    let alike = none_unlike s (apart s d.wires o).others_apart in
    rw (directed, listed, alike) refl

-- each bit is there, and the widths are the same
none_misfit : (d : Design) (s : Statements) → IsInOrder s d.wires → IsWrittenAs d s → misfit (module_of s) ≡ []
none_misfit d s o h =
    let wires = nets_of s d.wires o in
    let assigned = ap (λ ws. flat_map (misfit_assignment ws) (assignments (items_of s))) wires ∙ ap (flat_map (misfit_assignment d.wires)) (assignments_of s)
    ∙ none-Each (IsAssigned d.wires) (misfit_assignment d.wires) (λ a x e. (well_assigned d.wires a x e).fits) d.assigns s.assigned h.each_assigned in
    let placed = ap (λ ws. flat_map (misfit_named ws) (instances (items_of s))) wires ∙ ap (flat_map (misfit_named d.wires)) (instances_of s)
    ∙ none-Each (IsPlaced d.wires) (misfit_named d.wires) (well_placed d.wires) d.insts s.placed h.each_placed in
    rw (assigned, placed) refl

-- no bound is too large
in_limit : (range : Option (ℕ × ℕ)) → HasBoundsInLimit range → is_large_range range ≡ false
in_limit None h = refl
in_limit (Some r) h = or_from _ _ (le-ltb 1048575 r.0 h.0) (le-ltb 1048575 r.1 h.1)

none_large : (wires : List Wire) → AllByRecursion IsWrittenWire wires → list_any has_large_bound wires ≡ false
none_large [] h = refl
none_large (w ∷ ws) h = or_from (has_large_bound w) (list_any has_large_bound ws) (in_limit w.range h.0.bounds) (none_large ws h.1)

none_passed : (d : Design) (s : Statements) → IsValid d → IsWrittenAs d s → first_limit (module_of s) ≡ None
none_passed d s valid h =
    let wires = nets_of s d.wires (in_order d s valid.names h) in
    let whole = declares d s valid.names h in
    let small : list_any has_large_bound (nets (module_of s)) ≡ false = ap (list_any has_large_bound) wires ∙ none_large d.wires valid.well_formed.wires in
    rw small (ap first_passed_limit whole ∙ valid.counts)

-- the module has no fault
pub no_fault : (d : Design) (s : Statements) → IsValid d → IsWrittenAs d s → first_name_fault (module_of s) ≡ None
no_fault d s valid h =
    let o = in_order d s valid.names h in
    let doubles = none_doubled d s valid.names h in
    let ports = none_misdeclared d s o in
    let bits = none_misfit d s o h in
    let limits = none_passed d s valid h in
    rw (doubles, ports, bits, limits) refl
