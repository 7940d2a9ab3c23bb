-- The statements of a canonical text's tree are written as the netlist's parts, wherever they stand.
use Rattle.std.proofs.Common.{◌≡◌, ℕ, List, [], ◌∷◌, map, take, length, refl, ap}
use Rattle.hold_netlist.specs.Names.{port_names, wire_names}
use Rattle.hold_netlist.specs.declared.wire.Port.{Port}
use Rattle.hold_netlist.specs.declared.wire.Wire.{Wire}
use Rattle.hold_netlist.specs.declared.inst.Inst.{Inst}
use Rattle.hold_netlist.specs.declared.inst.Assign.{Assign}
use Rattle.hold_vparse.specs.Lines.{body_lines, wire_lines, assignments, instances}
use Rattle.hold_vparse.specs.Nets.{names}
use Rattle.hold_vparse.specs.Declares.{port}
use Rattle.hold_vparse.proofs.DeclaredWires.{line_names, wire_of_port, wire_of_line}
use Rattle.hold_vround.proofs.CanonicalTree.{names_at, port_item, port_items, wire_item, wire_items, assign_item, assign_items, inst_item, inst_items}
use Rattle.hold_vround.proofs.Statements.{port_statement, wire_statement, assign_statement, inst_statement, same_bounds}

pub names-at : (ns : List (List ℕ)) (at : ℕ) → names (names_at at ns) ≡ ns
names-at [] at = refl
names-at (n ∷ ns) at = ap (λ r. n ∷ r) (names-at ns _)

-- each statement is that of what it declares
pub port_statements : (ps : List Port) (ws : List Wire) (at : ℕ) → map port_statement (body_lines (port_items at ps ws)) ≡ port_items at ps ws
port_statements [] ws at = refl
port_statements (p ∷ ps) [] at = refl
port_statements (p ∷ ps) (w ∷ ws) at = rw (same_bounds w.range) (ap (λ r. port_item at p w ∷ r) (port_statements ps ws _))

pub wire_statements : (ws : List Wire) (at : ℕ) → map wire_statement (wire_lines (wire_items at ws)) ≡ wire_items at ws
wire_statements [] at = refl
wire_statements (w ∷ ws) at = rw (same_bounds w.range) (ap (λ r. wire_item at w ∷ r) (wire_statements ws _))

pub assign_statements : (wires : List Wire) (xs : List Assign) (at : ℕ) → map assign_statement (assignments (assign_items at wires xs)) ≡ assign_items at wires xs
assign_statements wires [] at = refl
assign_statements wires (a ∷ xs) at = ap (λ r. assign_item at wires a ∷ r) (assign_statements wires xs _)

pub inst_statements : (wires : List Wire) (is : List Inst) (at : ℕ) → map inst_statement (instances (inst_items at wires is)) ≡ inst_items at wires is
inst_statements wires [] at = refl
inst_statements wires (i ∷ is) at = ap (λ r. inst_item at wires i ∷ r) (inst_statements wires is _)

-- the first wires have the ports' names
abbrev pub HaveNames : List Port → List Wire → Type 0
HaveNames ps ws = port_names ps ≡ take (length ps) (wire_names ws)

record HasFirstName (p : Port) (ps : List Port) (w : Wire) (ws : List Wire) : Type 0 where
  here : p.name ≡ w.name
  rest : HaveNames ps ws

first_name : (p : Port) (ps : List Port) (w : Wire) (ws : List Wire) → HaveNames (p ∷ ps) (w ∷ ws) → HasFirstName p ps w ws
first_name p ps w ws h = record { here = cc; rest = cc }

no_first_name : (p : Port) (ps : List Port) → HaveNames (p ∷ ps) [] → ⊥
no_first_name p ps h = cc

pub port_lines_names : (ps : List Port) (ws : List Wire) (at : ℕ) → HaveNames ps ws → line_names (body_lines (port_items at ps ws)) ≡ port_names ps
port_lines_names [] ws at h = refl
port_lines_names (p ∷ ps) [] at h = absurd (no_first_name p ps h)
port_lines_names (p ∷ ps) (w ∷ ws) at h = ap (λ r. p.name ∷ r) (port_lines_names ps ws _ (first_name p ps w ws h).rest)

pub port_lines_ports : (ps : List Port) (ws : List Wire) (at : ℕ) → HaveNames ps ws → map port (body_lines (port_items at ps ws)) ≡ ps
port_lines_ports [] ws at h = refl
port_lines_ports (p ∷ ps) [] at h = absurd (no_first_name p ps h)
port_lines_ports (p ∷ ps) (w ∷ ws) at h = ap (λ r. p ∷ r) (port_lines_ports ps ws _ (first_name p ps w ws h).rest)

pub port_lines_wires : (ps : List Port) (ws : List Wire) (at : ℕ) → HaveNames ps ws → map wire_of_port (body_lines (port_items at ps ws)) ≡ take (length ps) ws
port_lines_wires [] ws at h = refl
port_lines_wires (p ∷ ps) [] at h = absurd (no_first_name p ps h)
port_lines_wires (p ∷ ps) (w ∷ ws) at h =
    let first = first_name p ps w ws h in
    let here = first.here in
    rw (same_bounds w.range, here) (ap (λ r. w ∷ r) (port_lines_wires ps ws _ first.rest))

pub wire_lines_wires : (ws : List Wire) (at : ℕ) → map wire_of_line (wire_lines (wire_items at ws)) ≡ ws
wire_lines_wires [] at = refl
wire_lines_wires (w ∷ ws) at = rw (same_bounds w.range) (ap (λ r. w ∷ r) (wire_lines_wires ws _))
