-- Texts that are joined: the first, and then each other one after a comma.
use Rattle.std.proofs.Common.{◌≡◌, ℕ, ◌≤◌, ◌-◌, List, [], ◌∷◌, ◌++◌, length, get_or, drop, take, map, ap, sym, arith, ◌∙◌}
use Rattle.std.proofs.lemmas.List.{append-nil, append_assoc, take_all}
use Rattle.std.specs.Prelude.{codes}
use Rattle.hold_netlist.specs.declared.wire.Wire.{Wire}
use Rattle.hold_netlist.specs.declared.wire.Port.{Port}
use Rattle.hold_netlist.specs.declared.inst.Pin.{Pin}
use Rattle.hold_netlist.specs.CanonicalText.{joined, spelled, connection_text}
use Rattle.hold_netlist.specs.Names.{port_names}
use Rattle.hold_vwrite.specs.inner.Joined.{each_after_comma}

joined_cons : (t : List ℕ) (ts : List (List ℕ)) → joined (t ∷ ts) ≡ t ++ each_after_comma ts
joined_cons t [] = sym (append-nil t)
joined_cons t (u ∷ us) =
    append_assoc t (codes ", ") (joined (u ∷ us)) ∙ ap (λ (rest : List ℕ). t ++ (codes ", " ++ rest)) (joined_cons u us)
    ∙ ap (λ (rest : List ℕ). t ++ rest) (sym (append_assoc (codes ", ") u (each_after_comma us)))

joined_after : (so_far front t : List ℕ) (ts : List (List ℕ)) → front ≡ so_far ++ t → front ++ each_after_comma ts ≡ so_far ++ joined (t ∷ ts)
joined_after so_far front t ts e =
    ap (λ (f : List ℕ). f ++ each_after_comma ts) e ∙ append_assoc so_far t (each_after_comma ts) ∙ ap (λ (rest : List ℕ). so_far ++ rest) (sym (joined_cons t ts))

pub joined_ports : (so_far front : List ℕ) (ports : List Port) (p : Port) → 1 ≤ length ports → p ≡ get_or ports 0 p → front ≡ so_far ++ spelled p.name
    → front ++ each_after_comma (map spelled (port_names (take (length ports - 1) (drop 1 ports)))) ≡ so_far ++ joined (map spelled (port_names ports))
joined_ports so_far front [] p h e w = absurd (omega arith)
joined_ports so_far front (q ∷ qs) p h e w =
    ap (λ (l : List Port). front ++ each_after_comma (map spelled (port_names l))) (take_all (length (q ∷ qs) - 1) qs (omega arith))
    ∙ joined_after so_far front (spelled q.name) (map spelled (port_names qs)) (w ∙ ap (λ (x : Port). so_far ++ spelled x.name) e)

pub joined_connections : (so_far front : List ℕ) (wires : List Wire) (pins : List Pin) (p : Pin) → 1 ≤ length pins → p ≡ get_or pins 0 p → front ≡ so_far ++ connection_text wires p
    → front ++ each_after_comma (map (connection_text wires) (take (length pins - 1) (drop 1 pins))) ≡ so_far ++ joined (map (connection_text wires) pins)
joined_connections so_far front wires [] p h e w = absurd (omega arith)
joined_connections so_far front wires (q ∷ qs) p h e w =
    ap (λ (l : List Pin). front ++ each_after_comma (map (connection_text wires) l)) (take_all (length (q ∷ qs) - 1) qs (omega arith))
    ∙ joined_after so_far front (connection_text wires q) (map (connection_text wires) qs) (w ∙ ap (λ (x : Pin). so_far ++ connection_text wires x) e)
