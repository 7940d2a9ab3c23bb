-- The ranges of nets, from those of the lines.
use Rattle.std.proofs.Common.{◌≡◌, ℕ, ◌+◌, ◌-◌, ◌<◌, ◌≤◌, List, [], ◌∷◌, ◌++◌, Bool, true, false, cond, not, refl, sym, ap, ◌∙◌, map, length, drop, get_or, replicate, append_assoc, arith}
use Rattle.std.specs.Prelude.{Option, None, Some, slice_get, unwrap_or}
use Rattle.std.specs.List.{filter}
use Rattle.std.specs.Option.{option_map}
use Rattle.std.proofs.lemmas.List.{map-append, append-nil, length-map, length-append, length-replicate}
use Rattle.std.proofs.Math.ListN.{drop_of_length-le}
use Rattle.std.proofs.lemmas.Option.{slice_get-map, slice_get_read}
use Rattle.hold_base.proofs.Lists.{drop-here}
use Rattle.hold_netlist.specs.Names.{is_among}
use Rattle.hold_netlist.specs.declared.wire.Wire.{Wire}
use Rattle.hold_vsyntax.specs.declared.tree.Ident.{Ident}
use Rattle.hold_vsyntax.specs.declared.tree.Module.{Module}
use Rattle.hold_vparse.specs.declared.lines.NamedWire.{NamedWire}
use Rattle.hold_vparse.specs.inner.Bounds.{Hold, Grows}
use Rattle.hold_vparse.specs.inner.Flat.{seen_range, seen_wire, seen_wires}
use Rattle.hold_vparse.specs.inner.Index.{at_place, place_of}
use Rattle.hold_vparse.specs.Lines.{PortLine, WireLine, line_of, as_declared, ports_of, header_lines, body_lines, wire_lines}
use Rattle.hold_vparse.specs.Nets.{names, nets, port_idents, first_uses, declared_names, uses, other_wires, implicit_wires, port_wires, wire}
use Rattle.hold_vparse.specs.inner.Ranges.{RangeLists, range_lists, with_nets, line_range, port_ranges, wire_ranges, net_ranges, other_ranges, ranges_of}
use Rattle.hold_vparse.proofs.LineLemmas.{line_of-some, line_of-none}
use Rattle.hold_vparse.proofs.PlaceLemmas.{Hold-grown}

-- the lines' ranges by their places in the whole table
held : (table : List (ℕ × ℕ)) (list : List (Option ℕ)) (rs : List (Option (ℕ × ℕ))) → Hold table list rs → map (at_place table) list ≡ rs
held table list rs h = ap (λ (t : List (ℕ × ℕ)). map (at_place t) list) (sym (append-nil table)) ∙ h.behind []

pub lines_whole : (first table : List (ℕ × ℕ)) (ports wires : List (Option ℕ)) (ps ws : List (Option (ℕ × ℕ))) (made : RangeLists) → Hold first ports ps → Grows first table → Hold table wires ws
    → made ≡ range_lists (map (at_place table) ports) (map (at_place table) wires) [] → made ≡ range_lists ps ws []
lines_whole first table ports wires ps ws made hp g hw is =
    is ∙ ap (λ rs. range_lists rs (map (at_place table) wires) []) (held table ports ps (Hold-grown first table ports ps hp g))
    ∙ ap (λ rs. range_lists ps rs []) (held table wires ws hw)

-- the range of a port of a plain list
declared_range : (name : Ident) (line : Option PortLine) → (as_declared name line).range ≡ unwrap_or (option_map (λ (l : PortLine). l.range) line) None
declared_range name None = refl
declared_range name (Some l) = refl

pub plain_range-some : (ports : List (Option (ℕ × ℕ))) (lines : List PortLine) (name : Ident) (n : ℕ) → ports ≡ port_ranges lines → place_of name.name (names (map (λ (l : PortLine). l.name) lines)) ≡ Some n
    → line_range ports n ≡ (as_declared name (line_of name.name lines)).range
plain_range-some ports lines name n are at =
    ap (λ (rs : List (Option (ℕ × ℕ))). line_range rs n) are
    ∙ ap (λ (o : Option (Option (ℕ × ℕ))). unwrap_or o None) (slice_get-map (λ (l : PortLine). l.range) lines n)
    ∙ ap (λ (o : Option PortLine). unwrap_or (option_map (λ (l : PortLine). l.range) o) None) (sym (line_of-some name.name lines n at))
    ∙ sym (declared_range name (line_of name.name lines))

pub plain_range-none : (lines : List PortLine) (name : Ident) → place_of name.name (names (map (λ (l : PortLine). l.name) lines)) ≡ None → None ≡ (as_declared name (line_of name.name lines)).range
plain_range-none lines name at = sym (ap (λ (o : Option PortLine). (as_declared name o).range) (line_of-none name.name lines at))

pub with_nets-append : (r : RangeLists) (xs ys : List (Option (ℕ × ℕ))) → with_nets (with_nets r xs) ys ≡ with_nets r (xs ++ ys)
with_nets-append r xs ys = ap (range_lists r.ports r.wires) (append_assoc r.nets xs ys)

pub with_nets-none : (r : RangeLists) → with_nets r [] ≡ r
with_nets-none r = ap (range_lists r.ports r.wires) (append-nil r.nets)

-- one net more
pub nets_step : (r longer whole : RangeLists) (here rest left : List (Option (ℕ × ℕ))) → longer ≡ with_nets r here → left ≡ here ++ rest → with_nets r left ≡ whole → with_nets longer rest ≡ whole
nets_step r longer whole here rest left put are so_far =
    ap (λ (s : RangeLists). with_nets s rest) put ∙ with_nets-append r here rest ∙ ap (with_nets r) (sym are) ∙ so_far

module _ {X : Type 0} (ranges : List X → List (Option (ℕ × ℕ))) (none : ranges [] ≡ []) where
  pub nets_end : (r whole : RangeLists) (xs : List X) (i : ℕ) → length xs ≤ i → with_nets r (ranges (drop i xs)) ≡ whole → r ≡ whole
  nets_end r whole xs i past so_far = sym (with_nets-none r) ∙ ap (with_nets r) (sym (ap ranges (drop_of_length-le xs past) ∙ none)) ∙ so_far

-- a wire line's range by its place
pub wire_range : (ranges : List (Option (ℕ × ℕ))) (lines : List NamedWire) (i : ℕ) (w : NamedWire) → ranges ≡ wire_ranges (seen_wires lines) → i < length lines → w ≡ get_or lines i w
    → line_range ranges i ≡ seen_range w.range
wire_range ranges lines i w are within is =
    let here : slice_get lines i ≡ Some w = slice_get_read lines (length lines) i w refl within is in
    ap (λ (rs : List (Option (ℕ × ℕ))). line_range rs i) are
    ∙ ap (λ (o : Option (Option (ℕ × ℕ))). unwrap_or o None) (slice_get-map (λ (l : WireLine). l.range) (seen_wires lines) i ∙ ap (option_map (λ (l : WireLine). l.range)) (slice_get-map seen_wire lines i ∙ ap (option_map seen_wire) here))

-- the other wires, one line further
pub other_ranges-in : (headed : List (List ℕ)) (lines : List NamedWire) (i : ℕ) (w : NamedWire) → i < length lines → w ≡ get_or lines i w → is_among w.name.now.name headed ≡ true
    → other_ranges headed (seen_wires (drop i lines)) ≡ [] ++ other_ranges headed (seen_wires (drop (i + 1) lines))
other_ranges-in headed lines i w within is there =
    ap (λ ls. other_ranges headed (seen_wires ls)) (drop-here lines i w within is)
    ∙ ap (λ (b : Bool). wire_ranges (cond (not b) (seen_wire w ∷ filter (λ (l : WireLine). not (is_among l.name.name headed)) (seen_wires (drop (i + 1) lines))) (filter (λ (l : WireLine). not (is_among l.name.name headed)) (seen_wires (drop (i + 1) lines))))) there

pub other_ranges-out : (headed : List (List ℕ)) (lines : List NamedWire) (i : ℕ) (w : NamedWire) → i < length lines → w ≡ get_or lines i w → is_among w.name.now.name headed ≡ false
    → other_ranges headed (seen_wires (drop i lines)) ≡ (seen_range w.range ∷ []) ++ other_ranges headed (seen_wires (drop (i + 1) lines))
other_ranges-out headed lines i w within is apart =
    ap (λ ls. other_ranges headed (seen_wires ls)) (drop-here lines i w within is)
    ∙ ap (λ (b : Bool). wire_ranges (cond (not b) (seen_wire w ∷ filter (λ (l : WireLine). not (is_among l.name.name headed)) (seen_wires (drop (i + 1) lines))) (filter (λ (l : WireLine). not (is_among l.name.name headed)) (seen_wires (drop (i + 1) lines))))) apart

-- the ranges of a module's nets: those of its ports, of its other wires, and none
port_wire_ranges : (ls : List PortLine) → net_ranges (map (λ (l : PortLine). wire l.name.name l.range) ls) ≡ port_ranges ls
port_wire_ranges [] = refl
port_wire_ranges (l ∷ ls) = ap (λ rs. l.range ∷ rs) (port_wire_ranges ls)

wire_wire_ranges : (ls : List WireLine) → net_ranges (map (λ (l : WireLine). wire l.name.name l.range) ls) ≡ wire_ranges ls
wire_wire_ranges [] = refl
wire_wire_ranges (l ∷ ls) = ap (λ rs. l.range ∷ rs) (wire_wire_ranges ls)

scalar_ranges : (is : List Ident) → net_ranges (map (λ (i : Ident). wire i.name None) is) ≡ replicate (length is) None
scalar_ranges [] = refl
scalar_ranges (i ∷ is) = ap (λ rs. None ∷ rs) (scalar_ranges is)

abbrev scalars : Module → List Ident
scalars m = first_uses (declared_names m) (uses m)

abbrev others : Module → List (Option (ℕ × ℕ))
others m = other_ranges (names (port_idents m)) (wire_lines m.items)

ranges_of_nets : (m : Module) → net_ranges (nets m) ≡ port_ranges (ports_of m) ++ (others m ++ replicate (length (scalars m)) None)
ranges_of_nets m =
    map-append (λ (w : Wire). w.range) (port_wires m) (other_wires m ++ implicit_wires m)
    ∙ ap (λ rs. net_ranges (port_wires m) ++ rs) (map-append (λ (w : Wire). w.range) (other_wires m) (implicit_wires m))
    ∙ ap (λ rs. rs ++ (net_ranges (other_wires m) ++ net_ranges (implicit_wires m))) (port_wire_ranges (ports_of m))
    ∙ ap (λ rs. port_ranges (ports_of m) ++ (rs ++ net_ranges (implicit_wires m))) (wire_wire_ranges (filter (λ (l : WireLine). not (is_among l.name.name (names (port_idents m)))) (wire_lines m.items)))
    ∙ ap (λ rs. port_ranges (ports_of m) ++ (others m ++ rs)) (scalar_ranges (scalars m))

module _ (m : Module) (lines with_ports with_others : RangeLists) (count : ℕ) (ps ws : List (Option (ℕ × ℕ))) (wires : List WireLine) (header : List Ident)
    (lines_are : lines ≡ range_lists ps ws []) (ports_put : with_ports ≡ with_nets lines (port_ranges (ports_of m))) (others_put : with_others ≡ with_nets with_ports (other_ranges (names header) wires))
    (wires_are : wires ≡ wire_lines m.items) (header_is : header ≡ port_idents m) (many : count ≡ length (nets m)) where
  so_far : with_others ≡ range_lists ps ws (port_ranges (ports_of m) ++ others m)
  so_far =
      others_put ∙ ap (λ r. with_nets r (other_ranges (names header) wires)) (ports_put ∙ ap (λ r. with_nets r (port_ranges (ports_of m))) lines_are)
      ∙ ap (λ ls. range_lists ps ws (port_ranges (ports_of m) ++ other_ranges (names header) ls)) wires_are
      ∙ ap (λ is. range_lists ps ws (port_ranges (ports_of m) ++ other_ranges (names is) (wire_lines m.items))) header_is

  counted : count ≡ length with_others.nets + length (scalars m)
  counted = omega (
    arith,
    many,
    sym (length-map (nets m) (λ (w : Wire). w.range)) ∙ ap length (ranges_of_nets m),
    ap (λ r. length r.nets) so_far,
    length-append (port_ranges (ports_of m)) (others m ++ replicate (length (scalars m)) None),
    length-append (others m) (replicate (length (scalars m)) None),
    length-append (port_ranges (ports_of m)) (others m),
    length-replicate {A = Option (ℕ × ℕ)} (length (scalars m)) None,
  )

  pub few_nets : length with_others.nets ≤ count
  few_nets = omega (arith, counted)

  pub whole_ranges : (whole : RangeLists) → whole ≡ with_nets with_others (replicate (count - length with_others.nets) None) → ps ≡ port_ranges (header_lines m.header ++ body_lines m.items) → ws ≡ wire_ranges (wire_lines m.items)
      → whole ≡ ranges_of m
  whole_ranges whole put p w =
      let left : count - length with_others.nets ≡ length (scalars m) = omega (arith, counted) in
      put ∙ ap (λ n. with_nets with_others (replicate n None)) left ∙ ap (λ r. with_nets r (replicate (length (scalars m)) None)) so_far
      ∙ ap (range_lists ps ws) (append_assoc (port_ranges (ports_of m)) (others m) (replicate (length (scalars m)) None) ∙ sym (ranges_of_nets m))
      ∙ ap (λ rs. range_lists rs ws (net_ranges (nets m))) p ∙ ap (λ rs. range_lists (port_ranges (header_lines m.header ++ body_lines m.items)) rs (net_ranges (nets m))) w
