-- The places that the ranges of lines have in a table that grows.
use Rattle.std.proofs.Common.{◌≡◌, ℕ, ◌+◌, ◌<◌, ◌≤◌, List, [], ◌∷◌, ◌++◌, refl, sym, ap, ◌∙◌, map, length, drop, get_or, append_assoc}
use Rattle.std.specs.Prelude.{Option, None, Some}
use Rattle.std.specs.Option.{option_copied}
use Rattle.std.specs.Borrow.{Bor}
use Rattle.std.proofs.lemmas.List.{map-append, append-nil}
use Rattle.std.proofs.Math.ListN.{drop_of_length-le}
use Rattle.hold_base.proofs.Lists.{drop-here}
use Rattle.hold_netlist.specs.declared.wire.Direction.{Direction}
use Rattle.hold_vsyntax.specs.declared.tree.BodyPorts.{BodyPorts}
use Rattle.hold_vsyntax.specs.declared.tree.BodyWires.{BodyWires}
use Rattle.hold_vsyntax.specs.declared.tree.Header.{Header}
use Rattle.hold_vsyntax.specs.declared.tree.HeaderPort.{HeaderPort}
use Rattle.hold_vsyntax.specs.declared.tree.Ident.{Ident}
use Rattle.hold_vsyntax.specs.declared.tree.Item.{Item}
use Rattle.hold_vsyntax.specs.declared.tree.Item.TheVariants.{Ports, Wires}
use Rattle.hold_vsyntax.specs.declared.tree.NextPort.{NextPort}
use Rattle.hold_vsyntax.specs.declared.tree.NextPort.TheVariants.{Declared, Alike}
use Rattle.hold_vsyntax.specs.declared.tree.Range.{Range}
use Rattle.hold_vparse.specs.inner.Bounds.{Hold, Holds, Grows}
use Rattle.hold_vparse.specs.inner.Flat.{seen_range}
use Rattle.hold_vparse.specs.inner.Index.{at_place}
use Rattle.hold_vparse.specs.Lines.{PortLine, WireLine, all, header_line, header_lines, next_lines, bounds_of, port_line, wire_line, lines_of_item, wires_of_item, body_lines, wire_lines}
use Rattle.hold_vparse.specs.inner.Ranges.{port_ranges, wire_ranges, next_range}

behind : (table longer xs more : List (ℕ × ℕ)) → longer ≡ table ++ xs → longer ++ more ≡ table ++ (xs ++ more)
behind table longer xs more e = ap (λ (t : List (ℕ × ℕ)). t ++ more) e ∙ append_assoc table xs more

-- what has a range keeps it
pub Hold-grown : (table longer : List (ℕ × ℕ)) (places : List (Option ℕ)) (rs : List (Option (ℕ × ℕ))) → Hold table places rs → Grows table longer → Hold longer places rs
Hold-grown table longer places rs h g = record {
  behind = λ more. ap (λ (t : List (ℕ × ℕ)). map (at_place t) places) (behind table longer g.more more g.behind) ∙ h.behind (g.more ++ more);
}

pub Grows-both : (table longer longest : List (ℕ × ℕ)) → Grows table longer → Grows longer longest → Grows table longest
Grows-both table longer longest g h = record { more = g.more ++ h.more; behind = h.behind ∙ behind table longer g.more h.more g.behind }

module _ {X : Type 0} (ranges : List X → List (Option (ℕ × ℕ))) (here : X → List (Option (ℕ × ℕ))) (none : ranges [] ≡ []) (cons : (x : X) (xs : List X) → ranges (x ∷ xs) ≡ here x ++ ranges xs) where
  -- one item further: the places of its ranges are put behind, and the table may have grown
  pub places_step : (table longer : List (ℕ × ℕ)) (first list list' : List (Option ℕ)) (xs : List X) (i : ℕ) (x : X) (whole : List (Option (ℕ × ℕ))) → i < length xs → x ≡ get_or xs i x → Grows table longer
      → ((more : List (ℕ × ℕ)) → map (at_place (longer ++ more)) list' ≡ map (at_place (longer ++ more)) list ++ here x)
      → ((more : List (ℕ × ℕ)) → map (at_place (table ++ more)) list ++ ranges (drop i xs) ≡ map (at_place (table ++ more)) first ++ whole)
      → (more : List (ℕ × ℕ)) → map (at_place (longer ++ more)) list' ++ ranges (drop (i + 1) xs) ≡ map (at_place (longer ++ more)) first ++ whole
  places_step table longer first list list' xs i x whole within is g put so_far more =
      let far : longer ++ more ≡ table ++ (g.more ++ more) = behind table longer g.more more g.behind in
      let rest : here x ++ ranges (drop (i + 1) xs) ≡ ranges (drop i xs) = sym (ap ranges (drop-here xs i x within is) ∙ cons x (drop (i + 1) xs)) in
      ap (λ l. l ++ ranges (drop (i + 1) xs)) (put more) ∙ append_assoc (map (at_place (longer ++ more)) list) (here x) (ranges (drop (i + 1) xs))
      ∙ ap (λ l. map (at_place (longer ++ more)) list ++ l) rest
      ∙ ap (λ (t : List (ℕ × ℕ)). map (at_place t) list ++ ranges (drop i xs)) far ∙ so_far (g.more ++ more)
      ∙ ap (λ (t : List (ℕ × ℕ)). map (at_place t) first ++ whole) (sym far)

  pub places_end : (table : List (ℕ × ℕ)) (list : List (Option ℕ)) (xs : List X) (i : ℕ) (whole : List (Option (ℕ × ℕ))) → length xs ≤ i
      → map (at_place table) list ++ ranges (drop i xs) ≡ whole → map (at_place table) list ≡ whole
  places_end table list xs i whole past so_far =
      let rest : ranges (drop i xs) ≡ [] = ap ranges (drop_of_length-le xs past) ∙ none in
      sym (append-nil (map (at_place table) list)) ∙ ap (λ l. map (at_place table) list ++ l) (sym rest) ∙ so_far

-- one place for each of some names
for_each : (table : List (ℕ × ℕ)) (place : Option ℕ) (r : Option (ℕ × ℕ)) (is : List Ident) → at_place table place ≡ r → map (at_place table) (map (λ (i : Ident). place) is) ≡ map (λ (i : Ident). r) is
for_each table place r [] h = refl
for_each table place r (i ∷ is) h = let rest = for_each table place r is h in cc

seen_copied : (range : Option (Bor Range)) → seen_range range ≡ bounds_of (option_copied range)
seen_copied None = refl
seen_copied (Some r) = refl

port_ranges-names : (d : Direction) (r : Option (ℕ × ℕ)) (is : List Ident) → map (λ (i : Ident). r) is ≡ port_ranges (map (port_line d r) is)
port_ranges-names d r [] = refl
port_ranges-names d r (i ∷ is) = ap (λ rs. r ∷ rs) (port_ranges-names d r is)

wire_ranges-names : (r : Option (ℕ × ℕ)) (is : List Ident) → map (λ (i : Ident). r) is ≡ wire_ranges (map (wire_line r) is)
wire_ranges-names r [] = refl
wire_ranges-names r (i ∷ is) = ap (λ rs. r ∷ rs) (wire_ranges-names r is)

placed : (table : List (ℕ × ℕ)) (list list' : List (Option ℕ)) (place : Option ℕ) (lent : Option (Bor Range)) (range : Option Range) (is : List Ident) (more : List (ℕ × ℕ))
    → Holds table place (seen_range lent) → option_copied lent ≡ range → list' ≡ list ++ map (λ (i : Ident). place) is
    → map (at_place (table ++ more)) list' ≡ map (at_place (table ++ more)) list ++ map (λ (i : Ident). bounds_of range) is
placed table list list' place lent range is more h same put =
    let here : at_place (table ++ more) place ≡ bounds_of range = h.behind more ∙ seen_copied lent ∙ ap bounds_of same in
    ap (map (at_place (table ++ more))) put ∙ map-append (at_place (table ++ more)) list (map (λ (i : Ident). place) is)
    ∙ ap (λ rs. map (at_place (table ++ more)) list ++ rs) (for_each (table ++ more) place (bounds_of range) is here)

-- the places of the ports or wires of one statement
pub ports_placed : (table : List (ℕ × ℕ)) (list list' : List (Option ℕ)) (place : Option ℕ) (lent : Option (Bor Range)) (p : BodyPorts) (item : Item)
    → Holds table place (seen_range lent) → option_copied lent ≡ p.range → list' ≡ list ++ map (λ (i : Ident). place) (all p.names) → item ≡ Ports p
    → (more : List (ℕ × ℕ)) → map (at_place (table ++ more)) list' ≡ map (at_place (table ++ more)) list ++ port_ranges (lines_of_item item)
ports_placed table list list' place lent p item h same put is more =
    placed table list list' place lent p.range (all p.names) more h same put
    ∙ ap (λ rs. map (at_place (table ++ more)) list ++ rs) (port_ranges-names p.direction (bounds_of p.range) (all p.names) ∙ ap (λ i. port_ranges (lines_of_item i)) (sym is))

pub wires_placed : (table : List (ℕ × ℕ)) (list list' : List (Option ℕ)) (place : Option ℕ) (lent : Option (Bor Range)) (w : BodyWires) (item : Item)
    → Holds table place (seen_range lent) → option_copied lent ≡ w.range → list' ≡ list ++ map (λ (i : Ident). place) (all w.names) → item ≡ Wires w
    → (more : List (ℕ × ℕ)) → map (at_place (table ++ more)) list' ≡ map (at_place (table ++ more)) list ++ wire_ranges (wires_of_item item)
wires_placed table list list' place lent w item h same put is more =
    placed table list list' place lent w.range (all w.names) more h same put
    ∙ ap (λ rs. map (at_place (table ++ more)) list ++ rs) (wire_ranges-names (bounds_of w.range) (all w.names) ∙ ap (λ i. wire_ranges (wires_of_item i)) (sym is))

-- the ranges of ports don't depend on a direction
next_ranges : (d e : Direction) (r : Option (ℕ × ℕ)) (ps : List NextPort) → port_ranges (next_lines d r ps) ≡ port_ranges (next_lines e r ps)
next_ranges d e r [] = refl
next_ranges d e r (Declared p ∷ ps) = refl
next_ranges d e r (Alike name ∷ ps) = ap (λ rs. r ∷ rs) (next_ranges d e r ps)

pub next_ranges-cons : (d : Direction) (r : Option (ℕ × ℕ)) (p : NextPort) (ps : List NextPort)
    → port_ranges (next_lines d r (p ∷ ps)) ≡ next_range r p ∷ port_ranges (next_lines d (next_range r p) ps)
next_ranges-cons d r (Declared p) ps = ap (λ rs. bounds_of p.range ∷ rs) (next_ranges p.direction d (bounds_of p.range) ps)
next_ranges-cons d r (Alike name) ps = refl

-- the first port of a header, and one port further
pub header_start : (table : List (ℕ × ℕ)) (place : Option ℕ) (lent : Option (Bor Range)) (p : HeaderPort) (list : List (Option ℕ)) (ps : List NextPort)
    → Holds table place (seen_range lent) → option_copied lent ≡ p.range → list ≡ place ∷ []
    → (more : List (ℕ × ℕ)) → map (at_place (table ++ more)) list ++ port_ranges (next_lines p.direction (at_place (table ++ more) place) ps) ≡ port_ranges (header_line p ∷ next_lines p.direction (bounds_of p.range) ps)
header_start table place lent p list ps h same put more =
    let here : at_place (table ++ more) place ≡ bounds_of p.range = h.behind more ∙ seen_copied lent ∙ ap bounds_of same in
    ap (λ l. map (at_place (table ++ more)) l ++ port_ranges (next_lines p.direction (at_place (table ++ more) place) ps)) put
    ∙ ap (λ r. r ∷ port_ranges (next_lines p.direction r ps)) here

pub header_step : (table longer : List (ℕ × ℕ)) (list list' : List (Option ℕ)) (place place' : Option ℕ) (d : Direction) (xs : List NextPort) (i : ℕ) (p : NextPort) (whole : List (Option (ℕ × ℕ)))
    → i < length xs → p ≡ get_or xs i p → Grows table longer → ((more : List (ℕ × ℕ)) → at_place (longer ++ more) place' ≡ next_range (at_place (longer ++ more) place) p) → list' ≡ list ++ place' ∷ []
    → ((more : List (ℕ × ℕ)) → map (at_place (table ++ more)) list ++ port_ranges (next_lines d (at_place (table ++ more) place) (drop i xs)) ≡ whole)
    → (more : List (ℕ × ℕ)) → map (at_place (longer ++ more)) list' ++ port_ranges (next_lines d (at_place (longer ++ more) place') (drop (i + 1) xs)) ≡ whole
header_step table longer list list' place place' d xs i p whole within is g next put so_far more =
    let t = longer ++ more in
    let ps = drop (i + 1) xs in
    let far : t ≡ table ++ (g.more ++ more) = behind table longer g.more more g.behind in
    let rest : at_place t place' ∷ port_ranges (next_lines d (at_place t place') ps) ≡ port_ranges (next_lines d (at_place t place) (drop i xs)) =
    ap (λ r. r ∷ port_ranges (next_lines d r ps)) (next more) ∙ sym (ap (λ qs. port_ranges (next_lines d (at_place t place) qs)) (drop-here xs i p within is) ∙ next_ranges-cons d (at_place t place) p ps) in
    ap (λ l. l ++ port_ranges (next_lines d (at_place t place') ps)) (ap (map (at_place t)) put ∙ map-append (at_place t) list (place' ∷ []))
    ∙ append_assoc (map (at_place t) list) (at_place t place' ∷ []) (port_ranges (next_lines d (at_place t place') ps))
    ∙ ap (λ l. map (at_place t) list ++ l) rest
    ∙ ap (λ (u : List (ℕ × ℕ)). map (at_place u) list ++ port_ranges (next_lines d (at_place u place) (drop i xs))) far ∙ so_far (g.more ++ more)

pub header_end : (table : List (ℕ × ℕ)) (list : List (Option ℕ)) (place : Option ℕ) (d : Direction) (xs : List NextPort) (i : ℕ) (whole : List (Option (ℕ × ℕ))) → length xs ≤ i
    → ((more : List (ℕ × ℕ)) → map (at_place (table ++ more)) list ++ port_ranges (next_lines d (at_place (table ++ more) place) (drop i xs)) ≡ whole) → Hold table list whole
header_end table list place d xs i whole past so_far = record {
  behind = λ more. sym (append-nil (map (at_place (table ++ more)) list))
      ∙ ap (λ ps. map (at_place (table ++ more)) list ++ port_ranges (next_lines d (at_place (table ++ more) place) ps)) (sym (drop_of_length-le xs past)) ∙ so_far more;
}

-- the ranges of statements
pub port_ranges-cons : (i : Item) (is : List Item) → port_ranges (body_lines (i ∷ is)) ≡ port_ranges (lines_of_item i) ++ port_ranges (body_lines is)
port_ranges-cons i is = map-append (λ (l : PortLine). l.range) (lines_of_item i) (body_lines is)

pub wire_ranges-cons : (i : Item) (is : List Item) → wire_ranges (wire_lines (i ∷ is)) ≡ wire_ranges (wires_of_item i) ++ wire_ranges (wire_lines is)
wire_ranges-cons i is = map-append (λ (l : WireLine). l.range) (wires_of_item i) (wire_lines is)

-- the places of the body's lines behind those of the header's
pub ports_whole : (h : Header) (items : List Item) (table longer : List (ℕ × ℕ)) (list list' : List (Option ℕ)) → Hold table list (port_ranges (header_lines h)) → Grows table longer
    → ((more : List (ℕ × ℕ)) → map (at_place (longer ++ more)) list' ≡ map (at_place (longer ++ more)) list ++ port_ranges (body_lines items))
    → Hold longer list' (port_ranges (header_lines h ++ body_lines items))
ports_whole h items table longer list list' held g put = record {
  behind = λ more. put more ∙ ap (λ rs. rs ++ port_ranges (body_lines items)) ((Hold-grown table longer list (port_ranges (header_lines h)) held g).behind more)
      ∙ sym (map-append (λ (l : PortLine). l.range) (header_lines h) (body_lines items));
}
