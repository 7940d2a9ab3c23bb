-- Looking up lines by their first places.
use Rattle.std.proofs.Common.{◌≡◌, ℕ, suc, List, [], ◌∷◌, Bool, true, false, cond, refl, sym, ap, ◌∙◌, bytes_eq, map}
use Rattle.std.specs.Prelude.{Option, None, Some, slice_get}
use Rattle.std.specs.Option.{option_map}
use Rattle.std.proofs.lemmas.Option.{slice_get-map}
use Rattle.hold_netlist.specs.declared.wire.Wire.{Wire}
use Rattle.hold_netlist.specs.Names.{wire_names}
use Rattle.hold_vparse.specs.declared.lines.NamedWire.{NamedWire}
use Rattle.hold_vparse.specs.BitFaults.{reach}
use Rattle.hold_vparse.specs.inner.Flat.{net_wires, named_idents}
use Rattle.hold_vparse.specs.inner.Index.{place_of, at_place}
use Rattle.hold_vparse.specs.Nets.{names}
use Rattle.hold_vparse.specs.Lines.{PortLine, line_of}
use Rattle.hold_vparse.specs.inner.Ranges.{net_ranges}

-- what stands in a place of a list whose items are seen otherwise
pub at_place-map : {X Y : Type 0} (f : X → Y) (xs : List X) (place : Option ℕ) → at_place (map f xs) place ≡ option_map f (at_place xs place)
at_place-map f xs None = refl
at_place-map f xs (Some n) = slice_get-map f xs n

pub at_place-suc : {X : Type 0} (x : X) (xs : List X) (o : Option ℕ) → at_place (x ∷ xs) (option_map suc o) ≡ at_place xs o
at_place-suc x xs None = refl
at_place-suc x xs (Some n) = refl

pub line_of-place : (name : List ℕ) (lines : List PortLine) → line_of name lines ≡ at_place lines (place_of name (names (map (λ (l : PortLine). l.name) lines)))
line_of-place name [] = refl
line_of-place name (l ∷ ls) = by (bytes_eq name l.name.name) (line_of-place name ls)
  where
    by : (b : Bool) → line_of name ls ≡ at_place ls (place_of name (names (map (λ (k : PortLine). k.name) ls)))
        → cond b (Some l) (line_of name ls) ≡ at_place (l ∷ ls) (cond b (Some 0) (option_map suc (place_of name (names (map (λ (k : PortLine). k.name) ls)))))
    by true h = refl
    by false h = h ∙ sym (at_place-suc l ls (place_of name (names (map (λ (k : PortLine). k.name) ls))))

pub line_of-some : (name : List ℕ) (lines : List PortLine) (n : ℕ) → place_of name (names (map (λ (l : PortLine). l.name) lines)) ≡ Some n → line_of name lines ≡ slice_get lines n
line_of-some name lines n h = line_of-place name lines ∙ ap (at_place lines) h

pub line_of-none : (name : List ℕ) (lines : List PortLine) → place_of name (names (map (λ (l : PortLine). l.name) lines)) ≡ None → line_of name lines ≡ None
line_of-none name lines h = line_of-place name lines ∙ ap (at_place lines) h

-- the reach of a name by its first place among the wires
reach-place : (name : List ℕ) (ws : List Wire) → reach ws name ≡ option_map (λ (w : Wire). w.range) (at_place ws (place_of name (wire_names ws)))
reach-place name [] = refl
reach-place name (w ∷ ws) = by (bytes_eq name w.name) (reach-place name ws)
  where
    by : (b : Bool) → reach ws name ≡ option_map (λ (v : Wire). v.range) (at_place ws (place_of name (wire_names ws)))
        → cond b (Some w.range) (reach ws name) ≡ option_map (λ (v : Wire). v.range) (at_place (w ∷ ws) (cond b (Some 0) (option_map suc (place_of name (wire_names ws)))))
    by true h = refl
    by false h = h ∙ ap (option_map (λ (v : Wire). v.range)) (sym (at_place-suc w ws (place_of name (wire_names ws))))

pub reach-some : (name : List ℕ) (ws : List Wire) (n : ℕ) → place_of name (wire_names ws) ≡ Some n → option_map (λ (w : Wire). w.range) (slice_get ws n) ≡ reach ws name
reach-some name ws n h = sym (reach-place name ws ∙ ap (λ (o : Option ℕ). option_map (λ (w : Wire). w.range) (at_place ws o)) h)

pub reach-none : (name : List ℕ) (ws : List Wire) → place_of name (wire_names ws) ≡ None → None ≡ reach ws name
reach-none name ws h = sym (reach-place name ws ∙ ap (λ (o : Option ℕ). option_map (λ (w : Wire). w.range) (at_place ws o)) h)

-- the reach of a name from the ranges of the nets
pub reach-at : (name : List ℕ) (ws : List Wire) (ranges : List (Option (ℕ × ℕ))) (place : Option ℕ) → ranges ≡ net_ranges ws → place ≡ place_of name (wire_names ws) → at_place ranges place ≡ reach ws name
reach-at name ws ranges place r p =
    ap (λ (rs : List (Option (ℕ × ℕ))). at_place rs place) r ∙ ap (at_place (net_ranges ws)) p
    ∙ at_place-map (λ (w : Wire). w.range) ws (place_of name (wire_names ws)) ∙ sym (reach-place name ws)

-- the names of nets are those of their identifiers
pub names-idents : (ws : List NamedWire) → names (named_idents ws) ≡ wire_names (net_wires ws)
names-idents [] = refl
names-idents (w ∷ ws) = ap (λ (l : List (List ℕ)). w.name.now.name ∷ l) (names-idents ws)
