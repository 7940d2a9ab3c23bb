-- A port and a wire whose ranges differ.
use Rattle.std.proofs.Common.{◌≡◌, ℕ, List, [], ◌∷◌, Bool, true, false, cond, refl, sym, ap, ◌∙◌, map}
use Rattle.std.specs.Prelude.{Option, None, Some, slice_get, unwrap_or}
use Rattle.std.specs.Option.{option_map}
use Rattle.std.proofs.lemmas.Option.{slice_get-map}
use Rattle.hold_vparse.specs.inner.Index.{place_of}
use Rattle.hold_vparse.specs.Lines.{PortLine, WireLine, line_of}
use Rattle.hold_vparse.specs.Nets.{names}
use Rattle.hold_vparse.specs.PortFaults.{same_range, later, unlike_line}
use Rattle.hold_vparse.specs.inner.Ranges.{line_range, port_ranges}
use Rattle.hold_vparse.specs.Soonest.{soonest}
use Rattle.hold_vparse.proofs.LineLemmas.{line_of-some, line_of-none}

-- a name that no line has
pub unlike_none : (w : WireLine) (lines : List PortLine) → place_of w.name.name (names (map (λ (l : PortLine). l.name) lines)) ≡ None → None ≡ soonest (unlike_line w (line_of w.name.name lines))
unlike_none w lines none = ap (λ (o : Option PortLine). soonest (unlike_line w o)) (sym (line_of-none w.name.name lines none))

module _ (w : WireLine) (lines : List PortLine) (place : ℕ) (at : place_of w.name.name (names (map (λ (l : PortLine). l.name) lines)) ≡ Some place) where
  pub unlike_missing : slice_get lines place ≡ None → None ≡ soonest (unlike_line w (line_of w.name.name lines))
  unlike_missing none = ap (λ (o : Option PortLine). soonest (unlike_line w o)) (sym (line_of-some w.name.name lines place at ∙ none))

  -- the line in a place, and whether its range is the wire's
  pub unlike_found : (wires ports : List (Option (ℕ × ℕ))) (number : ℕ) (l : PortLine) (same : Bool) → slice_get lines place ≡ Some l → ports ≡ port_ranges lines → line_range wires number ≡ w.range
      → same ≡ same_range (line_range wires number) (line_range ports place) → cond same None (Some (later w.name l.name)) ≡ soonest (unlike_line w (line_of w.name.name lines))
  unlike_found wires ports number l same is are range told =
      let port : line_range ports place ≡ l.range =
      ap (λ (rs : List (Option (ℕ × ℕ))). line_range rs place) are
      ∙ ap (λ (o : Option (Option (ℕ × ℕ))). unwrap_or o None) (slice_get-map (λ (k : PortLine). k.range) lines place ∙ ap (option_map (λ (k : PortLine). k.range)) is) in
      let equal : same ≡ same_range w.range l.range = told ∙ ap (λ r. same_range r (line_range ports place)) range ∙ ap (same_range w.range) port in
      by same ∙ ap (λ (b : Bool). soonest (cond b [] (later w.name l.name ∷ []))) equal ∙ ap (λ (o : Option PortLine). soonest (unlike_line w o)) (sym (line_of-some w.name.name lines place at ∙ is))
    where
      by : (b : Bool) → cond b None (Some (later w.name l.name)) ≡ soonest (cond b [] (later w.name l.name ∷ []))
      by true = refl
      by false = refl
