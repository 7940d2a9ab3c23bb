-- Which pins stand ahead in a topological order, and in the order against it.
use Rattle.std.proofs.Common.{◌≡◌, ℕ, ◌+◌, ◌-◌, ◌<◌, List, [], length, get_or, refl, ap, sym, ◌∙◌, subst, arith}
use Rattle.std.specs.Prelude.{Some, Bool, slice_get, slice_index_or, Contains, All, reverse}
use Rattle.std.proofs.lemmas.List.{get_or-reverse, length-reverse}
use Rattle.std.proofs.lemmas.List.Elements.{All-contains}
use Rattle.std.proofs.lemmas.Option.{slice_get-get_or, slice_get_within, slice_get_read, get_or_from_slice_get}
use Rattle.hold_base.specs.declared.number.PinNo.{PinNo}
use Rattle.hold_graph.specs.declared.graph.Arc.{Arc}
use Rattle.hold_graph.specs.declared.adjacency.End.{End}
use Rattle.hold_graph.specs.declared.adjacency.End.TheVariants.{From, To}
use Rattle.hold_graph.specs.declared.graph.Parts.{Parts}
use Rattle.hold_graph.specs.Graph.{NamesItsPins, AreBelow}
use Rattle.hold_graph.specs.Path.{HasArc}
use Rattle.hold_graph.specs.Adjacency.{places_into, places_from}
use Rattle.hold_graph.specs.Cycles.{IsTopological}
use Rattle.hold_graph.specs.inner.Adjacency.{places_at, AreRows}
use Rattle.hold_graph.specs.inner.Marks.{far_pin, StandsAhead, IsMarked, AreMarked, AreFlags, AreExact, IsLedTo, LeadsTo}
use Rattle.hold_graph.proofs.Acyclic.{stands_before}
use Rattle.hold_graph.proofs.PlacesOf.{places_of-below}
use Rattle.hold_graph.proofs.Spread.{IsPassed, IsArcAt, arc_at, led-exact, leads-exact}

-- the item at a place, counted from the other end
pub reverse_at : {X : Type 0} (xs : List X) (k : ℕ) (x : X) → slice_get (reverse xs) k ≡ Some x → (j : ℕ) × (j + k + 1 ≡ length xs) × (slice_get xs j ≡ Some x)
reverse_at xs k x at =
    let size = length-reverse xs in
    let within = slice_get_within (reverse xs) k x at in
    let below : k < length xs = omega arith in
    let read : get_or xs (length xs - 1 - k) x ≡ x = sym (get_or-reverse xs k x below) ∙ get_or_from_slice_get (reverse xs) k x x at in
    (length xs - 1 - k, omega arith, slice_get_read xs (length xs) (length xs - 1 - k) x refl (omega arith) (sym read))

pub at_reverse : {X : Type 0} (xs : List X) (j k : ℕ) (x : X) → j + k + 1 ≡ length xs → slice_get xs j ≡ Some x → slice_get (reverse xs) k ≡ Some x
at_reverse xs j k x sum at =
    let size = length-reverse xs in
    let e : length xs - 1 - k ≡ j = omega arith in
    let read : get_or (reverse xs) k x ≡ x = get_or-reverse xs k x (omega arith) ∙ ap (λ i. get_or xs i x) e ∙ get_or_from_slice_get xs j x x at in
    slice_get_read (reverse xs) (length (reverse xs)) k x refl (omega arith) (sym read)

pub below_at : (pins : ℕ) (order : List PinNo) → All (λ pin. pin.0 < pins) order → (k : ℕ) (pin : PinNo) → slice_get order k ≡ Some pin → pin.0 < pins
below_at pins order below k pin at =
    let lt = below k pin (slice_get_within order k pin at) in
    let e : (get_or order k pin).0 ≡ pin.0 = ap (λ (p : PinNo). p.0) (get_or_from_slice_get order k pin pin at) in
    omega arith

pub reverse-below : (pins : ℕ) (order : List PinNo) → All (λ pin. pin.0 < pins) order → All (λ pin. pin.0 < pins) (reverse order)
reverse-below pins order below = λ k d lt.
    let at = slice_get-get_or (reverse order) k d lt in
    let there = reverse_at order k (get_or (reverse order) k d) at in
    below_at pins order below there.0 (get_or (reverse order) k d) there.2

pub stands : (pins : ℕ) (arcs : List Arc) (order : List PinNo) → IsTopological pins arcs order → (pin : PinNo) → pin.0 < pins → (k : ℕ) × (slice_get order k ≡ Some pin)
stands pins arcs order h pin below =
    let listed = h.each pin.0 below in
    (listed.0, slice_get_read order (length order) listed.0 pin refl listed.1 (sym listed.2))

pub ahead-forward : (pins : ℕ) (arcs : List Arc) (order : List PinNo) (rows : List (List ℕ)) → IsTopological pins arcs order → AreRows pins (places_into arcs) rows → StandsAhead From arcs rows order
ahead-forward pins arcs order rows h are = record {
  ahead = λ k pin place at has.
      let row : slice_index_or rows pin.0 [] ≡ places_at To arcs pin = are.each pin (below_at pins order h.below k pin at) in
      let there : IsArcAt To arcs pin place = arc_at To arcs pin place (subst (λ (xs : List ℕ). Contains xs place) row has) in
      let step : HasArc arcs there.arc.from pin = record { arc = there.arc; listed = there.listed; from = refl; to = there.meets } in
      let before = stands_before pins arcs order h there.arc.from pin k step at in
      (before.0, there.arc.from, before.1, before.2, sym (ap (far_pin From) there.is));
}

pub ahead-back : (pins : ℕ) (arcs : List Arc) (order : List PinNo) (rows : List (List ℕ)) → IsTopological pins arcs order → All (λ arc. arc.to.0 < pins) arcs → AreRows pins (places_from arcs) rows →
    StandsAhead To arcs rows (reverse order)
ahead-back pins arcs order rows h to are = record {
  ahead = λ k pin place at has.
      let here = reverse_at order k pin at in
      let row : slice_index_or rows pin.0 [] ≡ places_at From arcs pin = are.each pin (below_at pins order h.below here.0 pin here.2) in
      let there : IsArcAt From arcs pin place = arc_at From arcs pin place (subst (λ (xs : List ℕ). Contains xs place) row has) in
      let step : HasArc arcs pin there.arc.to = record { arc = there.arc; listed = there.listed; from = there.meets; to = refl } in
      let end : there.arc.to.0 < pins = All-contains (λ (arc : Arc). arc.to.0 < pins) arcs there.arc to there.listed in
      let later = stands pins arcs order h there.arc.to end in
      let before = stands_before pins arcs order h pin there.arc.to later.0 step later.1 in
      let same : before.0 ≡ here.0 = h.different before.0 here.0 pin before.2 here.2 in
      let lt = before.1 in
      let sum = here.1 in
      let within = slice_get_within order later.0 there.arc.to later.1 in
      (length order - 1 - later.0, there.arc.to, (omega arith), at_reverse order later.0 (length order - 1 - later.0) there.arc.to (omega arith) later.1, sym (ap (far_pin To) there.is));
}

pub rows-within : (pins : ℕ) (end : End) (arcs : List Arc) (rows : List (List ℕ)) → AreRows pins (places_at end arcs) rows → (pin : ℕ) → pin < length rows →
    All (λ place. place < length arcs) (slice_index_or rows pin [])
rows-within pins end arcs rows are pin below =
    let row : slice_index_or rows pin [] ≡ places_at end arcs (record { 0 = pin }) = are.each (record { 0 = pin }) (let count = are.count in omega arith) in
    let e : 0 + length arcs ≡ length arcs = omega arith in
    subst (All (λ (place : ℕ). place < length arcs)) (sym row) (subst (λ (n : ℕ). All (λ (place : ℕ). place < n) (places_at end arcs (record { 0 = pin }))) e (places_of-below _ 0 arcs))

pub passed-forward : (pins : ℕ) (arcs : List Arc) (order : List PinNo) (rows : List (List ℕ)) (seeds marks : List Bool) → IsTopological pins arcs order → AreRows pins (places_into arcs) rows →
    ((k : ℕ) (pin : PinNo) → slice_get order k ≡ Some pin → IsMarked From arcs rows seeds marks pin.0) → IsPassed pins To From arcs seeds order marks
passed-forward pins arcs order rows seeds marks h are marked = record {
  rows = rows;
  are = are;
  each = stands pins arcs order h;
  below = below_at pins order h.below;
  ahead = ahead-forward pins arcs order rows h are;
  marked = λ pin below. let at = stands pins arcs order h pin below in marked at.0 pin at.1;
}

stands-reverse : (pins : ℕ) (arcs : List Arc) (order : List PinNo) → IsTopological pins arcs order → (pin : PinNo) → pin.0 < pins → (k : ℕ) × (slice_get (reverse order) k ≡ Some pin)
stands-reverse pins arcs order h pin below =
    let at = stands pins arcs order h pin below in
    let within = slice_get_within order at.0 pin at.1 in
    (length order - 1 - at.0, at_reverse order at.0 (length order - 1 - at.0) pin (omega arith) at.1)

pub passed-back : (pins : ℕ) (arcs : List Arc) (order : List PinNo) (rows : List (List ℕ)) (seeds marks : List Bool) → IsTopological pins arcs order → All (λ arc. arc.to.0 < pins) arcs → AreRows pins (places_from arcs) rows →
    ((k : ℕ) (pin : PinNo) → slice_get (reverse order) k ≡ Some pin → IsMarked To arcs rows seeds marks pin.0) → IsPassed pins From To arcs seeds (reverse order) marks
passed-back pins arcs order rows seeds marks h to are marked = record {
  rows = rows;
  are = are;
  each = stands-reverse pins arcs order h;
  below = below_at pins (reverse order) (reverse-below pins order h.below);
  ahead = ahead-back pins arcs order rows h to are;
  marked = λ pin below. let at = stands-reverse pins arcs order h pin below in marked at.0 pin at.1;
}

-- what the marks of one pass tell, by the lists that the code hands it
pub led-from : (parts : Parts) (order : List PinNo) (rows : List (List ℕ)) (sources : List PinNo) (flags : List Bool) (arcs : List Arc) (seeds marks : List Bool) → arcs ≡ parts.arcs → seeds ≡ flags →
    NamesItsPins parts → IsTopological parts.pins parts.arcs order → AreRows parts.pins (places_into parts.arcs) rows → AreFlags parts.pins sources flags → AreBelow parts.pins sources →
    AreMarked From arcs rows seeds order marks → AreExact parts.pins (IsLedTo parts.arcs sources) marks
led-from parts order rows sources flags arcs seeds marks is_arcs is_seeds numbers h are flagged there marked =
    let by_flags : AreMarked From arcs rows flags order marks = subst (λ (xs : List Bool). AreMarked From arcs rows xs order marks) is_seeds marked in
    let now : AreMarked From parts.arcs rows flags order marks = subst (λ (xs : List Arc). AreMarked From xs rows flags order marks) is_arcs by_flags in
    led-exact parts.pins parts.arcs sources flags order marks (passed-forward parts.pins parts.arcs order rows flags marks h are now.each) flagged there numbers.to (now.count ∙ flagged.count)

pub leads-from : (parts : Parts) (order back : List PinNo) (rows : List (List ℕ)) (targets : List PinNo) (flags : List Bool) (arcs : List Arc) (seeds marks : List Bool) → arcs ≡ parts.arcs → seeds ≡ flags →
    back ≡ reverse order → NamesItsPins parts → IsTopological parts.pins parts.arcs order → AreRows parts.pins (places_from parts.arcs) rows → AreFlags parts.pins targets flags →
    AreMarked To arcs rows seeds back marks → AreExact parts.pins (LeadsTo parts.arcs targets) marks
leads-from parts order back rows targets flags arcs seeds marks is_arcs is_seeds is_back numbers h are flagged marked =
    let by_flags : AreMarked To arcs rows flags back marks = subst (λ (xs : List Bool). AreMarked To arcs rows xs back marks) is_seeds marked in
    let by_order : AreMarked To arcs rows flags (reverse order) marks = subst (λ (xs : List PinNo). AreMarked To arcs rows flags xs marks) is_back by_flags in
    let now : AreMarked To parts.arcs rows flags (reverse order) marks = subst (λ (xs : List Arc). AreMarked To xs rows flags (reverse order) marks) is_arcs by_order in
    leads-exact parts.pins parts.arcs targets flags (reverse order) marks (passed-back parts.pins parts.arcs order rows flags marks h numbers.to are now.each) flagged numbers.to (now.count ∙ flagged.count)
