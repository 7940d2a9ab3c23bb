-- Checked paths, by the flags of pins and the rows of arcs that end at each.
use Rattle.std.proofs.Common.{◌≡◌, ℕ, suc, ◌+◌, ◌-◌, ◌<◌, ◌≤◌, List, [], ◌∷◌, length, get_or, Bool, true, false, refl, ap, sym, ◌∙◌, subst, ◌⊎◌, inl, inr, arith}
use Rattle.std.specs.Prelude.{Some, slice_get, Contains, All}
use Rattle.std.proofs.lemmas.Bool.{cases_lt, cases_eq}
use Rattle.std.proofs.lemmas.List.{get_or_past}
use Rattle.std.proofs.lemmas.List.Elements.{All-contains}
use Rattle.std.proofs.lemmas.Option.{slice_get_within, slice_get_read, get_or_from_slice_get, same_Some}
use Rattle.hold_base.specs.declared.number.PinNo.{PinNo}
use Rattle.hold_graph.specs.declared.graph.Arc.{Arc}
use Rattle.hold_graph.specs.declared.graph.Parts.{Parts}
use Rattle.hold_graph.specs.declared.adjacency.End.TheVariants.{To}
use Rattle.hold_graph.specs.Path.{HasArc, EachNext, last_pin}
use Rattle.hold_graph.specs.Graph.{AreBelow, NamesItsPins}
use Rattle.hold_graph.specs.Adjacency.{places_into}
use Rattle.hold_graph.specs.inner.Graph.{IsWalkThrough}
use Rattle.hold_graph.specs.inner.Marks.{AreFlags}
use Rattle.hold_graph.proofs.Spread.{IsArcAt, arc_at, at_row, place_of_arc}

-- the flag of any pin, also of one past the flags
pub flag-sound : (pins : ℕ) (listed : List PinNo) (flags : List Bool) → AreFlags pins listed flags → (pin : PinNo) → get_or flags pin.0 false ≡ true → Contains listed pin
flag-sound pins listed flags h pin is = by_case (cases_lt pin.0 pins)
  where
    by_case : ((pin.0 < pins) ⊎ (pins ≤ pin.0)) → Contains listed pin
    by_case (inl below) = (h.exact pin below).0 is
    by_case (inr past) = let off : get_or flags pin.0 false ≡ false = get_or_past flags pin.0 false (let count = h.count in omega arith) in absurd cc

pub flag-whole : (pins : ℕ) (listed : List PinNo) (flags : List Bool) → AreFlags pins listed flags → AreBelow pins listed → (pin : PinNo) → Contains listed pin → get_or flags pin.0 false ≡ true
flag-whole pins listed flags h there pin has = (h.exact pin (All-contains (λ (p : PinNo). p.0 < pins) listed pin there has)).1 has

pub last_pin-at : (a : PinNo) (rest : List PinNo) (d : PinNo) → 0 < length rest → last_pin a rest ≡ get_or rest (length rest - 1) d
last_pin-at a [] d some = absurd (omega arith)
last_pin-at a (b ∷ []) d some = refl
last_pin-at a (b ∷ c ∷ rest) d some =
    let e : length (b ∷ c ∷ rest) - 1 ≡ suc (length (c ∷ rest) - 1) = omega arith in
    last_pin-at b (c ∷ rest) d (omega arith) ∙ ap (λ k. get_or (b ∷ c ∷ rest) k d) (sym e)

-- the row of a pin has an arc from another one
pub has_arc-from : (arcs : List Arc) (to from : PinNo) (places : List ℕ) (k place : ℕ) (arc : Arc) → places ≡ places_into arcs to → slice_get places k ≡ Some place → slice_get arcs place ≡ Some arc →
    arc.from ≡ from → HasArc arcs from to
has_arc-from arcs to from places k place arc row at is begins =
    let has : Contains places place = (k, slice_get_within places k place at, get_or_from_slice_get places k place place at) in
    let there : IsArcAt To arcs to place = arc_at To arcs to place (subst (λ (xs : List ℕ). Contains xs place) row has) in
    let same : there.arc ≡ arc = same_Some there.arc arc (sym there.is ∙ is) in
    record { arc = there.arc; listed = there.listed; from = ap (λ (a : Arc). a.from) same ∙ begins; to = there.meets }

pub no_arc-from : (arcs : List Arc) (to from : PinNo) (places : List ℕ) (n : ℕ) → places ≡ places_into arcs to → length places ≤ n →
    ((k place : ℕ) (arc : Arc) → k < n → slice_get places k ≡ Some place → slice_get arcs place ≡ Some arc → arc.from ≡ from → ⊥) → HasArc arcs from to → ⊥
no_arc-from arcs to from places n row all none has =
    let place = place_of_arc arcs has.arc has.listed in
    let listed : Contains places place.0 =
    subst (λ (xs : List ℕ). Contains xs place.0) (sym row) (subst (λ (p : PinNo). Contains (places_into arcs p) place.0) has.to (at_row To arcs place.0 has.arc place.1)) in
    none listed.0 place.0 has.arc (let lt = listed.1 in omega arith) (slice_get_read places (length places) listed.0 place.0 refl listed.1 (sym listed.2)) place.1 has.from

pub no_arc-past : (arcs : List Arc) (pins : ℕ) (to from : PinNo) → All (λ arc. arc.to.0 < pins) arcs → pins ≤ to.0 → HasArc arcs from to → ⊥
no_arc-past arcs pins to from ends past has =
    let below : has.arc.to.0 < pins = All-contains (λ (arc : Arc). arc.to.0 < pins) arcs has.arc ends has.listed in
    let e : has.arc.to.0 ≡ to.0 = ap (λ (p : PinNo). p.0) has.to in omega arith

pub none_more : (arcs : List Arc) (from : PinNo) (places : List ℕ) (n : ℕ) (d : Arc) →
    ((k place : ℕ) (arc : Arc) → k < n → slice_get places k ≡ Some place → slice_get arcs place ≡ Some arc → arc.from ≡ from → ⊥) →
    n < length places → ((get_or arcs (get_or places n 0) d).from ≡ from → ⊥) →
    (k place : ℕ) (arc : Arc) → k < n + 1 → slice_get places k ≡ Some place → slice_get arcs place ≡ Some arc → arc.from ≡ from → ⊥
none_more arcs from places n d none within differs k place arc lt at is begins = by_case (cases_eq k n)
  where
    by_case : ((k ≡ n) ⊎ (k ≡ n → ⊥)) → ⊥
    by_case (inl same) =
        let here : place ≡ get_or places n 0 = sym (get_or_from_slice_get places k place 0 at) ∙ ap (λ j. get_or places j 0) same in
        let read : get_or arcs (get_or places n 0) d ≡ arc = ap (λ j. get_or arcs j d) (sym here) ∙ get_or_from_slice_get arcs place arc d is in
        differs (ap (λ (a : Arc). a.from) read ∙ begins)
    by_case (inr other) = none k place arc (omega arith) at is begins

-- the flags of a walk's ends
pub walk-from_flags : (parts : Parts) (launches captures : List Bool) (first : PinNo) (rest : List PinNo) (d : PinNo) → AreFlags parts.pins parts.launches launches → AreFlags parts.pins parts.captures captures →
    0 < length rest → get_or launches first.0 false ≡ true → get_or captures (get_or rest (length rest - 1) d).0 false ≡ true → EachNext parts.arcs first rest → IsWalkThrough parts first rest
walk-from_flags parts launches captures first rest d begins ends some on_launch on_capture next = record {
  some = λ e. let len = ap (λ (xs : List PinNo). length xs) e in omega arith;
  begins = flag-sound parts.pins parts.launches launches begins first on_launch;
  ends = subst (Contains parts.captures) (sym (last_pin-at first rest d some)) (flag-sound parts.pins parts.captures captures ends (get_or rest (length rest - 1) d) on_capture);
  next = next;
}

pub capture-flag : (parts : Parts) (captures : List Bool) (first : PinNo) (rest : List PinNo) (d : PinNo) → NamesItsPins parts → AreFlags parts.pins parts.captures captures → 0 < length rest → IsWalkThrough parts first rest →
    get_or captures (get_or rest (length rest - 1) d).0 false ≡ true
capture-flag parts captures first rest d numbers flags some walk =
    flag-whole parts.pins parts.captures captures flags numbers.captures (get_or rest (length rest - 1) d) (subst (Contains parts.captures) (last_pin-at first rest d some) walk.ends)
