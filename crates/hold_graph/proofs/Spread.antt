-- Marks that spread along arcs: one pass in an order in which the far ends stand ahead leaves the equation of marks at each pin,
-- and where it holds at each pin, the marks tell which pins walks lead from, or to.
use Rattle.std.proofs.Common.{◌≡◌, ◌≢◌, ℕ, zero, suc, ◌+◌, ◌<◌, ◌≤◌, ◌==◌, List, [], ◌∷◌, ◌++◌, length, set, get_or, Bool, true, false, ◌||◌, refl, ap, sym, ◌∙◌, subst, ◌⊎◌, inl, inr, arith, eq-eqb}
use Rattle.std.specs.Prelude.{Option, Some, slice_get, Contains, All}
use Rattle.std.specs.List.{list_any}
use Rattle.std.proofs.lemmas.Bool.{cases_eq, or_cases, or_left, or_right, eqb-true}
use Rattle.std.proofs.lemmas.List.{get_or-set_same, get_or-set_other, get_or_default}
use Rattle.std.proofs.lemmas.List.Elements.{All-contains}
use Rattle.std.proofs.lemmas.List.Folds.{Any-from_list_any, list_any-from_Any}
use Rattle.std.proofs.lemmas.Option.{slice_get-get_or, slice_get_within, slice_get_read, get_or_from_slice_get, same_Some}
use Rattle.hold_base.specs.declared.number.PinNo.{PinNo}
use Rattle.hold_graph.specs.declared.graph.Arc.{Arc}
use Rattle.hold_graph.specs.declared.adjacency.End.{End}
use Rattle.hold_graph.specs.declared.adjacency.End.TheVariants.{From, To}
use Rattle.hold_graph.specs.Path.{HasArc, EachNext, last_pin}
use Rattle.hold_graph.specs.Cycles.{AreDifferent}
use Rattle.hold_graph.specs.inner.Adjacency.{pin_at, places_at, AreRows}
use Rattle.hold_graph.specs.inner.Marks.{AreExact, AreFlags, far_pin, is_marked, any_marked, IsMarked, StandsAhead, LeadsTo, IsLedTo}
use Rattle.hold_graph.proofs.Places.{same_pin}
use Rattle.hold_graph.proofs.PlacesOf.{places_of-below, places_of-hold, places_of-each}
use Rattle.hold_graph.proofs.Paths.{EachNext-append, last_pin-append}

list_any-agree : {X : Type 0} (p q : X → Bool) (xs : List X) → ((x : X) → Contains xs x → p x ≡ q x) → list_any p xs ≡ list_any q xs
list_any-agree p q [] same = refl
list_any-agree p q (x ∷ xs) same =
    ap (λ b. b || list_any p xs) (same x (0, (omega arith), refl))
    ∙ ap (λ b. q x || b) (list_any-agree p q xs (λ y has. same y (suc has.0, (let lt = has.1 in omega arith), has.2)))

-- the equation holds at the pins before place k of the order
pub record AreMarkedUpTo (far : End) (arcs : List Arc) (rows : List (List ℕ)) (seeds : List Bool) (order : List PinNo) (n : ℕ) (marks : List Bool) : Type 0 where
  pub at : (k : ℕ) (pin : PinNo) → k < n → slice_get order k ≡ Some pin → IsMarked far arcs rows seeds marks pin.0

-- a new mark of a pin leaves what the arcs of an earlier one tell
any_marked-kept : (far : End) (arcs : List Arc) (rows : List (List ℕ)) (order : List PinNo) (marks : List Bool) (n : ℕ) (pin : PinNo) (mark : Bool) →
    AreDifferent order → StandsAhead far arcs rows order → slice_get order n ≡ Some pin →
    (k : ℕ) (other : PinNo) → k ≤ n → slice_get order k ≡ Some other →
    any_marked (set marks pin.0 mark) far arcs (get_or rows other.0 []) ≡ any_marked marks far arcs (get_or rows other.0 [])
any_marked-kept far arcs rows order marks n pin mark different stands at k other le there =
    list_any-agree (is_marked (set marks pin.0 mark) far arcs) (is_marked marks far arcs) (get_or rows other.0 [])
    (λ place has.
    let ahead = stands.ahead k other place there has in
    get_or-set_other marks pin.0 (far_pin far (slice_get arcs place)) mark false
    (λ e. let same : ahead.1 ≡ pin = same_pin ahead.1 pin (ahead.4 ∙ e) in
    let twice : ahead.0 ≡ n = different ahead.0 n pin (ahead.3 ∙ ap (λ (p : PinNo). Some p) same) at in
    let lt = ahead.2 in omega arith))

pub marked-more : (far : End) (arcs : List Arc) (rows : List (List ℕ)) (seeds : List Bool) (order : List PinNo) (marks : List Bool) (n : ℕ) (pin : PinNo) →
    AreDifferent order → StandsAhead far arcs rows order → slice_get order n ≡ Some pin → pin.0 < length marks →
    AreMarkedUpTo far arcs rows seeds order n marks →
    AreMarkedUpTo far arcs rows seeds order (n + 1) (set marks pin.0 (get_or seeds pin.0 false || any_marked marks far arcs (get_or rows pin.0 [])))
marked-more far arcs rows seeds order marks n pin different stands at below h = record { at = λ k other lt there. by_case k other lt there (cases_eq k n) }
  where
    by_case : (k : ℕ) (other : PinNo) → k < n + 1 → slice_get order k ≡ Some other → ((k ≡ n) ⊎ (k ≡ n → ⊥)) →
        IsMarked far arcs rows seeds (set marks pin.0 (get_or seeds pin.0 false || any_marked marks far arcs (get_or rows pin.0 []))) other.0
    by_case k other lt there (inl here) =
        let mark : Bool = get_or seeds pin.0 false || any_marked marks far arcs (get_or rows pin.0 []) in
        let same : other ≡ pin = same_Some other pin (sym there ∙ ap (slice_get order) here ∙ at) in
        let kept = any_marked-kept far arcs rows order marks n pin mark different stands at n pin (omega arith) at in
        let made : get_or (set marks pin.0 mark) pin.0 false ≡ (get_or seeds pin.0 false || any_marked (set marks pin.0 mark) far arcs (get_or rows pin.0 [])) =
        get_or-set_same marks pin.0 mark false below ∙ ap (λ b. get_or seeds pin.0 false || b) (sym kept) in
        record { is = subst (λ (p : PinNo). get_or (set marks pin.0 mark) p.0 false ≡ (get_or seeds p.0 false || any_marked (set marks pin.0 mark) far arcs (get_or rows p.0 []))) (sym same) made }
    by_case k other lt there (inr earlier) =
        let mark : Bool = get_or seeds pin.0 false || any_marked marks far arcs (get_or rows pin.0 []) in
        let differs : other.0 ≢ pin.0 = λ e. earlier (different k n pin (there ∙ ap (λ (p : PinNo). Some p) (same_pin other pin e)) at) in
        let kept = any_marked-kept far arcs rows order marks n pin mark different stands at k other (omega arith) there in
        let was = h.at k other (omega arith) there in
        record { is = get_or-set_other marks pin.0 other.0 mark false differs ∙ was.is ∙ ap (λ b. get_or seeds other.0 false || b) (sym kept) }

-- at the end it holds at each pin of the order
pub marked-all : (far : End) (arcs : List Arc) (rows : List (List ℕ)) (seeds : List Bool) (order : List PinNo) (n : ℕ) (marks : List Bool) →
    length order ≤ n → AreMarkedUpTo far arcs rows seeds order n marks →
    (k : ℕ) (pin : PinNo) → slice_get order k ≡ Some pin → IsMarked far arcs rows seeds marks pin.0
marked-all far arcs rows seeds order n marks all h k pin is = h.at k pin (let lt = slice_get_within order k pin is in omega arith) is

-- an arc of a pin's row
pub record IsArcAt (end : End) (arcs : List Arc) (pin : PinNo) (place : ℕ) : Type 0 where
  pub arc : Arc
  pub is : slice_get arcs place ≡ Some arc
  pub listed : Contains arcs arc
  pub meets : pin_at end arc ≡ pin

pub arc_at : (end : End) (arcs : List Arc) (pin : PinNo) (place : ℕ) → Contains (places_at end arcs pin) place → IsArcAt end arcs pin place
arc_at end arcs pin place has =
    let none : Arc = record { from = pin; to = pin; wire = false } in
    let below : place < 0 + length arcs = All-contains (λ (k : ℕ). k < 0 + length arcs) (places_at end arcs pin) place (places_of-below (λ arc. (pin_at end arc).0 == pin.0) 0 arcs) has in
    let holds = All-contains (λ (k : ℕ). ((pin_at end (get_or arcs k none)).0 == pin.0) ≡ true) (places_at end arcs pin) place (places_of-hold (λ arc. (pin_at end arc).0 == pin.0) none arcs 0 arcs refl) has in
    let is : slice_get arcs place ≡ Some (get_or arcs place none) = slice_get-get_or arcs place none (omega arith) in
    record {
      arc = get_or arcs place none;
      is = is;
      listed = (place, (omega arith), get_or_from_slice_get arcs place (get_or arcs place none) (get_or arcs place none) is);
      meets = same_pin (pin_at end (get_or arcs place none)) pin (eqb-true _ _ holds);
    }

pub at_row : (end : End) (arcs : List Arc) (place : ℕ) (arc : Arc) → slice_get arcs place ≡ Some arc → Contains (places_at end arcs (pin_at end arc)) place
at_row end arcs place arc is =
    let below = slice_get_within arcs place arc is in
    let at : get_or arcs place arc ≡ arc = get_or_from_slice_get arcs place arc arc is in
    subst (Contains (places_at end arcs (pin_at end arc))) (omega arith)
    (places_of-each (λ x. (pin_at end x).0 == (pin_at end arc).0) 0 arcs place arc below (eq-eqb _ _ (ap (λ (x : Arc). (pin_at end x).0) at)))

pub place_of_arc : (arcs : List Arc) (arc : Arc) → Contains arcs arc → (place : ℕ) × (slice_get arcs place ≡ Some arc)
place_of_arc arcs arc listed = (listed.0, slice_get_read arcs (length arcs) listed.0 arc refl listed.1 (sym listed.2))

-- what the marks of all pins rest on: the equation holds at each pin, the rows are those of the arcs, and the far ends stand ahead
pub record IsPassed (pins : ℕ) (near far : End) (arcs : List Arc) (seeds : List Bool) (order : List PinNo) (marks : List Bool) : Type 0 where
  pub rows : List (List ℕ)
  pub are : AreRows pins (places_at near arcs) rows
  pub each : (pin : PinNo) → pin.0 < pins → (k : ℕ) × (slice_get order k ≡ Some pin)
  pub below : (k : ℕ) (pin : PinNo) → slice_get order k ≡ Some pin → pin.0 < pins
  pub ahead : StandsAhead far arcs rows order
  pub marked : (pin : PinNo) → pin.0 < pins → IsMarked far arcs rows seeds marks pin.0

-- a mark comes from a seed or along an arc
pub record CameAlong (near far : End) (arcs : List Arc) (order : List PinNo) (marks : List Bool) (k : ℕ) (pin : PinNo) : Type 0 where
  pub arc : Arc
  pub listed : Contains arcs arc
  pub meets : pin_at near arc ≡ pin
  pub before : ℕ
  pub lt : before < k
  pub is : slice_get order before ≡ Some (pin_at far arc)
  pub marked : get_or marks (pin_at far arc).0 false ≡ true

pub mark-came : (pins : ℕ) (near far : End) (arcs : List Arc) (seeds : List Bool) (order : List PinNo) (marks : List Bool) → IsPassed pins near far arcs seeds order marks →
    (k : ℕ) (pin : PinNo) → slice_get order k ≡ Some pin → get_or marks pin.0 false ≡ true →
    (get_or seeds pin.0 false ≡ true) ⊎ CameAlong near far arcs order marks k pin
mark-came pins near far arcs seeds order marks h k pin at is =
    let below : pin.0 < pins = h.below k pin at in
    let row : get_or h.rows pin.0 [] ≡ places_at near arcs pin = h.are.each pin below in
    elim (or_cases (get_or seeds pin.0 false) (any_marked marks far arcs (get_or h.rows pin.0 [])) (sym (h.marked pin below).is ∙ is)) [
      | inl seed ↦ inl seed
      | inr some ↦
          let found = Any-from_list_any (is_marked marks far arcs) (get_or h.rows pin.0 []) some in
          let has : Contains (get_or h.rows pin.0 []) found.1 = (found.0, found.2, found.3) in
          let there : IsArcAt near arcs pin found.1 = arc_at near arcs pin found.1 (subst (λ (xs : List ℕ). Contains xs found.1) row has) in
          let ahead = h.ahead.ahead k pin found.1 at has in
          let far_is : far_pin far (slice_get arcs found.1) ≡ (pin_at far there.arc).0 = ap (far_pin far) there.is in
          inr (record {
            arc = there.arc;
            listed = there.listed;
            meets = there.meets;
            before = ahead.0;
            lt = ahead.2;
            is = ahead.3 ∙ ap (λ (p : PinNo). Some p) (same_pin ahead.1 (pin_at far there.arc) (ahead.4 ∙ far_is));
            marked = ap (λ n. get_or marks n false) (sym far_is) ∙ found.4;
          })
    ]

-- a mark goes on along an arc
pub mark-goes : (pins : ℕ) (near far : End) (arcs : List Arc) (seeds : List Bool) (order : List PinNo) (marks : List Bool) → IsPassed pins near far arcs seeds order marks →
    (arc : Arc) → Contains arcs arc → (pin_at near arc).0 < pins → get_or marks (pin_at far arc).0 false ≡ true → get_or marks (pin_at near arc).0 false ≡ true
mark-goes pins near far arcs seeds order marks h arc listed below marked =
    let place = place_of_arc arcs arc listed in
    let row : get_or h.rows (pin_at near arc).0 [] ≡ places_at near arcs (pin_at near arc) = h.are.each (pin_at near arc) below in
    let has : Contains (get_or h.rows (pin_at near arc).0 []) place.0 = subst (λ (xs : List ℕ). Contains xs place.0) (sym row) (at_row near arcs place.0 arc place.1) in
    let holds : is_marked marks far arcs place.0 ≡ true = ap (λ (o : Option Arc). get_or marks (far_pin far o) false) place.1 ∙ marked in
    (h.marked (pin_at near arc) below).is
    ∙ or_right (get_or seeds (pin_at near arc).0 false) (any_marked marks far arcs (get_or h.rows (pin_at near arc).0 []))
    (list_any-from_Any (is_marked marks far arcs) (get_or h.rows (pin_at near arc).0 []) (has.0, place.0, has.1, has.2, holds))

pub seed-marked : (pins : ℕ) (near far : End) (arcs : List Arc) (seeds : List Bool) (order : List PinNo) (marks : List Bool) → IsPassed pins near far arcs seeds order marks →
    (pin : PinNo) → pin.0 < pins → get_or seeds pin.0 false ≡ true → get_or marks pin.0 false ≡ true
seed-marked pins near far arcs seeds order marks h pin below seed = (h.marked pin below).is ∙ or_left (get_or seeds pin.0 false) _ seed

-- back along the arcs: the marked pins are those that lead to a seed
leads-sound : (pins : ℕ) (arcs : List Arc) (targets : List PinNo) (seeds : List Bool) (order : List PinNo) (marks : List Bool) → IsPassed pins From To arcs seeds order marks →
    AreFlags pins targets seeds → (n k : ℕ) (pin : PinNo) → k < n → slice_get order k ≡ Some pin → get_or marks pin.0 false ≡ true → LeadsTo arcs targets pin
leads-sound pins arcs targets seeds order marks h flags zero k pin lt at is = absurd (omega arith)
leads-sound pins arcs targets seeds order marks h flags (suc n) k pin lt at is =
    by_case (mark-came pins From To arcs seeds order marks h k pin at is)
    (λ j other less there marked. leads-sound pins arcs targets seeds order marks h flags n j other less there marked)
  where
    by_case : ((get_or seeds pin.0 false ≡ true) ⊎ CameAlong From To arcs order marks k pin) →
        ((j : ℕ) (other : PinNo) → j < n → slice_get order j ≡ Some other → get_or marks other.0 false ≡ true → LeadsTo arcs targets other) → LeadsTo arcs targets pin
    by_case (inl seed) again = record { steps = []; next = tt; there = (flags.exact pin (h.below k pin at)).0 seed }
    by_case (inr along) again =
        let less = along.lt in
        let there : LeadsTo arcs targets along.arc.to = again along.before along.arc.to (omega arith) along.is along.marked in
        record { steps = along.arc.to ∷ there.steps; next = (record { arc = along.arc; listed = along.listed; from = along.meets; to = refl }, there.next); there = there.there }

leads-whole : (pins : ℕ) (arcs : List Arc) (targets : List PinNo) (seeds : List Bool) (order : List PinNo) (marks : List Bool) → IsPassed pins From To arcs seeds order marks →
    AreFlags pins targets seeds → All (λ arc. arc.to.0 < pins) arcs → (pin : PinNo) (steps : List PinNo) → pin.0 < pins → EachNext arcs pin steps → Contains targets (last_pin pin steps) →
    get_or marks pin.0 false ≡ true
leads-whole pins arcs targets seeds order marks h flags to pin [] below next there =
    seed-marked pins From To arcs seeds order marks h pin below ((flags.exact pin below).1 there)
leads-whole pins arcs targets seeds order marks h flags to pin (b ∷ rest) below next there =
    let step : HasArc arcs pin b = next.0 in
    let end : step.arc.to.0 < pins = All-contains (λ (arc : Arc). arc.to.0 < pins) arcs step.arc to step.listed in
    let b_below : b.0 < pins = subst (λ (p : PinNo). p.0 < pins) step.to end in
    let marked : get_or marks b.0 false ≡ true = leads-whole pins arcs targets seeds order marks h flags to b rest b_below next.1 there in
    subst (λ (p : PinNo). get_or marks p.0 false ≡ true) step.from
    (mark-goes pins From To arcs seeds order marks h step.arc step.listed (subst (λ (p : PinNo). p.0 < pins) (sym step.from) below)
    (subst (λ (p : PinNo). get_or marks p.0 false ≡ true) (sym step.to) marked))

pub leads-exact : (pins : ℕ) (arcs : List Arc) (targets : List PinNo) (seeds : List Bool) (order : List PinNo) (marks : List Bool) → IsPassed pins From To arcs seeds order marks →
    AreFlags pins targets seeds → All (λ arc. arc.to.0 < pins) arcs → length marks ≡ pins → AreExact pins (LeadsTo arcs targets) marks
leads-exact pins arcs targets seeds order marks h flags to count = record {
  count = count;
  exact = λ pin below. (
    (λ is. let at = h.each pin below in leads-sound pins arcs targets seeds order marks h flags (suc at.0) at.0 pin (omega arith) at.1 is),
    (λ leads. leads-whole pins arcs targets seeds order marks h flags to pin leads.steps below leads.next leads.there),
  );
}

-- forward along the arcs: the marked pins are those that a seed leads to
led-sound : (pins : ℕ) (arcs : List Arc) (sources : List PinNo) (seeds : List Bool) (order : List PinNo) (marks : List Bool) → IsPassed pins To From arcs seeds order marks →
    AreFlags pins sources seeds → (n k : ℕ) (pin : PinNo) → k < n → slice_get order k ≡ Some pin → get_or marks pin.0 false ≡ true → IsLedTo arcs sources pin
led-sound pins arcs sources seeds order marks h flags zero k pin lt at is = absurd (omega arith)
led-sound pins arcs sources seeds order marks h flags (suc n) k pin lt at is =
    by_case (mark-came pins To From arcs seeds order marks h k pin at is)
    (λ j other less there marked. led-sound pins arcs sources seeds order marks h flags n j other less there marked)
  where
    by_case : ((get_or seeds pin.0 false ≡ true) ⊎ CameAlong To From arcs order marks k pin) →
        ((j : ℕ) (other : PinNo) → j < n → slice_get order j ≡ Some other → get_or marks other.0 false ≡ true → IsLedTo arcs sources other) → IsLedTo arcs sources pin
    by_case (inl seed) again = record { first = pin; steps = []; begins = (flags.exact pin (h.below k pin at)).0 seed; next = tt; ends = refl }
    by_case (inr along) again =
        let less = along.lt in
        let there : IsLedTo arcs sources along.arc.from = again along.before along.arc.from (omega arith) along.is along.marked in
        let step : HasArc arcs (last_pin there.first there.steps) pin = record { arc = along.arc; listed = along.listed; from = sym there.ends; to = along.meets } in
        record {
          first = there.first;
          steps = there.steps ++ pin ∷ [];
          begins = there.begins;
          next = EachNext-append arcs there.first there.steps (pin ∷ []) there.next (step, tt);
          ends = last_pin-append there.first there.steps (pin ∷ []);
        }

led-on : (pins : ℕ) (arcs : List Arc) (seeds : List Bool) (order : List PinNo) (marks : List Bool) → IsPassed pins To From arcs seeds order marks →
    All (λ arc. arc.to.0 < pins) arcs → (pin : PinNo) (steps : List PinNo) → get_or marks pin.0 false ≡ true → EachNext arcs pin steps → get_or marks (last_pin pin steps).0 false ≡ true
led-on pins arcs seeds order marks h to pin [] is next = is
led-on pins arcs seeds order marks h to pin (b ∷ rest) is next =
    let step : HasArc arcs pin b = next.0 in
    let end : step.arc.to.0 < pins = All-contains (λ (arc : Arc). arc.to.0 < pins) arcs step.arc to step.listed in
    let marked : get_or marks b.0 false ≡ true =
    subst (λ (p : PinNo). get_or marks p.0 false ≡ true) step.to
    (mark-goes pins To From arcs seeds order marks h step.arc step.listed end
    (subst (λ (p : PinNo). get_or marks p.0 false ≡ true) (sym step.from) is)) in
    led-on pins arcs seeds order marks h to b rest marked next.1

pub led-exact : (pins : ℕ) (arcs : List Arc) (sources : List PinNo) (seeds : List Bool) (order : List PinNo) (marks : List Bool) → IsPassed pins To From arcs seeds order marks →
    AreFlags pins sources seeds → All (λ pin. pin.0 < pins) sources → All (λ arc. arc.to.0 < pins) arcs → length marks ≡ pins → AreExact pins (IsLedTo arcs sources) marks
led-exact pins arcs sources seeds order marks h flags there to count = record {
  count = count;
  exact = λ pin below. (
    (λ is. let at = h.each pin below in led-sound pins arcs sources seeds order marks h flags (suc at.0) at.0 pin (omega arith) at.1 is),
    (λ led.
        let first : led.first.0 < pins = All-contains (λ (p : PinNo). p.0 < pins) sources led.first there led.begins in
        subst (λ (p : PinNo). get_or marks p.0 false ≡ true) led.ends
        (led-on pins arcs seeds order marks h to led.first led.steps (seed-marked pins To From arcs seeds order marks h led.first first ((flags.exact led.first first).1 led.begins)) led.next)),
  );
}

-- what the code reads of the arc at a place
pub is_marked-read : (marks : List Bool) (far : End) (arcs : List Arc) (place : ℕ) (d : Arc) (pin : PinNo) (e mark : Bool) → place < length arcs → pin ≡ pin_at far (get_or arcs place d) →
    All (λ arc. (pin_at far arc).0 < length marks) arcs → get_or marks pin.0 e ≡ mark → is_marked marks far arcs place ≡ mark
is_marked-read marks far arcs place d pin e mark below is ends read =
    let there : pin.0 < length marks = subst (λ (p : PinNo). p.0 < length marks) (sym is) (ends place d below) in
    ap (λ (o : Option Arc). get_or marks (far_pin far o) false) (slice_get-get_or arcs place d below)
    ∙ ap (λ (p : PinNo). get_or marks p.0 false) (sym is)
    ∙ get_or_default marks pin.0 false e there
    ∙ read
