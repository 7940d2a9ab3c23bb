-- The arc between two pins, looked for among those that end at the one.
use Rattle.std.proofs.Common.{◌≡◌, ℕ, ◌+◌, ◌<◌, ◌≤◌, ◌==◌, List, length, get_or, set, Bool, true, refl, ap, sym, ◌∙◌, subst, ◌⊎◌, inl, inr, arith, eq-eqb}
use Rattle.std.specs.Prelude.{Option, Some, None, slice_get, Contains, All}
use Rattle.std.proofs.lemmas.Bool.{cases_eq, eqb-true}
use Rattle.std.proofs.lemmas.List.{get_or-set_same, get_or-set_other, get_or_default}
use Rattle.std.proofs.lemmas.List.Elements.{All-contains}
use Rattle.std.proofs.lemmas.Option.{slice_get-get_or, slice_get_within, same_Some, get_or_from_slice_get}
use Rattle.hold_base.specs.declared.number.PinNo.{PinNo}
use Rattle.hold_graph.specs.declared.graph.Arc.{Arc}
use Rattle.hold_graph.specs.Adjacency.{places_into}
use Rattle.hold_graph.proofs.PlacesOf.{places_of-below, places_of-hold, places_of-each}
use Rattle.hold_base.specs.declared.time.Interval.{Interval}
use Rattle.hold_build.specs.Listing.{StandsOnce}
use Rattle.hold_graph.proofs.Places.{same_pin}
use Rattle.hold_told.specs.declared.named.Named.{Named}
use Rattle.hold_told.specs.declared.named.Named.TheVariants.{Pin}
use Rattle.hold_told.specs.inner.Told.{IsAdded, IsJoined, NamesPin, widened}
use Rattle.hold_told.proofs.ItemLemmas.{place_of_item, item_at_place}

same_arc : (arc : Arc) (from to : PinNo) (wire : Bool) → arc.from ≡ from → arc.to ≡ to → arc.wire ≡ wire → arc ≡ record { from = from; to = to; wire = wire }
same_arc arc from to wire e f g =
    ap (λ (p : PinNo). let a : Arc = record { from = p; to = arc.to; wire = arc.wire } in a) e
    ∙ ap (λ (p : PinNo). let a : Arc = record { from = from; to = p; wire = arc.wire } in a) f
    ∙ ap (λ (w : Bool). let a : Arc = record { from = from; to = to; wire = w } in a) g

-- none of the arcs at the first n of these places comes from the pin, along a wire or not
pub record IsUnlikeUpTo (arcs : List Arc) (places : List ℕ) (from : PinNo) (wire : Bool) (n : ℕ) : Type 0 where
  pub unlike : (at place : ℕ) (arc : Arc) → at < n → slice_get places at ≡ Some place → slice_get arcs place ≡ Some arc → (arc.from ≡ from) → (arc.wire ≡ wire) → ⊥

pub unlike-more : (arcs : List Arc) (places : List ℕ) (from : PinNo) (wire : Bool) (i : ℕ) (d : Arc) → i < length places → get_or places i 0 < length arcs →
    ((get_or arcs (get_or places i 0) d).from ≡ from → (get_or arcs (get_or places i 0) d).wire ≡ wire → ⊥) → IsUnlikeUpTo arcs places from wire i → IsUnlikeUpTo arcs places from wire (i + 1)
unlike-more arcs places from wire i d below within differs h = record { unlike = λ at place arc lt is_place is_arc begins along. by at place arc lt is_place is_arc begins along (cases_eq at i) }
  where
    by : (at place : ℕ) (arc : Arc) → at < i + 1 → slice_get places at ≡ Some place → slice_get arcs place ≡ Some arc → (arc.from ≡ from) → (arc.wire ≡ wire) → ((at ≡ i) ⊎ (at ≡ i → ⊥)) → ⊥
    by at place arc lt is_place is_arc begins along (inl here) =
        let same : place ≡ get_or places i 0 = same_Some place (get_or places i 0) (sym is_place ∙ ap (slice_get places) here ∙ slice_get-get_or places i 0 below) in
        let one : arc ≡ get_or arcs (get_or places i 0) d = same_Some arc (get_or arcs (get_or places i 0) d) (sym is_arc ∙ ap (slice_get arcs) same ∙ slice_get-get_or arcs (get_or places i 0) d within) in
        differs (ap (λ (a : Arc). a.from) (sym one) ∙ begins) (ap (λ (a : Arc). a.wire) (sym one) ∙ along)
    by at place arc lt is_place is_arc begins along (inr earlier) = h.unlike at place arc (omega arith) is_place is_arc begins along

-- so there is none where all were looked at
pub none-between : (arcs : List Arc) (places : List ℕ) (from to : PinNo) (wire : Bool) (n : ℕ) → places ≡ places_into arcs to → length places ≤ n → IsUnlikeUpTo arcs places from wire n →
    (k : ℕ) → slice_get arcs k ≡ Some (record { from = from; to = to; wire = wire }) → ⊥
none-between arcs places from to wire n row all h k at =
    let arc : Arc = record { from = from; to = to; wire = wire } in
    let below = slice_get_within arcs k arc at in
    let same : get_or arcs k arc ≡ arc = get_or_from_slice_get arcs k arc arc at in
    let holds : ((get_or arcs k arc).to.0 == to.0) ≡ true = eq-eqb _ _ (ap (λ (a : Arc). a.to.0) same) in
    let listed : Contains (places_into arcs to) k = subst (Contains (places_into arcs to)) (omega arith) (places_of-each (λ (a : Arc). a.to.0 == to.0) 0 arcs k arc below holds) in
    let there = place_of_item places k (subst (λ (xs : List ℕ). Contains xs k) (sym row) listed) in
    h.unlike there.0 k arc (let lt = slice_get_within places there.0 k there.1 in omega arith) there.1 at refl refl

-- the arc that was found
pub between-at : (arcs : List Arc) (places : List ℕ) (from to : PinNo) (wire : Bool) (i : ℕ) (d : Arc) → places ≡ places_into arcs to → i < length places → get_or places i 0 < length arcs →
    (get_or arcs (get_or places i 0) d).from ≡ from → (get_or arcs (get_or places i 0) d).wire ≡ wire → slice_get arcs (get_or places i 0) ≡ Some (record { from = from; to = to; wire = wire })
between-at arcs places from to wire i d row below within begins along =
    let place = get_or places i 0 in
    let listed : Contains (places_into arcs to) place = subst (λ (xs : List ℕ). Contains xs place) row (item_at_place places i place (slice_get-get_or places i 0 below)) in
    let holds = All-contains (λ (k : ℕ). ((get_or arcs k d).to.0 == to.0) ≡ true) (places_into arcs to) place (places_of-hold (λ a. a.to.0 == to.0) d arcs 0 arcs refl) listed in
    let ends : (get_or arcs place d).to ≡ to = same_pin (get_or arcs place d).to to (eqb-true _ _ holds) in
    let is : get_or arcs place d ≡ record { from = from; to = to; wire = wire } = same_arc (get_or arcs place d) from to wire begins ends along in
    slice_get-get_or arcs place d within ∙ ap (λ (a : Arc). Some a) is

pub places-into-within : (arcs : List Arc) (to : PinNo) (places : List ℕ) → places ≡ places_into arcs to → All (λ place. place < length arcs) places
places-into-within arcs to places row =
    let e : 0 + length arcs ≡ length arcs = omega arith in
    subst (All (λ (place : ℕ). place < length arcs)) (sym row)
    (subst (λ (n : ℕ). All (λ (place : ℕ). place < n) (places_into arcs to)) e (places_of-below (λ (a : Arc). a.to.0 == to.0) 0 arcs))

-- one place of a list is joined to, and every other one stays
pub added-at : {X : Type 0} (join : Option X → X → X) (Hit : ℕ → Type 0) (slots : List (Option X)) (at : ℕ) (x made : X) (read : Option X) → at < length slots → Hit at → read ≡ get_or slots at read → made ≡ join read x →
    (k : ℕ) → (Hit k → k ≡ at) → IsAdded join (Hit k) (Some x) (get_or slots k None) (get_or (set slots at (Some made)) k None)
added-at {X} join Hit slots at x made read below hit is_read joined k only = by (cases_eq k at)
  where
    is : made ≡ join (get_or slots at None) x
    is = joined ∙ ap (λ (o : Option X). join o x) (is_read ∙ get_or_default slots at read None below)

    by : ((k ≡ at) ⊎ (k ≡ at → ⊥)) → IsAdded join (Hit k) (Some x) (get_or slots k None) (get_or (set slots at (Some made)) k None)
    by (inl here) =
        let there = get_or-set_same slots at (Some made) None below in
        let now : get_or (set slots at (Some made)) k None ≡ Some (join (get_or slots k None) x) =
        ap (λ n. get_or (set slots at (Some made)) n None) here ∙ there ∙ ap (λ (y : X). Some y) is ∙ ap (λ n. Some (join (get_or slots n None) x)) (sym here) in
        inl (subst Hit (sym here) hit, now)
    by (inr differs) = inr ((λ hits. differs (only hits)), get_or-set_other slots at k (Some made) None differs)

pub span-added : (arcs : List Arc) → StandsOnce arcs → (n_from n_to : Named) (from to : PinNo) (wire : Bool) → n_from ≡ Pin from → n_to ≡ Pin to → (o : Option Interval) (span : Interval) → o ≡ Some span →
    (slots : List (Option Interval)) → length slots ≡ length arcs → (at : ℕ) → slice_get arcs at ≡ Some (record { from = from; to = to; wire = wire }) → (made : Interval) (read : Option Interval) → read ≡ get_or slots at read → made ≡ widened read span →
    (k : ℕ) (arc : Arc) → slice_get arcs k ≡ Some arc → IsAdded widened (IsJoined n_from n_to wire arc) o (get_or slots k None) (get_or (set slots at (Some made)) k None)
span-added arcs once n_from n_to from to wire is_from is_to o span is_span slots room at found made read is_read is k arc here =
    let joint : Arc = record { from = from; to = to; wire = wire } in
    let within = slice_get_within arcs at joint found in
    let Hit : ℕ → Type 0 = λ n. slice_get arcs n ≡ Some joint in
    let added = added-at widened Hit slots at span made read (omega arith) found is_read is k (λ hit. once k at joint hit found) in
    let same : IsJoined n_from n_to wire arc → slice_get arcs k ≡ Some joint = λ h.
    let b : from ≡ arc.from = subst (λ (n : Named). NamesPin n arc.from) is_from h.begins in
    let e : to ≡ arc.to = subst (λ (n : Named). NamesPin n arc.to) is_to h.ends in
    let whole : arc ≡ joint = same_arc arc from to wire (sym b) (sym e) h.along in
    here ∙ ap (λ (a : Arc). Some a) whole in
    let back : slice_get arcs k ≡ Some joint → IsJoined n_from n_to wire arc = λ e.
    let whole : joint ≡ arc = same_Some joint arc (sym e ∙ here) in
    record {
      along = ap (λ (a : Arc). a.wire) (sym whole);
      begins = subst (λ (n : Named). NamesPin n arc.from) (sym is_from) (ap (λ (a : Arc). a.from) whole);
      ends = subst (λ (n : Named). NamesPin n arc.to) (sym is_to) (ap (λ (a : Arc). a.to) whole);
    } in
    subst (λ (s : Option Interval). IsAdded widened (IsJoined n_from n_to wire arc) s (get_or slots k None) (get_or (set slots at (Some made)) k None)) (sym is_span)
    (elim added [ inl h ↦ inl (back h.0, h.1) | inr h ↦ inr ((λ j. h.0 (same j)), h.1) ])
