-- Marks that spread along arcs, in an order in which the pins that they come from stand ahead, tell which pins are reached.
use Rattle.std.proofs.Common.{◌≡◌, ℕ, ◌+◌, ◌-◌, ◌<◌, ◌≤◌, ◌==◌, List, [], ◌∷◌, ◌++◌, length, set, get_or, Bool, true, false, refl, ap, sym, ◌∙◌, subst, ◌⊎◌, inl, inr, arith, eq-eqb}
use Rattle.std.specs.Prelude.{Some, slice_get, Contains, All, IsTrue, ◌↔◌, reverse}
use Rattle.std.proofs.lemmas.Bool.{cases_eq, eqb-true}
use Rattle.std.proofs.lemmas.List.{get_or-set_same, get_or-set_other, get_or_default, length-set}
use Rattle.std.proofs.lemmas.List.Elements.{All-contains}
use Rattle.std.proofs.lemmas.Option.{slice_get-get_or, slice_get_within, slice_get_read, get_or_from_slice_get, same_Some}
use Rattle.hold_base.specs.declared.number.PinNo.{PinNo}
use Rattle.hold_graph.specs.declared.graph.Arc.{Arc}
use Rattle.hold_graph.specs.Adjacency.{places_of}
use Rattle.hold_graph.specs.Cycles.{AreDifferent, IsTopological}
use Rattle.hold_graph.specs.Path.{HasArc, EachNext, last_pin}
use Rattle.hold_graph.specs.inner.Marks.{AreExact, AreFlags, LeadsTo}
use Rattle.hold_graph.proofs.Acyclic.{stands_before}
use Rattle.hold_graph.proofs.Ahead.{reverse_at, at_reverse, below_at, stands}
use Rattle.hold_graph.proofs.Paths.{EachNext-append, last_pin-append}
use Rattle.hold_graph.proofs.Places.{same_pin}
use Rattle.hold_graph.proofs.PlacesOf.{places_of-below, places_of-hold, places_of-each}
use Rattle.hold_uses.specs.declared.marks.Way.{Way}
use Rattle.hold_uses.specs.declared.marks.Way.TheVariants.{Forward, Back}
use Rattle.hold_uses.specs.inner.Marks.{far, near, is_marked, places_to, AnyMarked, ComesTo, Reaches, StandsAhead, AreMarked}

-- an item of a list stands at a place
pub place_of_item : {X : Type 0} (xs : List X) (x : X) → Contains xs x → (k : ℕ) × (slice_get xs k ≡ Some x)
place_of_item xs x listed = (listed.0, slice_get_read xs (length xs) listed.0 x refl listed.1 (sym listed.2))

pub item_at_place : {X : Type 0} (xs : List X) (k : ℕ) (x : X) → slice_get xs k ≡ Some x → Contains xs x
item_at_place xs k x is = (k, slice_get_within xs k x is, get_or_from_slice_get xs k x x is)

-- ---- the arcs at some places

-- none of the arcs at the first n places comes from a marked pin
pub record AreUnmarkedUpTo (way : Way) (arcs : List Arc) (marks : List Bool) (places : List ℕ) (n : ℕ) : Type 0 where
  pub none : (at place : ℕ) (arc : Arc) → at < n → slice_get places at ≡ Some place → slice_get arcs place ≡ Some arc → is_marked marks (far way arc) ≡ false

-- what the code reads of the arc at a place
module _ (way : Way) (arcs : List Arc) (marks : List Bool) (places : List ℕ) (i : ℕ) (i_below : i < length places) (d : Arc) (pin : PinNo) (e : Bool)
    (within : get_or places i 0 < length arcs) (is : pin ≡ far way (get_or arcs (get_or places i 0) d)) (each : All (λ arc. (far way arc).0 < length marks) arcs) where
  read : {b : Bool} → get_or marks pin.0 e ≡ b → is_marked marks (far way (get_or arcs (get_or places i 0) d)) ≡ b
  read {b} h =
      let below : pin.0 < length marks = subst (λ (p : PinNo). p.0 < length marks) (sym is) (each (get_or places i 0) d within) in
      ap (λ (p : PinNo). get_or marks p.0 false) (sym is) ∙ get_or_default marks pin.0 false e below ∙ h

  pub any-here : get_or marks pin.0 e ≡ true → AnyMarked way arcs marks places
  any-here h = record {
    at = i;
    place = get_or places i 0;
    is_place = slice_get-get_or places i 0 i_below;
    arc = get_or arcs (get_or places i 0) d;
    is_arc = slice_get-get_or arcs (get_or places i 0) d within;
    marked = read h;
  }

  pub unmarked-more : get_or marks pin.0 e ≡ false → AreUnmarkedUpTo way arcs marks places i → AreUnmarkedUpTo way arcs marks places (i + 1)
  unmarked-more h before = record { none = λ at place arc lt is_place is_arc. by at place arc lt is_place is_arc (cases_eq at i) }
    where
      by : (at place : ℕ) (arc : Arc) → at < i + 1 → slice_get places at ≡ Some place → slice_get arcs place ≡ Some arc → ((at ≡ i) ⊎ (at ≡ i → ⊥)) → is_marked marks (far way arc) ≡ false
      by at place arc lt is_place is_arc (inl here) =
          let same : place ≡ get_or places i 0 = same_Some place (get_or places i 0) (sym is_place ∙ ap (slice_get places) here ∙ slice_get-get_or places i 0 i_below) in
          let one : arc ≡ get_or arcs (get_or places i 0) d = same_Some arc (get_or arcs (get_or places i 0) d) (sym is_arc ∙ ap (slice_get arcs) same ∙ slice_get-get_or arcs (get_or places i 0) d within) in
          ap (λ (a : Arc). is_marked marks (far way a)) one ∙ read h
      by at place arc lt is_place is_arc (inr earlier) = before.none at place arc (omega arith) is_place is_arc

pub none-marked : (way : Way) (arcs : List Arc) (marks : List Bool) (places : List ℕ) (n : ℕ) → length places ≤ n → AreUnmarkedUpTo way arcs marks places n → AnyMarked way arcs marks places → ⊥
none-marked way arcs marks places n all h some =
    let off = h.none some.at some.place some.arc (let lt = slice_get_within places some.at some.place some.is_place in omega arith) some.is_place some.is_arc in
    let on = some.marked in
    cc

-- ---- the arcs to a pin

places-by : (way : Way) (arcs : List Arc) (pin : PinNo) → places_to way arcs pin ≡ places_of (λ arc. (near way arc).0 == pin.0) 0 arcs
places-by Forward arcs pin = refl
places-by Back arcs pin = refl

pub comes-from_any : (way : Way) (arcs : List Arc) (marks : List Bool) (pin : PinNo) → AnyMarked way arcs marks (places_to way arcs pin) → ComesTo way arcs marks pin
comes-from_any way arcs marks pin some =
    let listed : Contains (places_of (λ arc. (near way arc).0 == pin.0) 0 arcs) some.place =
    subst (λ (xs : List ℕ). Contains xs some.place) (places-by way arcs pin) (item_at_place (places_to way arcs pin) some.at some.place some.is_place) in
    let holds = All-contains (λ (k : ℕ). ((near way (get_or arcs k some.arc)).0 == pin.0) ≡ true) _ some.place (places_of-hold (λ arc. (near way arc).0 == pin.0) some.arc arcs 0 arcs refl) listed in
    let same : get_or arcs some.place some.arc ≡ some.arc = get_or_from_slice_get arcs some.place some.arc some.arc some.is_arc in
    record {
      arc = some.arc;
      listed = item_at_place arcs some.place some.arc some.is_arc;
      comes_to = same_pin (near way some.arc) pin (ap (λ (a : Arc). (near way a).0) (sym same) ∙ eqb-true _ _ holds);
      marked = some.marked;
    }

pub any-from_comes : (way : Way) (arcs : List Arc) (marks : List Bool) (pin : PinNo) → ComesTo way arcs marks pin → AnyMarked way arcs marks (places_to way arcs pin)
any-from_comes way arcs marks pin comes =
    let at = place_of_item arcs comes.arc comes.listed in
    let below = slice_get_within arcs at.0 comes.arc at.1 in
    let same : get_or arcs at.0 comes.arc ≡ comes.arc = get_or_from_slice_get arcs at.0 comes.arc comes.arc at.1 in
    let holds : ((near way (get_or arcs at.0 comes.arc)).0 == pin.0) ≡ true = eq-eqb _ _ (ap (λ (a : Arc). (near way a).0) same ∙ ap (λ (p : PinNo). p.0) comes.comes_to) in
    let listed = places_of-each (λ arc. (near way arc).0 == pin.0) 0 arcs at.0 comes.arc below holds in
    let there = place_of_item (places_to way arcs pin) at.0 (subst (λ (xs : List ℕ). Contains xs at.0) (sym (places-by way arcs pin)) (subst (Contains (places_of (λ arc. (near way arc).0 == pin.0) 0 arcs)) (omega arith) listed)) in
    record { at = there.0; place = at.0; is_place = there.1; arc = comes.arc; is_arc = at.1; marked = comes.marked }

-- ---- what is reached

pub record IsStep (way : Way) (arcs : List Arc) (listed : List PinNo) (pin : PinNo) : Type 0 where
  pub arc : Arc
  pub is_arc : Contains arcs arc
  pub comes_to : near way arc ≡ pin
  pub from : Reaches way arcs listed (far way arc)

pub reaches-listed : (way : Way) (arcs : List Arc) (listed : List PinNo) (pin : PinNo) → Contains listed pin → Reaches way arcs listed pin
reaches-listed Forward arcs listed pin has = record { first = pin; steps = []; begins = has; next = tt; ends = refl }
reaches-listed Back arcs listed pin has = record { steps = []; next = tt; there = has }

pub reaches-step : (way : Way) (arcs : List Arc) (listed : List PinNo) (pin : PinNo) → IsStep way arcs listed pin → Reaches way arcs listed pin
reaches-step Forward arcs listed pin step =
    let led = step.from in
    let last : HasArc arcs (last_pin led.first led.steps) pin = record { arc = step.arc; listed = step.is_arc; from = sym led.ends; to = step.comes_to } in
    record {
      first = led.first;
      steps = led.steps ++ pin ∷ [];
      begins = led.begins;
      next = EachNext-append arcs led.first led.steps (pin ∷ []) led.next (last, tt);
      ends = last_pin-append led.first led.steps (pin ∷ []);
    }
reaches-step Back arcs listed pin step =
    let leads = step.from in
    record { steps = step.arc.to ∷ leads.steps; next = (record { arc = step.arc; listed = step.is_arc; from = step.comes_to; to = refl }, leads.next); there = leads.there }

-- a walk of some steps, by its last one
pub record IsLastStep (arcs : List Arc) (a : PinNo) (steps : List PinNo) : Type 0 where
  pub before : List PinNo
  pub next : EachNext arcs a before
  pub last : HasArc arcs (last_pin a before) (last_pin a steps)

pub last-step : (arcs : List Arc) (a b : PinNo) (rest : List PinNo) → EachNext arcs a (b ∷ rest) → IsLastStep arcs a (b ∷ rest)
last-step arcs a b [] next = record { before = []; next = tt; last = next.0 }
last-step arcs a b (c ∷ rest) next =
    let there : IsLastStep arcs b (c ∷ rest) = last-step arcs b c rest next.1 in
    record { before = b ∷ there.before; next = (next.0, there.next); last = there.last }

pub reaches-cases : (way : Way) (arcs : List Arc) (listed : List PinNo) (pin : PinNo) → Reaches way arcs listed pin → Contains listed pin ⊎ IsStep way arcs listed pin
reaches-cases Forward arcs listed pin led = by led.steps led.next led.ends
  where
    by : (steps : List PinNo) → EachNext arcs led.first steps → last_pin led.first steps ≡ pin → Contains listed pin ⊎ IsStep Forward arcs listed pin
    by [] next ends = inl (subst (Contains listed) ends led.begins)
    by (b ∷ rest) next ends =
        let last : IsLastStep arcs led.first (b ∷ rest) = last-step arcs led.first b rest next in
        inr (record {
          arc = last.last.arc;
          is_arc = last.last.listed;
          comes_to = last.last.to ∙ ends;
          from = record { first = led.first; steps = last.before; begins = led.begins; next = last.next; ends = sym last.last.from };
        })
reaches-cases Back arcs listed pin leads = by leads.steps leads.next leads.there
  where
    by : (steps : List PinNo) → EachNext arcs pin steps → Contains listed (last_pin pin steps) → Contains listed pin ⊎ IsStep Back arcs listed pin
    by [] next there = inl there
    by (b ∷ rest) next there =
        inr (record {
          arc = next.0.arc;
          is_arc = next.0.listed;
          comes_to = next.0.from;
          from = subst (LeadsTo arcs listed) (sym next.0.to) (record { steps = rest; next = next.1; there = there });
        })

-- ---- the pass

-- the first n pins of the order are marked as they are reached, and the others where they are listed
pub record IsSpreadUpTo (way : Way) (pins : ℕ) (arcs : List Arc) (listed order : List PinNo) (n : ℕ) (marks : List Bool) : Type 0 where
  pub count : length marks ≡ pins
  pub done : AreMarked way arcs listed order n marks
  pub rest : (k : ℕ) (pin : PinNo) → n ≤ k → slice_get order k ≡ Some pin → IsTrue (is_marked marks pin) ↔ Contains listed pin

pub spread-none : (way : Way) (pins : ℕ) (arcs : List Arc) (listed order : List PinNo) (flags : List Bool) → All (λ pin. pin.0 < pins) order → AreFlags pins listed flags →
    IsSpreadUpTo way pins arcs listed order 0 flags
spread-none way pins arcs listed order flags below h = record {
  count = h.count;
  done = record { each = λ k pin lt at. absurd (omega arith) };
  rest = λ k pin le at. h.exact pin (below_at pins order below k pin at);
}

module _ (way : Way) (pins : ℕ) (arcs : List Arc) (listed order : List PinNo) (different : AreDifferent order) (ahead : StandsAhead way arcs order)
    (n : ℕ) (pin : PinNo) (here : slice_get order n ≡ Some pin) (marks : List Bool) (h : IsSpreadUpTo way pins arcs listed order n marks) where
  -- a mark comes to this pin exactly where an arc leads there from one that is reached
  comes-step : ComesTo way arcs marks pin → IsStep way arcs listed pin
  comes-step comes =
      let before = ahead.ahead n comes.arc (here ∙ ap (λ (p : PinNo). Some p) (sym comes.comes_to)) comes.listed in
      record { arc = comes.arc; is_arc = comes.listed; comes_to = comes.comes_to; from = (h.done.each before.0 (far way comes.arc) before.1 before.2).0 comes.marked }

  step-comes : IsStep way arcs listed pin → ComesTo way arcs marks pin
  step-comes step =
      let before = ahead.ahead n step.arc (here ∙ ap (λ (p : PinNo). Some p) (sym step.comes_to)) step.is_arc in
      record { arc = step.arc; listed = step.is_arc; comes_to = step.comes_to; marked = (h.done.each before.0 (far way step.arc) before.1 before.2).1 step.from }

  pub spread-kept : (ComesTo way arcs marks pin → ⊥) → IsSpreadUpTo way pins arcs listed order (n + 1) marks
  spread-kept none = record {
    count = h.count;
    done = record { each = λ k other lt at. by k other lt at (cases_eq k n) };
    rest = λ k other le at. h.rest k other (omega arith) at;
  }
    where
      by : (k : ℕ) (other : PinNo) → k < n + 1 → slice_get order k ≡ Some other → ((k ≡ n) ⊎ (k ≡ n → ⊥)) → IsTrue (is_marked marks other) ↔ Reaches way arcs listed other
      by k other lt at (inl e) =
          let same : other ≡ pin = same_Some other pin (sym at ∙ ap (slice_get order) e ∙ here) in
          let flag = h.rest n pin (omega arith) here in
          subst (λ (p : PinNo). IsTrue (is_marked marks p) ↔ Reaches way arcs listed p) (sym same) (
            (λ is. reaches-listed way arcs listed pin (flag.0 is)),
            (λ reaches. elim (reaches-cases way arcs listed pin reaches) [ inl has ↦ flag.1 has | inr step ↦ absurd (none (step-comes step)) ]),
          )
      by k other lt at (inr differs) = h.done.each k other (omega arith) at

  pub spread-marked : pin.0 < pins → ComesTo way arcs marks pin → IsSpreadUpTo way pins arcs listed order (n + 1) (set marks pin.0 true)
  spread-marked below comes = record {
    count = length-set marks pin.0 true ∙ h.count;
    done = record { each = λ k other lt at. by k other lt at (cases_eq k n) };
    rest = λ k other le at. kept k other at (omega arith) (h.rest k other (omega arith) at);
  }
    where
      unlike : (k : ℕ) (other : PinNo) → slice_get order k ≡ Some other → (k ≡ n → ⊥) → other.0 ≡ pin.0 → ⊥
      unlike k other at differs e = differs (different k n pin (at ∙ ap (λ (p : PinNo). Some p) (same_pin other pin e)) here)

      kept : {P : Type 0} (k : ℕ) (other : PinNo) → slice_get order k ≡ Some other → (k ≡ n → ⊥) → IsTrue (is_marked marks other) ↔ P → IsTrue (is_marked (set marks pin.0 true) other) ↔ P
      kept {P} k other at differs was =
          subst (λ (b : Bool). IsTrue b ↔ P) (sym (get_or-set_other marks pin.0 other.0 true false (unlike k other at differs))) was

      by : (k : ℕ) (other : PinNo) → k < n + 1 → slice_get order k ≡ Some other → ((k ≡ n) ⊎ (k ≡ n → ⊥)) → IsTrue (is_marked (set marks pin.0 true) other) ↔ Reaches way arcs listed other
      by k other lt at (inl e) =
          let same : other ≡ pin = same_Some other pin (sym at ∙ ap (slice_get order) e ∙ here) in
          subst (λ (p : PinNo). IsTrue (is_marked (set marks pin.0 true) p) ↔ Reaches way arcs listed p) (sym same) (
            (λ is. reaches-step way arcs listed pin (comes-step comes)),
            (λ reaches. let count = h.count in get_or-set_same marks pin.0 true false (omega arith)),
          )
      by k other lt at (inr differs) = kept k other at differs (h.done.each k other (omega arith) at)

pub spread-all : (way : Way) (arcs : List Arc) (listed order : List PinNo) (n : ℕ) (marks : List Bool) → length order ≤ n → AreMarked way arcs listed order n marks → AreMarked way arcs listed order (length order) marks
spread-all way arcs listed order n marks all h = record { each = λ k pin lt at. h.each k pin (omega arith) at }

-- ---- both ways

pub ahead-forward : (pins : ℕ) (arcs : List Arc) (order : List PinNo) → IsTopological pins arcs order → StandsAhead Forward arcs order
ahead-forward pins arcs order h = record {
  ahead = λ k arc at listed. stands_before pins arcs order h arc.from arc.to k (record { arc = arc; listed = listed; from = refl; to = refl }) at;
}

pub ahead-back : (pins : ℕ) (arcs : List Arc) (order : List PinNo) → All (λ arc. arc.to.0 < pins) arcs → IsTopological pins arcs order → StandsAhead Back arcs (reverse order)
ahead-back pins arcs order to h = record {
  ahead = λ k arc at listed.
      let here = reverse_at order k arc.from at in
      let later = stands pins arcs order h arc.to (All-contains (λ (a : Arc). a.to.0 < pins) arcs arc to listed) in
      let before = stands_before pins arcs order h arc.from arc.to later.0 (record { arc = arc; listed = listed; from = refl; to = refl }) later.1 in
      let same : before.0 ≡ here.0 = h.different before.0 here.0 arc.from before.2 here.2 in
      let within = slice_get_within order later.0 arc.to later.1 in
      let lt = before.1 in
      let sum = here.1 in
      (length order - 1 - later.0, (omega arith), at_reverse order later.0 (length order - 1 - later.0) arc.to (omega arith) later.1);
}

pub different-reverse : (order : List PinNo) → AreDifferent order → AreDifferent (reverse order)
different-reverse order h = λ j k pin at_j at_k.
    let a = reverse_at order j pin at_j in
    let b = reverse_at order k pin at_k in
    let same : a.0 ≡ b.0 = h a.0 b.0 pin a.2 b.2 in
    let sum_a = a.1 in
    let sum_b = b.1 in
    omega arith

-- each pin stands in the order, so the marks are exact
pub exact : (way : Way) (pins : ℕ) (arcs : List Arc) (listed order : List PinNo) (marks : List Bool) → ((pin : PinNo) → pin.0 < pins → (k : ℕ) × (slice_get order k ≡ Some pin)) → length marks ≡ pins →
    AreMarked way arcs listed order (length order) marks → AreExact pins (Reaches way arcs listed) marks
exact way pins arcs listed order marks each count h = record {
  count = count;
  exact = λ pin below. let at = each pin below in h.each at.0 pin (slice_get_within order at.0 pin at.1) at.1;
}

pub stands-reverse : (pins : ℕ) (arcs : List Arc) (order : List PinNo) → IsTopological pins arcs order → (pin : PinNo) → pin.0 < pins → (k : ℕ) × (slice_get (reverse order) k ≡ Some pin)
stands-reverse pins arcs order h pin below =
    let at = stands pins arcs order h pin below in
    let within = slice_get_within order at.0 pin at.1 in
    (length order - 1 - at.0, at_reverse order at.0 (length order - 1 - at.0) pin (omega arith) at.1)

pub places-within : (way : Way) (arcs : List Arc) (pin : PinNo) (places : List ℕ) → places ≡ places_to way arcs pin → All (λ place. place < length arcs) places
places-within way arcs pin places is =
    let e : 0 + length arcs ≡ length arcs = omega arith in
    subst (All (λ (place : ℕ). place < length arcs)) (sym (is ∙ places-by way arcs pin))
    (subst (λ (n : ℕ). All (λ (place : ℕ). place < n) (places_of (λ arc. (near way arc).0 == pin.0) 0 arcs)) e (places_of-below (λ arc. (near way arc).0 == pin.0) 0 arcs))
