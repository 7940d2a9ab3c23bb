-- From the equations that hold at each pin after the pass: no path's sum is below what comes to its end, and a walk back
-- from a pin finds a path that has that sum.
use Rattle.std.proofs.Common.{◌≡◌, ℕ, ◌<◌, List, [], ◌∷◌, map, length, Bool, true, false, cond, refl, ap, sym, ◌∙◌, arith, get_or, ◌⊎◌, inl, inr}
use Rattle.std.specs.Prelude.{Option, Some, None, ℤ, pos, ◌+ℤ◌, slice_get, slice_index_or, int_lt}
use Rattle.std.proofs.lemmas.Int.{ints, clamps}
use Rattle.std.proofs.lemmas.Option.{slice_get_within, slice_get_read, get_or_from_slice_get, same_Some, none-some}
use Rattle.hold_base.specs.declared.number.PinNo.{PinNo}
use Rattle.hold_base.specs.declared.time.Side.{Side}
use Rattle.hold_base.specs.declared.time.Side.TheVariants.{Early, Late}
use Rattle.hold_graph.specs.declared.graph.Arc.{Arc}
use Rattle.hold_graph.specs.declared.problem.Spans.{Spans}
use Rattle.hold_graph.specs.Path.{HasArc, EachNext, last_pin}
use Rattle.hold_graph.specs.inner.Arrival.{signed, weight, lesser, AtMost, extended, origin, offer, IsRight, coming, signed_steps, IsSettled, IsFound, CameBy}
use Rattle.hold_graph.proofs.Places.{same_pin, into_once}
use Rattle.hold_graph.proofs.Steps.{step_of, step_of-arc, signed-add}

AtMost-extended : (o : Option ℤ) (x w : ℤ) → AtMost o x → AtMost (extended o w) (x +ℤ w)
AtMost-extended None x w h = h
AtMost-extended (Some a) x w h = omega (arith, ints)

AtMost-lesser_left : (a b : Option ℤ) (x : ℤ) → AtMost a x → AtMost (lesser a b) x
AtMost-lesser_left None b x h = absurd h
AtMost-lesser_left (Some a) None x h = h
AtMost-lesser_left (Some a) (Some b) x h = omega (arith, ints, clamps)

AtMost-lesser_right : (a b : Option ℤ) (x : ℤ) → AtMost b x → AtMost (lesser a b) x
AtMost-lesser_right None b x h = h
AtMost-lesser_right (Some a) None x h = absurd h
AtMost-lesser_right (Some a) (Some b) x h = omega (arith, ints, clamps)

AtMost-same : (a b : Option ℤ) (x y : ℤ) → a ≡ b → x ≡ y → AtMost b y → AtMost a x
AtMost-same a b x y e f h = rw (e, f) h

-- the place of an arc in the list
pub record IsPlace (arcs : List Arc) (a b : PinNo) : Type 0 where
  pub place : ℕ
  pub arc : Arc
  pub is : slice_get arcs place ≡ Some arc
  pub from : arc.from ≡ a
  pub to : arc.to ≡ b

place_of : (arcs : List Arc) (a b : PinNo) → HasArc arcs a b → IsPlace arcs a b
place_of arcs a b h =
    record { place = h.listed.0; arc = h.arc; is = slice_get_read arcs (length arcs) h.listed.0 h.arc refl h.listed.1 (sym h.listed.2); from = h.from; to = h.to }

-- what an arc brings to the pin that it ends at
pub coming-arc : (side : Side) (pins : ℕ) (arcs : List Arc) (spans : Spans) (starts : List (Option ℤ)) (into : List (Option ℕ)) (best : List (Option ℤ)) →
    IsSettled side pins arcs spans starts into best → (place : ℕ) (arc : Arc) → slice_get arcs place ≡ Some arc →
    coming side arcs spans into best arc.to ≡ extended (get_or best arc.from.0 None) (step_of side arcs spans arc.from arc.to)
coming-arc side pins arcs spans starts into best h place arc at =
    let step = step_of-arc side arcs spans place arc (into_once arcs into h.places) h.each at in
    let e : get_or into arc.to.0 None ≡ Some place = h.places.ends place arc at in
    let weights : List ℤ = map (weight side) spans.arcs in
    ap (offer arcs weights best) e
    ∙ ap (λ (o : Option Arc). extended (get_or best (origin o) None) (get_or weights place (pos 0))) at
    ∙ ap (extended (get_or best arc.from.0 None)) (sym step)

-- the same for a step's pins
comes : (side : Side) (pins : ℕ) (arcs : List Arc) (spans : Spans) (starts : List (Option ℤ)) (into : List (Option ℕ)) (best : List (Option ℤ)) →
    IsSettled side pins arcs spans starts into best → (a b : PinNo) → IsPlace arcs a b →
    coming side arcs spans into best b ≡ extended (get_or best a.0 None) (step_of side arcs spans a b)
comes side pins arcs spans starts into best h a b p =
    rw (← p.from, ← p.to) (coming-arc side pins arcs spans starts into best h p.place p.arc p.is)

pub signed_steps-cons : (side : Side) (arcs : List Arc) (spans : Spans) (a b : PinNo) (rest : List PinNo) →
    signed_steps side arcs spans a (b ∷ rest) ≡ step_of side arcs spans a b +ℤ signed_steps side arcs spans b rest
signed_steps-cons side arcs spans a b rest = signed-add side _ _

pub signed-zero : (side : Side) → signed side (pos 0) ≡ pos 0
signed-zero Early = refl
signed-zero Late = refl

to_below : (side : Side) (pins : ℕ) (arcs : List Arc) (spans : Spans) (starts : List (Option ℤ)) (into : List (Option ℕ)) (best : List (Option ℤ)) →
    IsSettled side pins arcs spans starts into best → (a b : PinNo) → IsPlace arcs a b → b.0 < pins
to_below side pins arcs spans starts into best h a b p =
    let k : p.place < length arcs = slice_get_within arcs p.place p.arc p.is in
    let at : get_or arcs p.place p.arc ≡ p.arc = get_or_from_slice_get arcs p.place p.arc p.arc p.is in
    let low : (get_or arcs p.place p.arc).to.0 < pins = h.to p.place p.arc k in
    let e : (get_or arcs p.place p.arc).to.0 ≡ b.0 = ap (λ (x : Arc). x.to.0) at ∙ ap (λ (x : PinNo). x.0) p.to in
    omega arith

-- no path's sum is below what comes to its end
pub no_path_below : (side : Side) (pins : ℕ) (arcs : List Arc) (spans : Spans) (starts : List (Option ℤ)) (into : List (Option ℕ)) (best : List (Option ℤ)) →
    IsSettled side pins arcs spans starts into best → (a b : PinNo) (rest : List PinNo) (x : ℤ) →
    AtMost (get_or best a.0 None) x → EachNext arcs a (b ∷ rest) →
    AtMost (coming side arcs spans into best (last_pin b rest)) (x +ℤ signed_steps side arcs spans a (b ∷ rest))
no_path_below side pins arcs spans starts into best h a b [] x least next =
    let more = signed_steps-cons side arcs spans a b [] in
    let zero = signed-zero side in
    AtMost-same _ _ (x +ℤ signed_steps side arcs spans a (b ∷ [])) (x +ℤ step_of side arcs spans a b)
    (comes side pins arcs spans starts into best h a b (place_of arcs a b next.0)) (omega (arith, ints, more, zero))
    (AtMost-extended (get_or best a.0 None) x (step_of side arcs spans a b) least)
no_path_below side pins arcs spans starts into best h a b (c ∷ rest) x least next =
    let more = signed_steps-cons side arcs spans a b (c ∷ rest) in
    let place : IsPlace arcs a b = place_of arcs a b next.0 in
    let step : ℤ = step_of side arcs spans a b in
    let comes_b : AtMost (coming side arcs spans into best b) (x +ℤ step) =
    AtMost-same _ _ (x +ℤ step) (x +ℤ step) (comes side pins arcs spans starts into best h a b place) refl
    (AtMost-extended (get_or best a.0 None) x step least) in
    let right : IsRight arcs (map (weight side) spans.arcs) starts into best b.0 = h.right b.0 (to_below side pins arcs spans starts into best h a b place) in
    let best_b : AtMost (get_or best b.0 None) (x +ℤ step) =
    AtMost-same _ _ (x +ℤ step) (x +ℤ step) right.is refl
    (AtMost-lesser_right (get_or starts b.0 None) (coming side arcs spans into best b) (x +ℤ step) comes_b) in
    AtMost-same (coming side arcs spans into best (last_pin c rest)) (coming side arcs spans into best (last_pin c rest))
    (x +ℤ signed_steps side arcs spans a (b ∷ c ∷ rest)) ((x +ℤ step) +ℤ signed_steps side arcs spans b (c ∷ rest)) refl (omega (arith, ints, more))
    (no_path_below side pins arcs spans starts into best h b c rest (x +ℤ step) best_b next.1)

-- the best at a pin is at most its own start
pub start_at_most : (arcs : List Arc) (weights : List ℤ) (starts : List (Option ℤ)) (into : List (Option ℕ)) (best : List (Option ℤ)) (pin : ℕ) (x : ℤ) →
    IsRight arcs weights starts into best pin → AtMost (get_or starts pin None) x → AtMost (get_or best pin None) x
start_at_most arcs weights starts into best pin x right h =
    AtMost-same _ _ x x right.is refl (AtMost-lesser_left (get_or starts pin None) (offer arcs weights best (get_or into pin None)) x h)

-- the pins after this one lead to the capture, and any least walk to this pin, gone on with them, has the sum
pub record IsTail (side : Side) (arcs : List Arc) (spans : Spans) (best : List (Option ℤ)) (pin : PinNo) (rest : List PinNo) (capture : PinNo) (sum : ℤ) : Type 0 where
  pub next : EachNext arcs pin rest
  pub last : last_pin pin rest ≡ capture
  pub value : extended (get_or best pin.0 None) (signed_steps side arcs spans pin rest) ≡ Some sum

extended-extended : (o : Option ℤ) (x y : ℤ) → extended (extended o x) y ≡ extended o (x +ℤ y)
extended-extended None x y = refl
extended-extended (Some a) x y = ap (λ (z : ℤ). Some z) (omega (arith, ints))

-- one step back along the arc that ends at the pin
pub tail_more : (side : Side) (pins : ℕ) (arcs : List Arc) (spans : Spans) (starts : List (Option ℤ)) (into : List (Option ℕ)) (best : List (Option ℤ)) →
    IsSettled side pins arcs spans starts into best → (pin : PinNo) (rest : List PinNo) (capture : PinNo) (sum : ℤ) (place : ℕ) (arc : Arc) →
    get_or into pin.0 None ≡ Some place → slice_get arcs place ≡ Some arc →
    EachNext arcs pin rest → last_pin pin rest ≡ capture →
    extended (coming side arcs spans into best pin) (signed_steps side arcs spans pin rest) ≡ Some sum →
    IsTail side arcs spans best arc.from (pin ∷ rest) capture sum
tail_more side pins arcs spans starts into best h pin rest capture sum place arc in_place at next last value =
    let ends = h.places.only pin.0 place in_place in
    let same : arc ≡ ends.0 = same_Some arc ends.0 (sym at ∙ ends.1) in
    let to : arc.to ≡ pin = same_pin arc.to pin (ap (λ (x : Arc). x.to.0) same ∙ ends.2) in
    let there : IsPlace arcs arc.from pin = record { place = place; arc = arc; is = at; from = refl; to = to } in
    let arrives : HasArc arcs arc.from pin =
    record { arc = arc; listed = (place, slice_get_within arcs place arc at, get_or_from_slice_get arcs place arc arc at); from = refl; to = to } in
    record {
      next = (arrives, next);
      last = last;
      value = ap (extended (get_or best arc.from.0 None)) (signed_steps-cons side arcs spans arc.from pin rest)
          ∙ sym (extended-extended (get_or best arc.from.0 None) (step_of side arcs spans arc.from pin) (signed_steps side arcs spans pin rest))
          ∙ ap (λ (o : Option ℤ). extended o (signed_steps side arcs spans pin rest)) (sym (comes side pins arcs spans starts into best h arc.from pin there))
          ∙ value;
    }

-- where a walk begins at the pin: its start and the steps after it have the sum
pub record IsBegun (side : Side) (arcs : List Arc) (spans : Spans) (starts : List (Option ℤ)) (pin : PinNo) (rest : List PinNo) (sum : ℤ) : Type 0 where
  pub start : ℤ
  pub is : get_or starts pin.0 None ≡ Some start
  pub value : start +ℤ signed_steps side arcs spans pin rest ≡ sum

begun_from : (o : Option ℤ) (steps sum : ℤ) → extended o steps ≡ Some sum → (start : ℤ) × (o ≡ Some start) × (start +ℤ steps ≡ sum)
begun_from None steps sum e = cc
begun_from (Some a) steps sum e = (a, refl, same_Some (a +ℤ steps) sum e)

pub tail_end : (side : Side) (arcs : List Arc) (spans : Spans) (starts best : List (Option ℤ)) (pin : PinNo) (rest : List PinNo) (capture : PinNo) (sum : ℤ) →
    IsTail side arcs spans best pin rest capture sum → get_or best pin.0 None ≡ get_or starts pin.0 None →
    IsBegun side arcs spans starts pin rest sum
tail_end side arcs spans starts best pin rest capture sum tail own =
    let begun = begun_from (get_or starts pin.0 None) (signed_steps side arcs spans pin rest) sum
    (ap (λ (o : Option ℤ). extended o (signed_steps side arcs spans pin rest)) (sym own) ∙ tail.value) in
    record { start = begun.0; is = begun.1; value = begun.2 }

-- the state of the walk back at a pin: `by` is the place of the arc to go back along, and none where the walk begins
pub record IsBack (side : Side) (arcs : List Arc) (spans : Spans) (starts : List (Option ℤ)) (into : List (Option ℕ)) (best : List (Option ℤ)) (pin : PinNo) (rest : List PinNo) (by : Option ℕ) (capture : PinNo) (sum : ℤ) : Type 0 where
  pub next : EachNext arcs pin rest
  pub last : last_pin pin rest ≡ capture
  pub begun : by ≡ None → IsFound side arcs spans starts (pin ∷ rest) capture sum
  pub place : (k : ℕ) → by ≡ Some k → slice_index_or into pin.0 None ≡ Some k
  pub value : (k : ℕ) → by ≡ Some k → extended (coming side arcs spans into best pin) (signed_steps side arcs spans pin rest) ≡ Some sum

coming-none : (side : Side) (arcs : List Arc) (spans : Spans) (into : List (Option ℕ)) (best : List (Option ℤ)) (pin : PinNo) →
    get_or into pin.0 None ≡ None → coming side arcs spans into best pin ≡ None
coming-none side arcs spans into best pin e = ap (offer arcs (map (weight side) spans.arcs) best) e

lesser-none : (o : Option ℤ) → lesser o None ≡ o
lesser-none None = refl
lesser-none (Some x) = refl

-- where the best is not a pin's own start, it is what comes there
lesser_other : (a b : Option ℤ) → (lesser a b ≡ a) ⊎ (lesser a b ≡ b)
lesser_other None b = inr refl
lesser_other (Some x) None = inl refl
lesser_other (Some x) (Some y) = by_least (int_lt y x)
  where
    by_least : (t : Bool) → (Some (cond t y x) ≡ Some x) ⊎ (Some (cond t y x) ≡ Some y)
    by_least true = inr refl
    by_least false = inl refl

found_begun : (side : Side) (arcs : List Arc) (spans : Spans) (starts best : List (Option ℤ)) (pin second : PinNo) (rest : List PinNo) (capture : PinNo) (sum : ℤ) →
    IsTail side arcs spans best pin (second ∷ rest) capture sum → get_or best pin.0 None ≡ get_or starts pin.0 None →
    IsFound side arcs spans starts (pin ∷ second ∷ rest) capture sum
found_begun side arcs spans starts best pin second rest capture sum tail own =
    let begun = tail_end side arcs spans starts best pin (second ∷ rest) capture sum tail own in
    record {
      first = pin;
      second = second;
      rest = rest;
      split = refl;
      next = tail.next;
      last = tail.last;
      start = begun.start;
      begins = begun.is;
      value = begun.value;
    }

-- where the best at a pin differs from its start, it is what comes there
best_comes : (side : Side) (arcs : List Arc) (spans : Spans) (starts : List (Option ℤ)) (into : List (Option ℕ)) (best : List (Option ℤ)) (pin : PinNo) →
    IsRight arcs (map (weight side) spans.arcs) starts into best pin.0 → (get_or best pin.0 None ≡ get_or starts pin.0 None → ⊥) →
    get_or best pin.0 None ≡ coming side arcs spans into best pin
best_comes side arcs spans starts into best pin right differs =
    by_case (lesser_other (get_or starts pin.0 None) (coming side arcs spans into best pin))
  where
    by_case : ((lesser (get_or starts pin.0 None) (coming side arcs spans into best pin) ≡ get_or starts pin.0 None) ⊎ (lesser (get_or starts pin.0 None) (coming side arcs spans into best pin) ≡ coming side arcs spans into best pin)) →
        get_or best pin.0 None ≡ coming side arcs spans into best pin
    by_case (inl e) = absurd (differs (right.is ∙ e))
    by_case (inr e) = right.is ∙ e

-- a step back: from the pin to the one that its arc leads from
pub back_more : (side : Side) (pins : ℕ) (arcs : List Arc) (spans : Spans) (starts : List (Option ℤ)) (into : List (Option ℕ)) (best : List (Option ℤ)) →
    IsSettled side pins arcs spans starts into best → (pin : PinNo) (rest : List PinNo) (k : ℕ) (capture : PinNo) (sum : ℤ) →
    IsBack side arcs spans starts into best pin rest (Some k) capture sum → (arc : Arc) (by : Option ℕ) → arc.from.0 < pins → slice_get arcs k ≡ Some arc →
    CameBy (get_or best arc.from.0 None) (get_or starts arc.from.0 None) (get_or into arc.from.0 None) by →
    IsBack side arcs spans starts into best arc.from (pin ∷ rest) by capture sum
back_more side pins arcs spans starts into best h pin rest k capture sum back arc by below at came =
    by_case (tail_more side pins arcs spans starts into best h pin rest capture sum k arc (back.place k refl) at back.next back.last (back.value k refl)) came
  where
    by_case : IsTail side arcs spans best arc.from (pin ∷ rest) capture sum →
        CameBy (get_or best arc.from.0 None) (get_or starts arc.from.0 None) (get_or into arc.from.0 None) by →
        IsBack side arcs spans starts into best arc.from (pin ∷ rest) by capture sum
    by_case tail (inl here) = record {
      next = tail.next;
      last = tail.last;
      begun = λ e. found_begun side arcs spans starts best arc.from pin rest capture sum tail here.0;
      place = λ j e. absurd (none-some j (sym here.1 ∙ e));
      value = λ j e. absurd (none-some j (sym here.1 ∙ e));
    }
    by_case tail (inr on) =
        let comes_here : get_or best arc.from.0 None ≡ coming side arcs spans into best arc.from =
        best_comes side arcs spans starts into best arc.from (h.right arc.from.0 below) on.0 in
        record {
          next = tail.next;
          last = tail.last;
          begun = λ e. absurd (on.0 ((h.right arc.from.0 below).is
              ∙ ap (lesser (get_or starts arc.from.0 None)) (coming-none side arcs spans into best arc.from (sym on.1 ∙ e)) ∙ lesser-none (get_or starts arc.from.0 None)));
          place = λ j e. sym on.1 ∙ e;
          value = λ j e. ap (λ (o : Option ℤ). extended o (signed_steps side arcs spans arc.from (pin ∷ rest))) (sym comes_here) ∙ tail.value;
        }

-- a walk that goes on goes along the arc that ends at the pin
pub came_place : (best own : Option ℤ) (place by : Option ℕ) (k : ℕ) → CameBy best own place by → by ≡ Some k → place ≡ Some k
came_place best own place by k (inl here) is = absurd (none-some k (sym here.1 ∙ is))
came_place best own place by k (inr on) is = sym on.1 ∙ is
