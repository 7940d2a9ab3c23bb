-- The pass over the pins in topological order: after so many turns the first pins have their arrivals, and the others what they
-- had by themselves.
use Rattle.std.proofs.Common.{◌≡◌, ℕ, ◌+◌, ◌*◌, ◌<◌, ◌≤◌, ◌==◌, List, length, refl, ap, sym, ◌∙◌, arith, get_or, set, ◌⊎◌, inl, inr, subst}
use Rattle.std.specs.Prelude.{Option, Some, None, ℤ, All, slice_get, Contains}
use Rattle.std.proofs.lemmas.Bool.{cases_eq}
use Rattle.std.proofs.lemmas.List.Elements.{All-weaker}
use Rattle.std.proofs.lemmas.List.{get_or-set_same, get_or-set_other}
use Rattle.std.proofs.lemmas.Option.{slice_get_within, slice_get_read, slice_get-get_or, same_Some}
use Rattle.hold_base.specs.declared.number.PinNo.{PinNo}
use Rattle.hold_base.specs.declared.time.Side.{Side}
use Rattle.hold_base.specs.Limits.{time_limit}
use Rattle.hold_base.specs.declared.time.Interval.{Interval}
use Rattle.hold_graph.proofs.PlacesOf.{places_of-below}
use Rattle.hold_graph.specs.declared.graph.Arc.{Arc}
use Rattle.hold_graph.specs.declared.graph.Parts.{Parts}
use Rattle.hold_graph.specs.declared.problem.Spans.{Spans}
use Rattle.hold_graph.specs.Adjacency.{places_into}
use Rattle.hold_graph.specs.Cycles.{IsTopological}
use Rattle.hold_graph.specs.Path.{HasArc}
use Rattle.hold_graph.specs.Sums.{Buffers, path_sum, added_from}
use Rattle.hold_graph.specs.Problem.{IsSpan, IsWithin}
use Rattle.hold_graph.proofs.Acyclic.{stands_before}
use Rattle.hold_timing.specs.Worst.{IsWalkTo, IsWorstOf}
use Rattle.hold_timing.specs.inner.Pass.{worse, coming, offers_from, IsStart, AreWithin, pad_limit, step_limit}
use Rattle.hold_timing.proofs.Bounds.{IsWithinIfThere, within-there_weaker, worse-within, AreWithin-set, AreWithin-weaker, offers-within, within-none}
use Rattle.hold_timing.proofs.Turns.{AreRightBefore, coming-worst, arrival-worst, into_from, IsInto}

pub record IsPassed (side : Side) (parts : Parts) (spans : Spans) (buffers : Buffers) (order : List PinNo) (k : ℕ) (arrivals : List (Option ℤ)) : Type 0 where
  pub done : (j : ℕ) (q : PinNo) → j < k → slice_get order j ≡ Some q → IsWorstOf side (IsWalkTo parts q) (path_sum side parts spans buffers) (get_or arrivals q.0 None)
  pub left : (j : ℕ) (q : PinNo) → k ≤ j → slice_get order j ≡ Some q → IsStart side parts spans q (get_or arrivals q.0 None)

pub passed_none : (side : Side) (parts : Parts) (spans : Spans) (buffers : Buffers) (order : List PinNo) (arrivals : List (Option ℤ)) →
    ((q : PinNo) → q.0 < parts.pins → IsStart side parts spans q (get_or arrivals q.0 None)) → IsTopological parts.pins parts.arcs order →
    IsPassed side parts spans buffers order 0 arrivals
passed_none side parts spans buffers order arrivals starts h = record {
  done = λ j q lt at. absurd (omega arith);
  left = λ j q le at. starts q (pin_below order parts.pins j q h.below at);
}
  where
    pin_below : (order : List PinNo) (pins : ℕ) (j : ℕ) (q : PinNo) → All (λ (pin : PinNo). pin.0 < pins) order → slice_get order j ≡ Some q → q.0 < pins
    pin_below order pins j q below at =
        let here : get_or order j q ≡ q = same_Some _ _ (sym (slice_get-get_or order j q (slice_get_within order j q at)) ∙ at) in
        subst (λ (p : PinNo). p.0 < pins) here (below j q (slice_get_within order j q at))

-- the pin of a turn
pub passed_more : (side : Side) (parts : Parts) (spans : Spans) (buffers : Buffers) (order : List PinNo) → IsTopological parts.pins parts.arcs order →
    length spans.arcs ≡ length parts.arcs → (k : ℕ) (p : PinNo) (arrivals : List (Option ℤ)) → slice_get order k ≡ Some p → p.0 < length arrivals →
    IsPassed side parts spans buffers order k arrivals →
    IsPassed side parts spans buffers order (k + 1) (set arrivals p.0 (worse side (get_or arrivals p.0 None) (coming side parts spans buffers arrivals p)))
passed_more side parts spans buffers order h each k p arrivals at below passed = record {
  done = λ j q lt is. by_case j q lt is (cases_eq q.0 p.0);
  left = λ j q le is.
      let apart : q.0 ≡ p.0 → ⊥ = λ e. differ j q is e (let m : k < j = omega arith in λ s. omega arith) in
      subst (IsStart side parts spans q) (sym (get_or-set_other arrivals p.0 q.0 new None apart)) (passed.left j q (omega arith) is);
}
  where
    new : Option ℤ
    new = worse side (get_or arrivals p.0 None) (coming side parts spans buffers arrivals p)

    differ : (j : ℕ) (q : PinNo) → slice_get order j ≡ Some q → q.0 ≡ p.0 → (j ≡ k → ⊥) → ⊥
    differ j q is e other = other (h.different j k p (is ∙ ap (λ (n : ℕ). let r : PinNo = record { 0 = n } in Some r) e) at)

    before : AreRightBefore side parts spans buffers p arrivals
    before = λ q has. let there = stands_before parts.pins parts.arcs order h q p k has at in passed.done there.0 q there.1 there.2

    by_case : (j : ℕ) (q : PinNo) → j < k + 1 → slice_get order j ≡ Some q → ((q.0 ≡ p.0) ⊎ (q.0 ≡ p.0 → ⊥)) →
        IsWorstOf side (IsWalkTo parts q) (path_sum side parts spans buffers) (get_or (set arrivals p.0 new) q.0 None)
    by_case j q lt is (inl same) =
        let here : IsWorstOf side (IsWalkTo parts p) (path_sum side parts spans buffers) (get_or (set arrivals p.0 new) p.0 None) =
        subst (IsWorstOf side (IsWalkTo parts p) (path_sum side parts spans buffers)) (sym (get_or-set_same arrivals p.0 new None below))
        (arrival-worst side parts spans buffers p (get_or arrivals p.0 None) (coming side parts spans buffers arrivals p) (passed.left k p (omega arith) at)
        (coming-worst side parts spans buffers p arrivals each before)) in
        subst (λ (r : PinNo). IsWorstOf side (IsWalkTo parts r) (path_sum side parts spans buffers) (get_or (set arrivals p.0 new) r.0 None))
        (ap (λ (n : ℕ). let r : PinNo = record { 0 = n } in r) (sym same)) here
    by_case j q lt is (inr other) =
        let earlier : j ≡ k → ⊥ = λ e. other (ap (λ (r : PinNo). r.0) (same_Some q p (sym is ∙ ap (slice_get order) e ∙ at))) in
        subst (IsWorstOf side (IsWalkTo parts q) (path_sum side parts spans buffers)) (sym (get_or-set_other arrivals p.0 q.0 new None other))
        (passed.done j q (omega (arith, earlier)) is)

-- after the last turn every pin has its arrival
pub passed_all : (side : Side) (parts : Parts) (spans : Spans) (buffers : Buffers) (order : List PinNo) → IsTopological parts.pins parts.arcs order →
    (k : ℕ) (arrivals : List (Option ℤ)) → length order ≤ k → IsPassed side parts spans buffers order k arrivals →
    (pin : PinNo) → pin.0 < parts.pins → IsWorstOf side (IsWalkTo parts pin) (path_sum side parts spans buffers) (get_or arrivals pin.0 None)
passed_all side parts spans buffers order h k arrivals all passed pin below =
    let listed : Contains order pin = h.each pin.0 below in
    passed.done listed.0 pin (let lt = listed.1 in omega arith) (slice_get_read order (length order) listed.0 pin refl listed.1 (sym listed.2))

pub coming-within : (side : Side) (parts : Parts) (spans : Spans) (buffers : Buffers) (arrivals : List (Option ℤ)) (p : PinNo) (limit : ℕ) →
    length spans.arcs ≡ length parts.arcs → All (IsSpan time_limit) spans.arcs → IsWithin pad_limit (added_from side 0 spans.kinds (buffers p)) → AreWithin limit arrivals →
    IsWithinIfThere (limit + step_limit) (coming side parts spans buffers arrivals p)
coming-within side parts spans buffers arrivals p limit each spans_in pad_in h =
    offers-within side parts.arcs spans.arcs arrivals (added_from side 0 spans.kinds (buffers p)) limit spans_in pad_in h None (places_into parts.arcs p)
    (λ place has. let into : IsInto parts.arcs p place = into_from parts.arcs p place has in
    let lt = slice_get_within parts.arcs place into.arc into.at in omega arith)
    (within-none (limit + step_limit))

-- one turn keeps the times within the limit of the turn
pub within_more : (side : Side) (arrivals : List (Option ℤ)) (at k : ℕ) (comes new : Option ℤ) → at < length arrivals → new ≡ worse side (get_or arrivals at None) comes →
    AreWithin (step_limit * (k + 1)) arrivals → IsWithinIfThere (step_limit * (k + 1) + step_limit) comes → AreWithin (step_limit * (k + 1 + 1)) (set arrivals at new)
within_more side arrivals at k comes new below is h w =
    AreWithin-set (step_limit * (k + 1 + 1)) arrivals at new below
    (AreWithin-weaker (step_limit * (k + 1)) (step_limit * (k + 1 + 1)) arrivals (omega arith) h)
    (subst (IsWithinIfThere (step_limit * (k + 1 + 1))) (sym is)
    (worse-within side (step_limit * (k + 1 + 1)) (get_or arrivals at None) comes
    (within-there_weaker (step_limit * (k + 1)) (step_limit * (k + 1 + 1)) (get_or arrivals at None) (omega arith) (h at))
    (within-there_weaker (step_limit * (k + 1) + step_limit) (step_limit * (k + 1 + 1)) comes (omega arith) w)))

pub places-below : (arcs given : List Arc) (places : List ℕ) (pin : PinNo) → given ≡ arcs → places ≡ places_into arcs pin → All (λ place. place < length given) places
places-below arcs given places pin is_arcs is_places =
    subst (λ (xs : List Arc). All (λ place. place < length xs) places) (sym is_arcs)
    (subst (All (λ (place : ℕ). place < length arcs)) (sym is_places)
    (All-weaker (λ (place : ℕ). place < 0 + length arcs) (λ (place : ℕ). place < length arcs) (λ place lt. omega arith) (places_into arcs pin)
    (places_of-below (λ (arc : Arc). arc.to.0 == pin.0) 0 arcs)))

pub coming_is : (side : Side) (parts : Parts) (spans : Spans) (buffers : Buffers) (arrivals : List (Option ℤ)) (pin : PinNo) (arcs : List Arc) (steps : List Interval) (pad : ℤ) (places : List ℕ) →
    arcs ≡ parts.arcs → steps ≡ spans.arcs → pad ≡ added_from side 0 spans.kinds (buffers pin) → places ≡ places_into parts.arcs pin →
    offers_from side arcs steps arrivals pad None places ≡ coming side parts spans buffers arrivals pin
coming_is side parts spans buffers arrivals pin arcs steps pad places a b d e = rw (a, b, d, e) refl
