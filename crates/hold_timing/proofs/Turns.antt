-- One pin's turn: with the arrivals right at the pins that its arcs lead from, what comes to the pin is the worst sum of all paths
-- to it, and with its own launch the worst sum of all walks.
use Rattle.std.proofs.Common.{◌≡◌, ℕ, ◌+◌, ◌<◌, ◌==◌, List, [], ◌∷◌, ◌++◌, map, length, Bool, true, refl, ap, sym, ◌∙◌, arith, get_or, eq-eqb, ◌⊎◌, inl, inr, subst}
use Rattle.std.specs.Prelude.{Option, Some, None, ℤ, pos, ◌+ℤ◌, slice_get, option_map, Contains}
use Rattle.std.proofs.lemmas.Int.{ints}
use Rattle.std.proofs.lemmas.Option.{same_Some, none-some, slice_get-map, slice_get_within, slice_get_read, slice_get-get_or, get_or_from_slice_get}
use Rattle.std.proofs.lemmas.List.Elements.{All-contains}
use Rattle.hold_base.specs.declared.number.PinNo.{PinNo}
use Rattle.hold_base.specs.declared.time.Interval.{Interval}
use Rattle.hold_base.specs.declared.time.Side.{Side}
use Rattle.hold_base.specs.Interval.{hull_of}
use Rattle.hold_graph.specs.declared.graph.Arc.{Arc}
use Rattle.hold_graph.specs.declared.graph.Parts.{Parts}
use Rattle.hold_graph.specs.declared.problem.Spans.{Spans}
use Rattle.hold_graph.specs.Adjacency.{places_into}
use Rattle.hold_graph.specs.Path.{HasArc, EachNext, last_pin}
use Rattle.hold_graph.specs.Sums.{Buffers, end_of, items_at, spans_between, added_from, path_sum}
use Rattle.hold_graph.proofs.PlacesOf.{places_of-hold, places_of-each, places_of-below}
use Rattle.hold_timing.specs.Worst.{AsBad, IsAsBad, IsWalkTo, IsPathTo, IsWorstOf}
use Rattle.hold_timing.specs.inner.Pass.{worse, worst_from, extended, origin, step_at, offer, offers_from, coming, start_of, IsStart}
use Rattle.hold_timing.proofs.WorstOf.{AsBad-both, AsBad-more, AsBad-after, IsAsBad-chain, IsAsBad-own, IsAsBad-extended, IsAsBad-worse_left, IsAsBad-worse_right, worse-one, worst_from-each, worst_from-one, IsTimeOf}
use Rattle.hold_timing.proofs.Walks.{step_of, path_sum-push, IsLed, led, walk_more, alone_or_path}
use Rattle.hold_timing.proofs.Steps.{IsItem, step-bound, step-attained, IsWorstArc}

pub same_pin : (a b : PinNo) → a.0 ≡ b.0 → a ≡ b
same_pin a b e = ap (λ (n : ℕ). let q : PinNo = record { 0 = n } in q) e

-- an arc that ends at the pin
pub record IsInto (arcs : List Arc) (pin : PinNo) (place : ℕ) : Type 0 where
  pub arc : Arc
  pub at : slice_get arcs place ≡ Some arc
  pub to : arc.to.0 ≡ pin.0

pub into_from : (arcs : List Arc) (pin : PinNo) (place : ℕ) → Contains (places_into arcs pin) place → IsInto arcs pin place
into_from arcs pin place h =
    let none : Arc = record { from = record { 0 = 0 }; to = record { 0 = 0 }; wire = true } in
    let below : place < 0 + length arcs = All-contains (λ (k : ℕ). k < 0 + length arcs) (places_into arcs pin) place (places_of-below (λ (arc : Arc). arc.to.0 == pin.0) 0 arcs) h in
    let holds : ((get_or arcs place none).to.0 == pin.0) ≡ true =
    All-contains (λ (k : ℕ). ((get_or arcs k none).to.0 == pin.0) ≡ true) (places_into arcs pin) place (places_of-hold (λ (arc : Arc). arc.to.0 == pin.0) none arcs 0 arcs refl) h in
    record { arc = get_or arcs place none; at = slice_get-get_or arcs place none (omega arith); to = grind arith }

pub into_each : (arcs : List Arc) (pin : PinNo) (place : ℕ) (arc : Arc) → slice_get arcs place ≡ Some arc → arc.to.0 ≡ pin.0 → Contains (places_into arcs pin) place
into_each arcs pin place arc at to =
    let here : get_or arcs place arc ≡ arc = get_or_from_slice_get arcs place arc arc at in
    subst (Contains (places_into arcs pin)) (omega arith)
    (places_of-each (λ (a : Arc). a.to.0 == pin.0) 0 arcs place arc (slice_get_within arcs place arc at)
    (eq-eqb (get_or arcs place arc).to.0 pin.0 (ap (λ (a : Arc). a.to.0) here ∙ to)))

pub offers_from-worst : (side : Side) (arcs : List Arc) (spans : List Interval) (arrivals : List (Option ℤ)) (pad : ℤ) (so_far : Option ℤ) (places : List ℕ) →
    offers_from side arcs spans arrivals pad so_far places ≡ worst_from side so_far (map (offer side arcs spans arrivals pad) places)
offers_from-worst side arcs spans arrivals pad so_far [] = refl
offers_from-worst side arcs spans arrivals pad so_far (place ∷ places) =
    offers_from-worst side arcs spans arrivals pad (worse side so_far (offer side arcs spans arrivals pad place)) places

-- each offer is bounded, and one of them is the worst
pub offers-bound : (side : Side) (arcs : List Arc) (spans : List Interval) (arrivals : List (Option ℤ)) (pad : ℤ) (so_far : Option ℤ) (places : List ℕ) (place : ℕ) (x : ℤ) →
    Contains places place → IsAsBad side (offer side arcs spans arrivals pad place) x → IsAsBad side (offers_from side arcs spans arrivals pad so_far places) x
offers-bound side arcs spans arrivals pad so_far places place x has h =
    let at : slice_get places has.0 ≡ Some place = slice_get_read places (length places) has.0 place refl has.1 (sym has.2) in
    subst (λ (o : Option ℤ). IsAsBad side o x) (sym (offers_from-worst side arcs spans arrivals pad so_far places))
    (worst_from-each side so_far (map (offer side arcs spans arrivals pad) places) has.0 (offer side arcs spans arrivals pad place) x
    (slice_get-map (offer side arcs spans arrivals pad) places has.0 ∙ ap (option_map (offer side arcs spans arrivals pad)) at) h)

pub record IsOffered (side : Side) (arcs : List Arc) (spans : List Interval) (arrivals : List (Option ℤ)) (pad : ℤ) (places : List ℕ) (time : Option ℤ) : Type 0 where
  pub place : ℕ
  pub listed : Contains places place
  pub is : offer side arcs spans arrivals pad place ≡ time

offered : (side : Side) (arcs : List Arc) (spans : List Interval) (arrivals : List (Option ℤ)) (pad : ℤ) (places : List ℕ) (k : ℕ) (time : Option ℤ) →
    slice_get (map (offer side arcs spans arrivals pad) places) k ≡ Some time → IsOffered side arcs spans arrivals pad places time
offered side arcs spans arrivals pad places k time at =
    by_option (slice_get places k) refl (sym (slice_get-map (offer side arcs spans arrivals pad) places k) ∙ at)
  where
    by_option : (o : Option ℕ) → slice_get places k ≡ o → option_map (offer side arcs spans arrivals pad) o ≡ Some time → IsOffered side arcs spans arrivals pad places time
    by_option None e f = absurd (none-some time f)
    by_option (Some place) e f =
        record { place = place; listed = (k, slice_get_within places k place e, get_or_from_slice_get places k place place e); is = same_Some _ _ f }

pub offers-one : (side : Side) (arcs : List Arc) (spans : List Interval) (arrivals : List (Option ℤ)) (pad : ℤ) (so_far : Option ℤ) (places : List ℕ) →
    (offers_from side arcs spans arrivals pad so_far places ≡ so_far)
    ⊎ IsOffered side arcs spans arrivals pad places (offers_from side arcs spans arrivals pad so_far places)
offers-one side arcs spans arrivals pad so_far places =
    by_case (worst_from-one side so_far (map (offer side arcs spans arrivals pad) places))
  where
    is : offers_from side arcs spans arrivals pad so_far places ≡ worst_from side so_far (map (offer side arcs spans arrivals pad) places)
    is = offers_from-worst side arcs spans arrivals pad so_far places

    by_case : ((worst_from side so_far (map (offer side arcs spans arrivals pad) places) ≡ so_far) ⊎ IsTimeOf (map (offer side arcs spans arrivals pad) places) (worst_from side so_far (map (offer side arcs spans arrivals pad) places))) →
        (offers_from side arcs spans arrivals pad so_far places ≡ so_far)
        ⊎ IsOffered side arcs spans arrivals pad places (offers_from side arcs spans arrivals pad so_far places)
    by_case (inl e) = inl (is ∙ e)
    by_case (inr one) = inr (subst (IsOffered side arcs spans arrivals pad places) (sym is) (offered side arcs spans arrivals pad places one.place _ one.at))

pub extended-some : (o : Option ℤ) (step time : ℤ) → extended o step ≡ Some time → (before : ℤ) × (o ≡ Some before) × (before +ℤ step ≡ time)
extended-some None step time e = absurd (none-some time e)
extended-some (Some before) step time e = (before, refl, same_Some _ _ e)

-- what the arc at a place brings
pub offer_is : (side : Side) (arcs : List Arc) (spans : List Interval) (arrivals : List (Option ℤ)) (pad : ℤ) (place : ℕ) (arc : Arc) → slice_get arcs place ≡ Some arc →
    offer side arcs spans arrivals pad place ≡ extended (get_or arrivals arc.from.0 None) (step_at side spans place +ℤ pad)
offer_is side arcs spans arrivals pad place arc at =
    ap (λ (o : Option Arc). extended (get_or arrivals (origin o) None) (step_at side spans place +ℤ pad)) at

-- the arrivals are right at each pin from which an arc leads to the pin
abbrev pub AreRightBefore : Side → Parts → Spans → Buffers → PinNo → List (Option ℤ) → Type 0
AreRightBefore side parts spans buffers p arrivals =
    (q : PinNo) → HasArc parts.arcs q p → IsWorstOf side (IsWalkTo parts q) (path_sum side parts spans buffers) (get_or arrivals q.0 None)

coming-bound : (side : Side) (parts : Parts) (spans : Spans) (buffers : Buffers) (p : PinNo) (arrivals : List (Option ℤ)) →
    length spans.arcs ≡ length parts.arcs → AreRightBefore side parts spans buffers p arrivals → (path : List PinNo) → IsPathTo parts p path →
    IsAsBad side (coming side parts spans buffers arrivals p) (path_sum side parts spans buffers path)
coming-bound side parts spans buffers p arrivals each right path to =
    let h : IsLed parts p path = led parts p path to in
    let q : PinNo = last_pin h.first h.front in
    let pad : ℤ = added_from side 0 spans.kinds (buffers p) in
    let before : IsAsBad side (get_or arrivals q.0 None) (path_sum side parts spans buffers (h.first ∷ h.front)) = (right q h.arc).bound (h.first ∷ h.front) h.walk in
    let one : IsWorstArc side parts.arcs spans.arcs q p = step-attained side parts.arcs spans.arcs q p each h.arc in
    let sum : path_sum side parts spans buffers (h.first ∷ h.front) +ℤ (step_at side spans.arcs one.place +ℤ pad) ≡ path_sum side parts spans buffers path =
    ap (λ (w : ℤ). path_sum side parts spans buffers (h.first ∷ h.front) +ℤ (w +ℤ pad)) one.step
    ∙ sym (path_sum-push side parts spans buffers h.first h.front p) ∙ ap (path_sum side parts spans buffers) (sym h.split) in
    let offered : offer side parts.arcs spans.arcs arrivals pad one.place ≡ extended (get_or arrivals q.0 None) (step_at side spans.arcs one.place +ℤ pad) =
    offer_is side parts.arcs spans.arcs arrivals pad one.place one.arc one.at
    ∙ ap (λ (n : ℕ). extended (get_or arrivals n None) (step_at side spans.arcs one.place +ℤ pad)) one.from in
    offers-bound side parts.arcs spans.arcs arrivals pad None (places_into parts.arcs p) one.place (path_sum side parts spans buffers path)
    (into_each parts.arcs p one.place one.arc one.at one.to)
    (subst (λ (o : Option ℤ). IsAsBad side o (path_sum side parts spans buffers path)) (sym offered)
    (subst (IsAsBad side (extended (get_or arrivals q.0 None) (step_at side spans.arcs one.place +ℤ pad))) sum
    (IsAsBad-extended side (get_or arrivals q.0 None) (path_sum side parts spans buffers (h.first ∷ h.front)) (step_at side spans.arcs one.place +ℤ pad) before)))

-- along an arc that brings the worst time a walk goes on with the worst sum
pub along_worst : (side : Side) (parts : Parts) (spans : Spans) (buffers : Buffers) (p : PinNo) → length spans.arcs ≡ length parts.arcs →
    (place : ℕ) (arc : Arc) → slice_get parts.arcs place ≡ Some arc → arc.to.0 ≡ p.0 → (before time : ℤ) →
    before +ℤ (step_at side spans.arcs place +ℤ added_from side 0 spans.kinds (buffers p)) ≡ time →
    AsBad side time (before +ℤ step_of side parts.arcs spans buffers arc.from p) →
    before +ℤ step_of side parts.arcs spans buffers arc.from p ≡ time
along_worst side parts spans buffers p each place arc at to before time is bound =
    AsBad-both side (before +ℤ step_of side parts.arcs spans buffers arc.from p) time
    (subst (AsBad side (before +ℤ step_of side parts.arcs spans buffers arc.from p)) is
    (AsBad-after side (step_of side parts.arcs spans buffers arc.from p) (step_at side spans.arcs place +ℤ added_from side 0 spans.kinds (buffers p)) before
    (AsBad-more side (end_of side (hull_of (spans_between parts.arcs spans.arcs arc.from p))) (step_at side spans.arcs place) (added_from side 0 spans.kinds (buffers p))
    (step-bound side parts.arcs spans.arcs place arc p each at to))))
    bound

pub arc_there : (arcs : List Arc) (place : ℕ) (arc : Arc) (p : PinNo) → slice_get arcs place ≡ Some arc → arc.to.0 ≡ p.0 → HasArc arcs arc.from p
arc_there arcs place arc p at to =
    record { arc = arc; listed = (place, slice_get_within arcs place arc at, get_or_from_slice_get arcs place arc arc at); from = refl; to = same_pin arc.to p to }

-- a path of that sum
pub record IsAttained (Member : List PinNo → Type 0) (value : List PinNo → ℤ) (time : ℤ) : Type 0 where
  pub path : List PinNo
  pub member : Member path
  pub is : value path ≡ time

-- along an arc that brings the worst time a walk of the time before goes on as a path of that time
pub gone_along : (side : Side) (parts : Parts) (spans : Spans) (buffers : Buffers) (p : PinNo) (arrivals : List (Option ℤ)) →
    length spans.arcs ≡ length parts.arcs → AreRightBefore side parts spans buffers p arrivals →
    (arc : Arc) (place : ℕ) → slice_get parts.arcs place ≡ Some arc → arc.to.0 ≡ p.0 → (before time : ℤ) →
    before +ℤ (step_at side spans.arcs place +ℤ added_from side 0 spans.kinds (buffers p)) ≡ time → coming side parts spans buffers arrivals p ≡ Some time →
    (a : PinNo) (rest : List PinNo) → IsWalkTo parts arc.from (a ∷ rest) → path_sum side parts spans buffers (a ∷ rest) ≡ before →
    IsPathTo parts p (a ∷ (rest ++ p ∷ [])) × (path_sum side parts spans buffers (a ∷ (rest ++ p ∷ [])) ≡ time)
gone_along side parts spans buffers p arrivals each right arc place at to before time step is a rest walk sum =
    let path : IsPathTo parts p (a ∷ (rest ++ p ∷ [])) = walk_more parts arc.from p a rest walk (arc_there parts.arcs place arc p at to) in
    let on : path_sum side parts spans buffers (a ∷ (rest ++ p ∷ [])) ≡ before +ℤ step_of side parts.arcs spans buffers arc.from p =
    path_sum-push side parts spans buffers a rest p
    ∙ ap (λ (s : ℤ). s +ℤ step_of side parts.arcs spans buffers (last_pin a rest) p) sum
    ∙ ap (λ (q : PinNo). before +ℤ step_of side parts.arcs spans buffers q p) walk.2 in
    let bound : AsBad side time (before +ℤ step_of side parts.arcs spans buffers arc.from p) =
    subst (AsBad side time) on
    (subst (λ (o : Option ℤ). IsAsBad side o (path_sum side parts spans buffers (a ∷ (rest ++ p ∷ [])))) is
    (coming-bound side parts spans buffers p arrivals each right (a ∷ (rest ++ p ∷ [])) path)) in
    (path, on ∙ along_worst side parts spans buffers p each place arc at to before time step bound)

gone_on : (side : Side) (parts : Parts) (spans : Spans) (buffers : Buffers) (p : PinNo) (arrivals : List (Option ℤ)) →
    length spans.arcs ≡ length parts.arcs → AreRightBefore side parts spans buffers p arrivals →
    (arc : Arc) (place : ℕ) → slice_get parts.arcs place ≡ Some arc → arc.to.0 ≡ p.0 → (before time : ℤ) →
    before +ℤ (step_at side spans.arcs place +ℤ added_from side 0 spans.kinds (buffers p)) ≡ time → coming side parts spans buffers arrivals p ≡ Some time →
    (path : List PinNo) → IsWalkTo parts arc.from path → path_sum side parts spans buffers path ≡ before →
    IsAttained (IsPathTo parts p) (path_sum side parts spans buffers) time
gone_on side parts spans buffers p arrivals each right arc place at to before time step is [] walk sum = absurd walk
gone_on side parts spans buffers p arrivals each right arc place at to before time step is (a ∷ rest) walk sum =
    let on = gone_along side parts spans buffers p arrivals each right arc place at to before time step is a rest walk sum in
    record { path = a ∷ (rest ++ p ∷ []); member = on.0; is = on.1 }

-- what comes to a pin is the worst sum of all paths to it
pub coming-worst : (side : Side) (parts : Parts) (spans : Spans) (buffers : Buffers) (p : PinNo) (arrivals : List (Option ℤ)) →
    length spans.arcs ≡ length parts.arcs → AreRightBefore side parts spans buffers p arrivals →
    IsWorstOf side (IsPathTo parts p) (path_sum side parts spans buffers) (coming side parts spans buffers arrivals p)
coming-worst side parts spans buffers p arrivals each right = record {
  attained = λ time is. let h = attained time is in (h.path, h.member, h.is);
  bound = coming-bound side parts spans buffers p arrivals each right;
}
  where
    pad : ℤ
    pad = added_from side 0 spans.kinds (buffers p)

    by_case : (time : ℤ) → coming side parts spans buffers arrivals p ≡ Some time →
        ((coming side parts spans buffers arrivals p ≡ None) ⊎ IsOffered side parts.arcs spans.arcs arrivals pad (places_into parts.arcs p) (coming side parts spans buffers arrivals p)) →
        IsAttained (IsPathTo parts p) (path_sum side parts spans buffers) time
    by_case time is (inl none) = absurd (none-some time (sym none ∙ is))
    by_case time is (inr one) =
        let into : IsInto parts.arcs p one.place = into_from parts.arcs p one.place one.listed in
        let cut = extended-some (get_or arrivals into.arc.from.0 None) (step_at side spans.arcs one.place +ℤ pad) time
        (sym (offer_is side parts.arcs spans.arcs arrivals pad one.place into.arc into.at) ∙ one.is ∙ is) in
        let before = (right into.arc.from (arc_there parts.arcs one.place into.arc p into.at into.to)).attained cut.0 cut.1 in
        gone_on side parts spans buffers p arrivals each right into.arc one.place into.at into.to cut.0 time cut.2 is before.0 before.1 before.2

    attained : (time : ℤ) → coming side parts spans buffers arrivals p ≡ Some time → IsAttained (IsPathTo parts p) (path_sum side parts spans buffers) time
    attained time is = by_case time is (offers-one side parts.arcs spans.arcs arrivals pad None (places_into parts.arcs p))

-- with the pin's own launch it is the worst sum of all walks to it
pub arrival-worst : (side : Side) (parts : Parts) (spans : Spans) (buffers : Buffers) (p : PinNo) (own comes : Option ℤ) → IsStart side parts spans p own →
    IsWorstOf side (IsPathTo parts p) (path_sum side parts spans buffers) comes →
    IsWorstOf side (IsWalkTo parts p) (path_sum side parts spans buffers) (worse side own comes)
arrival-worst side parts spans buffers p own comes start worst = record {
  attained = λ time is. let h = by_case time is (worse-one side own comes) in (h.path, h.member, h.is);
  bound = bound;
}
  where
    sum_alone : path_sum side parts spans buffers (p ∷ []) ≡ start_of side parts spans p
    sum_alone = omega (arith, ints)

    by_case : (time : ℤ) → worse side own comes ≡ Some time → ((worse side own comes ≡ own) ⊎ (worse side own comes ≡ comes)) →
        IsAttained (IsWalkTo parts p) (path_sum side parts spans buffers) time
    by_case time is (inl e) =
        let own_is : own ≡ Some time = sym e ∙ is in
        let launch : Contains parts.launches p = start.listed time own_is in
        record { path = p ∷ []; member = (launch, tt, refl); is = sum_alone ∙ same_Some _ _ (sym (start.is launch) ∙ own_is) }
    by_case time is (inr e) =
        let h = worst.attained time (sym e ∙ is) in
        record { path = h.0; member = h.1.0; is = h.2 }

    of_rest : (a : PinNo) (rest : List PinNo) → IsWalkTo parts p (a ∷ rest) → ((rest ≡ []) ⊎ IsPathTo parts p (a ∷ rest)) →
        IsAsBad side (worse side own comes) (path_sum side parts spans buffers (a ∷ rest))
    of_rest a rest walk (inl alone) =
        let same : a ≡ p = ap (λ (xs : List PinNo). last_pin a xs) (sym alone) ∙ walk.2 in
        let launch : Contains parts.launches p = subst (Contains parts.launches) same walk.0 in
        let sum : path_sum side parts spans buffers (p ∷ []) ≡ path_sum side parts spans buffers (a ∷ rest) =
        ap (λ (q : PinNo). path_sum side parts spans buffers (q ∷ [])) (sym same) ∙ ap (λ (xs : List PinNo). path_sum side parts spans buffers (a ∷ xs)) (sym alone) in
        IsAsBad-worse_left side own comes (path_sum side parts spans buffers (a ∷ rest))
        (IsAsBad-own side own (path_sum side parts spans buffers (a ∷ rest)) (start.is launch ∙ ap (λ (t : ℤ). Some t) (sym sum_alone ∙ sum)))
    of_rest a rest walk (inr path) =
        IsAsBad-worse_right side own comes (path_sum side parts spans buffers (a ∷ rest)) (worst.bound (a ∷ rest) path)

    bound : (path : List PinNo) → IsWalkTo parts p path → IsAsBad side (worse side own comes) (path_sum side parts spans buffers path)
    bound [] walk = absurd walk
    bound (a ∷ rest) walk = of_rest a rest walk (alone_or_path parts p a rest walk)
