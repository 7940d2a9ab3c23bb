-- The walk back from a capture: whatever walk comes to the pin at hand with the time that is asked for, the pins found so far go on
-- from it to the capture, with the worst sum of all paths there.
use Rattle.std.proofs.Common.{◌≡◌, ℕ, ◌+◌, ◌<◌, ◌≤◌, ◌==◌, List, [], ◌∷◌, ◌++◌, length, refl, ap, sym, ◌∙◌, arith, get_or, eq-eqb, ◌⊎◌, inl, inr, subst, false}
use Rattle.std.specs.Prelude.{Option, Some, None, ℤ, pos, ◌+ℤ◌, slice_get, Contains, IfSome, IfNone, All}
use Rattle.std.specs.List.{position_or_len}
use Rattle.std.proofs.lemmas.Bool.{ne_eqb}
use Rattle.std.proofs.lemmas.List.{append_assoc, append-nil}
use Rattle.std.proofs.lemmas.List.Elements.{All-contains}
use Rattle.std.proofs.lemmas.List.Sums.{position_or_len_is}
use Rattle.std.proofs.lemmas.Option.{same_Some, none-some, slice_get_within, slice_get-get_or, get_or_from_slice_get}
use Rattle.hold_base.specs.declared.number.PinNo.{PinNo}
use Rattle.hold_base.specs.declared.time.Interval.{Interval}
use Rattle.hold_base.specs.declared.time.Side.{Side}
use Rattle.hold_graph.specs.declared.graph.Arc.{Arc}
use Rattle.hold_graph.specs.declared.graph.Parts.{Parts}
use Rattle.hold_graph.specs.declared.problem.Spans.{Spans}
use Rattle.hold_graph.specs.declared.problem.Problem.{Problem}
use Rattle.hold_graph.specs.Adjacency.{places_into}
use Rattle.hold_graph.specs.Cycles.{IsTopological}
use Rattle.hold_graph.specs.Graph.{NamesItsPins}
use Rattle.hold_graph.specs.Path.{HasArc}
use Rattle.hold_graph.specs.Sums.{Buffers, added_from, path_sum}
use Rattle.hold_graph.specs.Met.{excess}
use Rattle.hold_graph.proofs.Acyclic.{stands_before}
use Rattle.hold_timing.specs.Worst.{AsBad, IsAsBad, IsWalkTo, IsPathTo, IsWorstOf, IsSlackAt, required_at}
use Rattle.hold_timing.specs.inner.Pass.{coming, offer, offers_from, step_at, slack_of}
use Rattle.hold_timing.specs.inner.Search.{CameBy, IsWorstTo}
use Rattle.hold_timing.proofs.Pads.{if_some, if_none}
use Rattle.hold_timing.proofs.Slacks.{excess-slack, slack-least}
use Rattle.hold_timing.proofs.Turns.{same_pin, IsInto, into_from, IsOffered, offers-bound, offers-one, extended-some, offer_is, AreRightBefore, arc_there, gone_along, coming-worst}
use Rattle.hold_timing.proofs.Walks.{alone_or_path}
use Rattle.hold_timing.proofs.WorstOf.{AsBad-both, IsAsBad-own}

-- the place of a pin in an order
abbrev pub rank : List PinNo → PinNo → ℕ
rank order pin = position_or_len (λ (q : PinNo). q.0 == pin.0) order

pub rank_is : (pins : ℕ) (arcs : List Arc) (order : List PinNo) → IsTopological pins arcs order → (k : ℕ) (pin : PinNo) → slice_get order k ≡ Some pin → rank order pin ≡ k
rank_is pins arcs order h k pin at =
    position_or_len_is (λ (q : PinNo). q.0 == pin.0) order k pin (let lt = slice_get_within order k pin at in omega arith)
    (λ j lt. ne_eqb (get_or order j pin).0 pin.0 (λ e. apart j lt e))
    (λ lt. eq-eqb (get_or order k pin).0 pin.0 (ap (λ (q : PinNo). q.0) (get_or_from_slice_get order k pin pin at)))
  where
    apart : (j : ℕ) → j < k → (get_or order j pin).0 ≡ pin.0 → ⊥
    apart j lt e =
        let within : k < length order = slice_get_within order k pin at in
        let there : slice_get order j ≡ Some pin = slice_get-get_or order j pin (omega arith) ∙ ap (λ (q : PinNo). Some q) (same_pin (get_or order j pin) pin e) in
        let same : j ≡ k = h.different j k pin there at in
        omega arith

-- an arc leads from a pin of lower place
pub rank-falls : (pins : ℕ) (arcs : List Arc) (order : List PinNo) → IsTopological pins arcs order → (a b : PinNo) → b.0 < pins → HasArc arcs a b → rank order a < rank order b
rank-falls pins arcs order h a b below has =
    let listed : Contains order b = h.each b.0 below in
    let at : slice_get order listed.0 ≡ Some b = slice_get-get_or order listed.0 b listed.1 ∙ ap (λ (q : PinNo). Some q) (listed.2) in
    let before = stands_before pins arcs order h a b listed.0 has at in
    let rank_b : rank order b ≡ listed.0 = rank_is pins arcs order h listed.0 b at in
    let rank_a : rank order a ≡ before.0 = rank_is pins arcs order h before.0 a before.2 in
    let lt : before.0 < listed.0 = before.1 in
    omega (arith, rank_a, rank_b, lt)

-- with these pins behind it a walk is a path to the capture that has the sum
abbrev pub Continues : Side → Parts → Spans → Buffers → PinNo → ℤ → List PinNo → List PinNo → Type 0
Continues side parts spans buffers capture total found walk =
    IsPathTo parts capture (walk ++ found) × (path_sum side parts spans buffers (walk ++ found) ≡ total)

-- the arc at the place brings the worst time to the pin, and any path of that time goes on to the capture
pub record IsOnWay (side : Side) (parts : Parts) (spans : Spans) (buffers : Buffers) (arrivals : List (Option ℤ)) (capture : PinNo) (total : ℤ) (pin : PinNo) (found : List PinNo) (place : ℕ) : Type 0 where
  pub time : ℤ
  pub comes : coming side parts spans buffers arrivals pin ≡ Some time
  pub brings : offer side parts.arcs spans.arcs arrivals (added_from side 0 spans.kinds (buffers pin)) place ≡ Some time
  pub listed : Contains (places_into parts.arcs pin) place
  pub goes_on : (walk : List PinNo) → IsPathTo parts pin walk → path_sum side parts spans buffers walk ≡ time → Continues side parts spans buffers capture total found walk

abbrev pub IsBack : Side → Parts → Spans → Buffers → List (Option ℤ) → PinNo → ℤ → PinNo → List PinNo → Option ℕ → Type 0
IsBack side parts spans buffers arrivals capture total pin found None = Continues side parts spans buffers capture total found (pin ∷ [])
IsBack side parts spans buffers arrivals capture total pin found (Some place) = IsOnWay side parts spans buffers arrivals capture total pin found place

-- what the search among the arcs that end at a pin tells
pub came_by : (side : Side) (parts : Parts) (spans : Spans) (buffers : Buffers) (arrivals : List (Option ℤ)) (pin : PinNo) (time : Option ℤ) (t : ℤ) (by : Option ℕ)
    (arcs : List Arc) (steps : List Interval) (pad : ℤ) (places : List ℕ) →
    arcs ≡ parts.arcs → steps ≡ spans.arcs → pad ≡ added_from side 0 spans.kinds (buffers pin) → places ≡ places_into parts.arcs pin → time ≡ Some t →
    IfSome by (Contains places) → IfSome by (λ place. offer side arcs steps arrivals pad place ≡ Some t) →
    IfNone by (All (λ place. offer side arcs steps arrivals pad place ≡ Some t → ⊥) places) → CameBy side parts spans buffers arrivals pin time by
came_by side parts spans buffers arrivals pin time t by arcs steps pad places is_arcs is_steps is_pad is_places is_time listed brings none = record {
  listed = λ place is. subst (λ (xs : List ℕ). Contains xs place) is_places (if_some (Contains places) by place is listed);
  brings = λ place is. sym (same place) ∙ if_some (λ (place : ℕ). offer side arcs steps arrivals pad place ≡ Some t) by place is brings ∙ sym is_time;
  some = λ place is empty. none-some t (sym empty ∙ is_time);
  none = λ is place has z at e.
      All-contains (λ (place : ℕ). offer side arcs steps arrivals pad place ≡ Some t → ⊥) places place
      (if_none (All (λ (place : ℕ). offer side arcs steps arrivals pad place ≡ Some t → ⊥) places) by is none)
      (subst (λ (xs : List ℕ). Contains xs place) (sym is_places) has) (same place ∙ e ∙ sym at ∙ is_time);
}
  where
    same : (place : ℕ) → offer side arcs steps arrivals pad place ≡ offer side parts.arcs spans.arcs arrivals (added_from side 0 spans.kinds (buffers pin)) place
    same place = rw (is_arcs, is_steps, is_pad) refl

-- an arc begins at a pin of the graph
pub right_before : (parts : Parts) → NamesItsPins parts → (q p : PinNo) → HasArc parts.arcs q p → q.0 < parts.pins
right_before parts numbers q p has =
    let below : has.arc.from.0 < parts.pins = All-contains (λ (arc : Arc). arc.from.0 < parts.pins) parts.arcs has.arc numbers.from has.listed in
    let e = ap (λ (x : PinNo). x.0) has.from in
    omega (arith, below, e)

-- an arc of those that end at a pin, read from a list of all arcs
pub step_back : (arcs given : List Arc) (pin : PinNo) (place : ℕ) (d : Arc) → given ≡ arcs → Contains (places_into arcs pin) place →
    (place < length given) × (slice_get arcs place ≡ Some (get_or given place d)) × ((get_or given place d).to.0 ≡ pin.0)
step_back arcs given pin place d same listed =
    let into : IsInto arcs pin place = into_from arcs pin place listed in
    let at : slice_get given place ≡ Some into.arc = subst (λ (xs : List Arc). slice_get xs place ≡ Some into.arc) (sym same) into.at in
    let here : get_or given place d ≡ into.arc = get_or_from_slice_get given place into.arc d at in
    (slice_get_within given place into.arc at, into.at ∙ ap (λ (x : Arc). Some x) (sym here), ap (λ (x : Arc). x.to.0) here ∙ into.to)

-- what comes to a pin is brought by some arc
some_brings : (side : Side) (parts : Parts) (spans : Spans) (buffers : Buffers) (arrivals : List (Option ℤ)) (pin : PinNo) (time : Option ℤ) (t : ℤ) →
    CameBy side parts spans buffers arrivals pin time None → time ≡ Some t → coming side parts spans buffers arrivals pin ≡ Some t → ⊥
some_brings side parts spans buffers arrivals pin time t came is comes =
    by_case (offers-one side parts.arcs spans.arcs arrivals (added_from side 0 spans.kinds (buffers pin)) None (places_into parts.arcs pin))
  where
    by_case : ((coming side parts spans buffers arrivals pin ≡ None) ⊎ IsOffered side parts.arcs spans.arcs arrivals (added_from side 0 spans.kinds (buffers pin)) (places_into parts.arcs pin) (coming side parts spans buffers arrivals pin)) → ⊥
    by_case (inl none) = none-some t (sym none ∙ comes)
    by_case (inr one) = came.none refl one.place one.listed t is (one.is ∙ comes)

pub back_first : (side : Side) (parts : Parts) (spans : Spans) (buffers : Buffers) (arrivals : List (Option ℤ)) (capture : PinNo) (total : ℤ) (comes : Option ℤ) (by : Option ℕ) →
    comes ≡ coming side parts spans buffers arrivals capture → comes ≡ Some total → CameBy side parts spans buffers arrivals capture comes by →
    IsBack side parts spans buffers arrivals capture total capture [] by
back_first side parts spans buffers arrivals capture total comes None is total_is came =
    absurd (some_brings side parts spans buffers arrivals capture comes total came total_is (sym is ∙ total_is))
back_first side parts spans buffers arrivals capture total comes (Some place) is total_is came = record {
  time = total;
  comes = sym is ∙ total_is;
  brings = came.brings place refl ∙ total_is;
  listed = came.listed place refl;
  goes_on = λ walk to sum.
      subst (λ (xs : List PinNo). IsPathTo parts capture xs × (path_sum side parts spans buffers xs ≡ total)) (sym (append-nil walk)) (to, sum);
}

-- a time that is as bad as the worst of all walks is what comes
comes_whole : (side : Side) (parts : Parts) (spans : Spans) (buffers : Buffers) (pin : PinNo) (comes : Option ℤ) (before : ℤ) →
    IsWorstOf side (IsPathTo parts pin) (path_sum side parts spans buffers) comes →
    IsWorstOf side (IsWalkTo parts pin) (path_sum side parts spans buffers) (Some before) → IsAsBad side comes before → comes ≡ Some before
comes_whole side parts spans buffers pin None before worst all bad = absurd bad
comes_whole side parts spans buffers pin (Some time) before worst all bad =
    let path = worst.attained time refl in
    let bound : AsBad side before (path_sum side parts spans buffers path.0) = all.bound path.0 path.1.0 in
    ap (λ (t : ℤ). Some t) (AsBad-both side time before bad (subst (AsBad side before) path.2 bound))

-- one pin back
pub back_more : (side : Side) (parts : Parts) (spans : Spans) (buffers : Buffers) (arrivals : List (Option ℤ)) (capture : PinNo) (total : ℤ) (pin : PinNo) (found : List PinNo) (place : ℕ) (arc : Arc) (time by : _) →
    length spans.arcs ≡ length parts.arcs → ((q : PinNo) (p : PinNo) → HasArc parts.arcs q p → IsWorstOf side (IsWalkTo parts q) (path_sum side parts spans buffers) (get_or arrivals q.0 None)) →
    slice_get parts.arcs place ≡ Some arc → time ≡ get_or arrivals arc.from.0 None → CameBy side parts spans buffers arrivals arc.from time by →
    IsOnWay side parts spans buffers arrivals capture total pin found place →
    IsBack side parts spans buffers arrivals capture total arc.from (pin ∷ found) by
back_more side parts spans buffers arrivals capture total pin found place arc time by each right at is came way = by_case by came
  where
    to : arc.to.0 ≡ pin.0
    to = let into : IsInto parts.arcs pin place = into_from parts.arcs pin place way.listed in
        ap (λ (x : Arc). x.to.0) (same_Some arc into.arc (sym at ∙ into.at)) ∙ into.to

    cut : (before : ℤ) × (get_or arrivals arc.from.0 None ≡ Some before) × (before +ℤ (step_at side spans.arcs place +ℤ added_from side 0 spans.kinds (buffers pin)) ≡ way.time)
    cut = extended-some (get_or arrivals arc.from.0 None) (step_at side spans.arcs place +ℤ added_from side 0 spans.kinds (buffers pin)) way.time
        (sym (offer_is side parts.arcs spans.arcs arrivals (added_from side 0 spans.kinds (buffers pin)) place arc at) ∙ way.brings)

    here : AreRightBefore side parts spans buffers pin arrivals
    here q has = right q pin has

    walks : IsWorstOf side (IsWalkTo parts arc.from) (path_sum side parts spans buffers) (Some cut.0)
    walks = subst (IsWorstOf side (IsWalkTo parts arc.from) (path_sum side parts spans buffers)) cut.1 (right arc.from pin (arc_there parts.arcs place arc pin at to))

    paths : IsWorstOf side (IsPathTo parts arc.from) (path_sum side parts spans buffers) (coming side parts spans buffers arrivals arc.from)
    paths = coming-worst side parts spans buffers arc.from arrivals each (λ q has. right q arc.from has)

    goes : (walk : List PinNo) → IsWalkTo parts arc.from walk → path_sum side parts spans buffers walk ≡ cut.0 → Continues side parts spans buffers capture total (pin ∷ found) walk
    goes [] walk sum = absurd walk
    goes (a ∷ rest) walk sum =
        let on = gone_along side parts spans buffers pin arrivals each here arc place at to cut.0 way.time cut.2 way.comes a rest walk sum in
        subst (λ (xs : List PinNo). IsPathTo parts capture xs × (path_sum side parts spans buffers xs ≡ total))
        (ap (λ (xs : List PinNo). a ∷ xs) (append_assoc rest (pin ∷ []) found)) (way.goes_on (a ∷ (rest ++ pin ∷ [])) on.0 on.1)

    alone : (a : PinNo) (rest : List PinNo) → IsWalkTo parts arc.from (a ∷ rest) → path_sum side parts spans buffers (a ∷ rest) ≡ cut.0 →
        CameBy side parts spans buffers arrivals arc.from time None → ((rest ≡ []) ⊎ IsPathTo parts arc.from (a ∷ rest)) →
        Continues side parts spans buffers capture total (pin ∷ found) (arc.from ∷ [])
    alone a rest walk sum none (inr path) =
        absurd (some_brings side parts spans buffers arrivals arc.from time cut.0 none (is ∙ cut.1)
        (comes_whole side parts spans buffers arc.from _ cut.0 paths walks (subst (IsAsBad side (coming side parts spans buffers arrivals arc.from)) sum (paths.bound (a ∷ rest) path))))
    alone a [] walk sum none (inl e) =
        subst (λ (q : PinNo). Continues side parts spans buffers capture total (pin ∷ found) (q ∷ [])) walk.2 (goes (a ∷ []) walk sum)
    alone a (b ∷ rest) walk sum none (inl e) = cc

    of_walk : (walk : List PinNo) → IsWalkTo parts arc.from walk → path_sum side parts spans buffers walk ≡ cut.0 → CameBy side parts spans buffers arrivals arc.from time None →
        Continues side parts spans buffers capture total (pin ∷ found) (arc.from ∷ [])
    of_walk [] walk sum none = absurd walk
    of_walk (a ∷ rest) walk sum none = alone a rest walk sum none (alone_or_path parts arc.from a rest walk)

    by_case : (by : Option ℕ) → CameBy side parts spans buffers arrivals arc.from time by → IsBack side parts spans buffers arrivals capture total arc.from (pin ∷ found) by
    by_case None none = let one = walks.attained cut.0 refl in of_walk one.0 one.1 one.2 none
    by_case (Some next) some =
        let brings = some.brings next refl ∙ is ∙ cut.1 in
        record {
          time = cut.0;
          comes = comes_whole side parts spans buffers arc.from _ cut.0 paths walks
              (offers-bound side parts.arcs spans.arcs arrivals (added_from side 0 spans.kinds (buffers arc.from)) None (places_into parts.arcs arc.from) next cut.0 (some.listed next refl)
              (IsAsBad-own side _ cut.0 brings));
          brings = brings;
          listed = some.listed next refl;
          goes_on = λ walk path sum. goes walk path.0 sum;
        }

-- the whole path has the least excess of those that end at the capture
pub back-least : (side : Side) (problem : Problem) (spans : Spans) (buffers : Buffers) (capture : PinNo) (total : ℤ) (path : List PinNo) →
    IsWorstOf side (IsPathTo problem.graph capture) (path_sum side problem.graph spans buffers) (Some total) →
    IsPathTo problem.graph capture path → path_sum side problem.graph spans buffers path ≡ total →
    IsSlackAt side problem spans buffers capture (Some (excess side problem spans buffers path))
back-least side problem spans buffers capture total path worst to sum =
    let e : excess side problem spans buffers path ≡ slack_of side total (required_at side problem spans capture) =
    excess-slack side problem spans buffers capture path to ∙ ap (λ (t : ℤ). slack_of side t (required_at side problem spans capture)) sum in
    subst (λ (s : ℤ). IsSlackAt side problem spans buffers capture (Some s)) (sym e)
    (slack-least side problem spans buffers capture (Some total) worst)

comes_some : (side : Side) (comes : Option ℤ) (x : ℤ) → IsAsBad side comes x → (time : ℤ) × (comes ≡ Some time)
comes_some side None x h = absurd h
comes_some side (Some time) x h = (time, refl)

-- where nothing brought the time to the pin any more, the way is at its beginning
pub back_end : (side : Side) (parts : Parts) (spans : Spans) (buffers : Buffers) (arrivals : List (Option ℤ)) (capture pin : PinNo) (found path : List PinNo) (by : Option ℕ) →
    IsWorstOf side (IsPathTo parts capture) (path_sum side parts spans buffers) (coming side parts spans buffers arrivals capture) →
    ((total : ℤ) → coming side parts spans buffers arrivals capture ≡ Some total → IsBack side parts spans buffers arrivals capture total pin found by) →
    by ≡ None → path ≡ pin ∷ found → IsWorstTo side parts spans buffers capture path
back_end side parts spans buffers arrivals capture pin found path by worst back none is = λ some to.
    let comes = comes_some side (coming side parts spans buffers arrivals capture) (path_sum side parts spans buffers some) (worst.bound some to) in
    let At : Option ℕ → Type 0 = λ b. IsBack side parts spans buffers arrivals capture comes.0 pin found b in
    let here : Continues side parts spans buffers capture comes.0 found (pin ∷ []) = subst At none (back comes.0 comes.1) in (
      subst (IsPathTo parts capture) (sym is) here.0,
      subst (IsWorstOf side (IsPathTo parts capture) (path_sum side parts spans buffers))
          (comes.1 ∙ ap (λ (t : ℤ). Some t) (sym here.1) ∙ ap (λ (xs : List PinNo). Some (path_sum side parts spans buffers xs)) (sym is)) worst,
    )
