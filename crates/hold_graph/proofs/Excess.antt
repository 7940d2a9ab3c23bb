-- From the tables of one side of a corner to the excess of its checked paths.
use Rattle.std.proofs.Common.{◌≡◌, ℕ, ◌<◌, List, [], ◌∷◌, map, length, refl, ap, sym, ◌∙◌, arith, get_or, subst}
use Rattle.std.specs.Prelude.{Option, Some, None, ℤ, pos, neg_ℤ, ◌+ℤ◌, ◌≤ℤ◌, Contains}
use Rattle.std.proofs.lemmas.Int.{ints}
use Rattle.std.proofs.lemmas.Option.{same_Some, none-some}
use Rattle.std.proofs.lemmas.List.Elements.{All-contains}
use Rattle.hold_base.specs.declared.number.PinNo.{PinNo}
use Rattle.hold_base.specs.declared.time.Side.{Side}
use Rattle.hold_base.specs.declared.time.Side.TheVariants.{Early, Late}
use Rattle.hold_graph.specs.declared.graph.Parts.{Parts}
use Rattle.hold_graph.specs.declared.problem.Spans.{Spans}
use Rattle.hold_graph.specs.declared.problem.Problem.{Problem}
use Rattle.hold_graph.specs.Graph.{NamesItsPins}
use Rattle.hold_graph.specs.Path.{last_pin, IsCheckedPath}
use Rattle.hold_graph.specs.Sums.{no_buffers, greatest_of, items_at}
use Rattle.hold_base.specs.Interval.{hull_of}
use Rattle.hold_graph.specs.Problem.{IsValidCorner}
use Rattle.hold_graph.specs.Met.{excess, capture_at}
use Rattle.hold_graph.specs.inner.Arrival.{least_at, weight, opposite, AtMost, coming, signed_steps, IsFound, checks_of, base_of, left, AreTables, left_at}
use Rattle.hold_graph.proofs.Starts.{IsListed, least_at-weights, least_at-negated, listed_from_least}
use Rattle.hold_graph.proofs.Walks.{no_path_below, start_at_most}

listed : (pins : List PinNo) (pin : PinNo) → Contains pins pin → IsListed pins pin
listed pins pin h = record { place = h.0; below = h.1; at = h.2 }

-- the greatest check of the side at a capture
abbrev pub check_at : Side → Parts → Spans → PinNo → ℤ
check_at side parts spans pin = greatest_of (items_at parts.captures (checks_of side spans) pin)

-- an excess is the signed sum and what the capture takes away
pub excess_is : (side : Side) (problem : Problem) (spans : Spans) (a : PinNo) (rest : List PinNo) →
    excess side problem spans no_buffers (a ∷ rest)
    ≡ (((weight side (hull_of (items_at problem.graph.launches spans.launch a)) +ℤ signed_steps side problem.graph.arcs spans a rest)
    +ℤ weight (opposite side) (capture_at problem.graph spans (last_pin a rest)))
    +ℤ neg_ℤ (check_at side problem.graph spans (last_pin a rest))) +ℤ base_of side problem.period
excess_is Early problem spans a rest = omega (arith, ints)
excess_is Late problem spans a rest = omega (arith, ints)

checks_each : (side : Side) (problem : Problem) (spans : Spans) → IsValidCorner problem spans →
    length (checks_of side spans) ≡ length problem.graph.captures
checks_each Early problem spans valid = valid.hold_each
checks_each Late problem spans valid = valid.setup_each

-- what is left where a number comes
left-some : (comes end check : Option ℤ) (base e c x : ℤ) → AtMost comes x → end ≡ Some e → check ≡ Some c →
    (least : ℤ) × (left comes end check base ≡ Some (((least +ℤ e) +ℤ c) +ℤ base)) × (least ≤ℤ x)
left-some None end check base e c x h is_e is_c = absurd h
left-some (Some s) None check base e c x h is_e is_c = absurd (none-some e is_e)
left-some (Some s) (Some end) None base e c x h is_e is_c = absurd (none-some c is_c)
left-some (Some s) (Some end) (Some check) base e c x h is_e is_c =
    (s, ap (λ (z : ℤ). Some z) (let f = same_Some end e is_e in let g = same_Some check c is_c in omega (arith, ints, f, g)), h)

-- where enough is left at each capture, every checked path meets the side's check
pub met_from : (side : Side) (problem : Problem) (spans : Spans) (into : List (Option ℕ)) (starts best ends checks : List (Option ℤ)) →
    AreTables side problem.graph spans into starts best ends checks → IsValidCorner problem spans → NamesItsPins problem.graph →
    ((c : PinNo) → Contains problem.graph.captures c → (v : ℤ) → left_at side problem.graph spans problem.period into best ends checks c ≡ Some v → pos 0 ≤ℤ v) →
    (path : List PinNo) → IsCheckedPath problem.graph path → pos 0 ≤ℤ excess side problem spans no_buffers path
met_from side problem spans into starts best ends checks tables valid numbers enough [] checked = absurd checked
met_from side problem spans into starts best ends checks tables valid numbers enough (a ∷ []) checked = absurd checked
met_from side problem spans into starts best ends checks tables valid numbers enough (a ∷ b ∷ rest) checked =
    let parts : Parts = problem.graph in
    let c : PinNo = last_pin b rest in
    let a_below : a.0 < parts.pins = All-contains (λ (pin : PinNo). pin.0 < parts.pins) parts.launches a numbers.launches checked.0 in
    let c_below : c.0 < parts.pins = All-contains (λ (pin : PinNo). pin.0 < parts.pins) parts.captures c numbers.captures checked.1 in
    let start : ℤ = weight side (hull_of (items_at parts.launches spans.launch a)) in
    let begins : get_or starts a.0 None ≡ Some start =
    tables.begins a a_below ∙ least_at-weights side parts.launches spans.launch a valid.launch_each (listed parts.launches a checked.0) in
    let own : AtMost (get_or starts a.0 None) start = rw begins (omega (arith, ints)) in
    let best_a : AtMost (get_or best a.0 None) start = start_at_most parts.arcs (map (weight side) spans.arcs) starts into best a.0 start (tables.settled.right a.0 a_below) own in
    let e : ℤ = weight (opposite side) (capture_at parts spans c) in
    let k : ℤ = neg_ℤ (check_at side parts spans c) in
    let arrives : get_or ends c.0 None ≡ Some e =
    tables.arrives c c_below ∙ least_at-weights (opposite side) parts.captures spans.capture c valid.capture_each (listed parts.captures c checked.1) in
    let needs : get_or checks c.0 None ≡ Some k =
    tables.needs c c_below ∙ least_at-negated parts.captures (checks_of side spans) c (checks_each side problem spans valid) (listed parts.captures c checked.1) in
    let steps : ℤ = signed_steps side parts.arcs spans a (b ∷ rest) in
    let comes : AtMost (coming side parts.arcs spans into best c) (start +ℤ steps) =
    no_path_below side parts.pins parts.arcs spans starts into best tables.settled a b rest start best_a checked.2 in
    let rests = left-some (coming side parts.arcs spans into best c) (get_or ends c.0 None) (get_or checks c.0 None) (base_of side problem.period) e k (start +ℤ steps) comes arrives needs in
    let at_least : pos 0 ≤ℤ (((rests.0 +ℤ e) +ℤ k) +ℤ base_of side problem.period) = enough c checked.1 _ rests.1 in
    let is = excess_is side problem spans a (b ∷ rest) in
    let low : rests.0 ≤ℤ (start +ℤ steps) = rests.2 in
    omega (arith, ints, is, low, at_least)

left_parts : (comes end check : Option ℤ) (base v : ℤ) → left comes end check base ≡ Some v →
    (sum e c : ℤ) × (comes ≡ Some sum) × (end ≡ Some e) × (check ≡ Some c) × ((((sum +ℤ e) +ℤ c) +ℤ base) ≡ v)
left_parts None end check base v h = absurd (none-some v h)
left_parts (Some s) None check base v h = absurd (none-some v h)
left_parts (Some s) (Some e) None base v h = absurd (none-some v h)
left_parts (Some s) (Some e) (Some c) base v h = (s, e, c, refl, refl, refl, same_Some _ v h)

-- a path that is found is a checked path, and what is left at its capture is its excess
pub record IsExcess (side : Side) (problem : Problem) (spans : Spans) (path : List PinNo) (v : ℤ) : Type 0 where
  pub checked : IsCheckedPath problem.graph path
  pub is : excess side problem spans no_buffers path ≡ v

excess_sum : (side : Side) (parts : Parts) (spans : Spans) (rest : List PinNo) (first c : PinNo) → last_pin first rest ≡ c →
    (own start sum e k base v : ℤ) → own ≡ start → start +ℤ signed_steps side parts.arcs spans first rest ≡ sum →
    e ≡ weight (opposite side) (capture_at parts spans c) → k ≡ neg_ℤ (check_at side parts spans c) → ((sum +ℤ e) +ℤ k) +ℤ base ≡ v →
    (((own +ℤ signed_steps side parts.arcs spans first rest) +ℤ weight (opposite side) (capture_at parts spans (last_pin first rest)))
    +ℤ neg_ℤ (check_at side parts spans (last_pin first rest))) +ℤ base ≡ v
excess_sum side parts spans rest first c last own start sum e k base v is_own value is_e is_k total =
    rw last (omega (arith, ints))

pub found_excess : (side : Side) (problem : Problem) (spans : Spans) (into : List (Option ℕ)) (starts best ends checks : List (Option ℤ)) →
    AreTables side problem.graph spans into starts best ends checks → IsValidCorner problem spans → NamesItsPins problem.graph →
    (path : List PinNo) (c : PinNo) (v : ℤ) → Contains problem.graph.captures c →
    left_at side problem.graph spans problem.period into best ends checks c ≡ Some v →
    ((sum : ℤ) → coming side problem.graph.arcs spans into best c ≡ Some sum → IsFound side problem.graph.arcs spans starts path c sum) →
    IsExcess side problem spans path v
found_excess side problem spans into starts best ends checks tables valid numbers path c v at is found =
    let parts : Parts = problem.graph in
    let left_is = left_parts (coming side parts.arcs spans into best c) (get_or ends c.0 None) (get_or checks c.0 None) (base_of side problem.period) v is in
    let f : IsFound side parts.arcs spans starts path c left_is.0 = found left_is.0 left_is.3 in
    let arc_below = All-contains (λ arc. arc.from.0 < parts.pins) parts.arcs f.next.0.arc numbers.from f.next.0.listed in
    let same : f.next.0.arc.from.0 ≡ f.first.0 = ap (λ (p : PinNo). p.0) f.next.0.from in
    let first_below : f.first.0 < parts.pins = omega arith in
    let c_below : c.0 < parts.pins = All-contains (λ (pin : PinNo). pin.0 < parts.pins) parts.captures c numbers.captures at in
    let begins : least_at parts.launches (map (weight side) spans.launch) f.first ≡ Some f.start = sym (tables.begins f.first first_below) ∙ f.begins in
    let launch : IsListed parts.launches f.first = listed_from_least parts.launches (map (weight side) spans.launch) f.first f.start begins in
    let hulled : weight side (hull_of (items_at parts.launches spans.launch f.first)) ≡ f.start =
    same_Some _ _ (sym (least_at-weights side parts.launches spans.launch f.first valid.launch_each launch) ∙ begins) in
    let arrives : left_is.1 ≡ weight (opposite side) (capture_at parts spans c) =
    same_Some _ _ (sym left_is.4 ∙ tables.arrives c c_below ∙ least_at-weights (opposite side) parts.captures spans.capture c valid.capture_each (listed parts.captures c at)) in
    let needs : left_is.2 ≡ neg_ℤ (check_at side parts spans c) =
    same_Some _ _ (sym left_is.5 ∙ tables.needs c c_below ∙ least_at-negated parts.captures (checks_of side spans) c (checks_each side problem spans valid) (listed parts.captures c at)) in
    let total = left_is.6 in
    let value = f.value in
    let is : excess side problem spans no_buffers (f.first ∷ f.second ∷ f.rest) ≡ v =
    excess_is side problem spans f.first (f.second ∷ f.rest)
    ∙ excess_sum side parts spans (f.second ∷ f.rest) f.first c f.last (weight side (hull_of (items_at parts.launches spans.launch f.first))) f.start left_is.0 left_is.1 left_is.2 (base_of side problem.period) v hulled value arrives needs total in
    let checked : IsCheckedPath parts (f.first ∷ f.second ∷ f.rest) =
    ((launch.place, launch.below, launch.at), subst (Contains parts.captures) (sym f.last) at, f.next) in
    record {
      checked = subst (IsCheckedPath parts) (sym f.split) checked;
      is = ap (λ (p : List PinNo). excess side problem spans no_buffers p) f.split ∙ is;
    }
