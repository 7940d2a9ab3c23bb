-- The problem of a list of pins that is served: its arcs run upwards by rank, at most one ends at each pin, and all is within the limits.
use Rattle.std.proofs.Common.{◌≡◌, ℕ, zero, suc, ◌+◌, ◌^◌, ◌<◌, ◌≤◌, List, [], ◌∷◌, map, length, refl, ap, ◌∙◌, sym, subst, arith, ◌⊎◌, inl, inr}
use Rattle.std.specs.Prelude.{Option, Some, None, slice_get, slice_index, slice_index_or, Bool, All, ℤ, pos, ◌≤ℤ◌}
use Rattle.std.proofs.lemmas.Option.{same_Some, slice_get_within, get_or_from_slice_get}
use Rattle.std.proofs.lemmas.List.Elements.{All-nil, All-cons, All-weaker}
use Rattle.hold_base.specs.declared.number.PinNo.{PinNo}
use Rattle.hold_base.specs.declared.time.Interval.{Interval}
use Rattle.hold_graph.specs.declared.graph.Arc.{Arc}
use Rattle.hold_graph.specs.declared.graph.Parts.{Parts}
use Rattle.hold_graph.specs.declared.problem.Spans.{Spans}
use Rattle.hold_graph.specs.declared.problem.Problem.{Problem}
use Rattle.hold_graph.specs.Graph.{AreBelow, EndsOnce, NamesItsPins, Rises}
use Rattle.hold_graph.specs.Problem.{IsSpan, IsWithin, IsValid, IsValidCorner}
use Rattle.hold_base.specs.Limits.{arcs_limit, time_limit, launch_limit}
use Rattle.hold_plain.specs.declared.pin_use.PinUse.{PinUse}
use Rattle.hold_plain.specs.declared.pin_use.PinRole.{PinRole}
use Rattle.hold_plain.specs.declared.pin_use.PinRole.TheVariants.{Output}
use Rattle.hold_plain.specs.Keys.{net_of, driven, fed, place_of}
use Rattle.hold_plain.specs.Served.{IsServedUses}
use Rattle.hold_plain.specs.inner.Limits.{IsTimed}
use Rattle.hold_plain.specs.Problem.{driver_of, arcs_from, step_span, is_clock_pin, is_data, is_launch, pins_with, clock_span, launch_span, setup_of, hold_of, parts_of, spans_of, problem_with}
use Rattle.hold_plain.specs.inner.Problem.{rank_of}
use Rattle.hold_plain.proofs.PlaceLemmas.{place_of-stands}
use Rattle.hold_plain.proofs.RankFacts.{IsReader, same_net, wire_rises, cell_rises}
use Rattle.hold_plain.proofs.ArcFacts.{IsArcInto, all_arcs, all_steps, arcs_from_once, length-arcs_from, length-steps_from}
use Rattle.hold_plain.proofs.ListFacts.{pins_from_below, length-uses_with, uses_with_all}
use Rattle.hold_plain.proofs.SpanFacts.{step_span_within, clock_span_within, launch_span_within, setup_of_within, hold_of_within}

-- the pin of a place whose key is known
record IsKeyed (f : PinUse → Option ℕ) (key : ℕ) (uses : List PinUse) (place : ℕ) : Type 0 where
  pub pin : PinUse
  pub at : slice_get uses place ≡ Some pin
  pub is : f pin ≡ Some key

keyed_at : (f : PinUse → Option ℕ) (key : ℕ) (uses : List PinUse) (place : ℕ) → slice_get (map f uses) place ≡ Some (Some key) → IsKeyed f key uses place
keyed_at f key [] place at = cc
keyed_at f key (u ∷ us) zero at = record { pin = u; at = refl; is = same_Some (f u) (Some key) at }
keyed_at f key (u ∷ us) (suc place) at = let h = keyed_at f key us place at in record { pin = h.pin; at = h.at; is = h.is }

keyed : (f : PinUse → Option ℕ) (key : ℕ) (uses : List PinUse) (place : ℕ) → place_of key (map f uses) ≡ Some place → IsKeyed f key uses place
keyed f key uses place found = keyed_at f key uses place (place_of-stands key place (map f uses) found)

-- the net of a driver that is found
record IsDriven (uses : List PinUse) (o : Option ℕ) (place : ℕ) : Type 0 where
  pub net : ℕ
  pub named : o ≡ Some net
  pub driver : IsKeyed driven net uses place

driver_found : (uses : List PinUse) (o : Option ℕ) (place : ℕ) → driver_of (map driven uses) o ≡ Some place → IsDriven uses o place
driver_found uses None place found = cc
driver_found uses (Some net) place found = record { net = net; named = refl; driver = keyed driven net uses place found }

rank_at : (uses : List PinUse) (place : ℕ) (u : PinUse) → slice_get uses place ≡ Some u → slice_index (map rank_of uses) place ≡ rank_of u
rank_at [] place u at = cc
rank_at (v ∷ us) zero u at = ap rank_of (same_Some v u at)
rank_at (v ∷ us) (suc place) u at = rank_at us place u at

inst_at : (uses : List PinUse) (place : ℕ) (u : PinUse) → All (λ v. v.inst ≤ 2 ^ 18) uses → slice_get uses place ≡ Some u → u.inst ≤ 2 ^ 18
inst_at uses place u few at =
    let is : slice_index_or uses place u ≡ u = get_or_from_slice_get uses place u u at in
    subst (λ (v : PinUse). v.inst ≤ 2 ^ 18) is (few place u (slice_get_within uses place u at))

-- what is said of the ends of an arc into the pin of a place
record IsRising (uses : List PinUse) (arc : Arc) : Type 0 where
  pub within : arc.from.0 < length uses
  pub rises : slice_index (map rank_of uses) arc.from.0 < slice_index (map rank_of uses) arc.to.0

rising_by : (uses : List PinUse) (arc : Arc) (from to : PinUse) → slice_get uses arc.from.0 ≡ Some from → slice_get uses arc.to.0 ≡ Some to →
    rank_of from < rank_of to → IsRising uses arc
rising_by uses arc from to at_from at_to lt =
    let low = rank_at uses arc.from.0 from at_from in
    let high = rank_at uses arc.to.0 to at_to in
    record { within = slice_get_within uses arc.from.0 from at_from; rises = omega arith }

arc_rises : (uses : List PinUse) → IsServedUses uses → All (λ u. u.inst ≤ 2 ^ 18) uses → (place : ℕ) (u : PinUse) (arc : Arc) →
    slice_get uses place ≡ Some u → IsArcInto (map driven uses) (map fed uses) place u arc → IsRising uses arc
arc_rises uses served few place u arc at into = by_case into.from
  where
    at_to : slice_get uses arc.to.0 ≡ Some u
    at_to = ap (slice_get uses) into.to ∙ at

    by_case : ((IsReader u.role × (driver_of (map driven uses) (net_of u.source) ≡ Some arc.from.0)) ⊎ ((u.role ≡ Output) × (place_of u.inst (map fed uses) ≡ Some arc.from.0))) → IsRising uses arc
    by_case (inl wire) =
        let h = driver_found uses (net_of u.source) arc.from.0 wire.1 in
        let v : PinUse = h.driver.pin in
        rising_by uses arc v u h.driver.at at_to
        (wire_rises v u h.net h.driver.is wire.0
        (λ from_output to_input. served.forward arc.from.0 place h.net v u h.driver.at at from_output h.driver.is to_input (same_net u.source h.net h.named))
        (inst_at uses arc.from.0 v few h.driver.at))
    by_case (inr cell) =
        let h = keyed fed u.inst uses arc.from.0 cell.1 in
        rising_by uses arc h.pin u h.at at_to (cell_rises h.pin u h.is cell.0)

all_rising : (uses : List PinUse) → IsServedUses uses → All (λ u. u.inst ≤ 2 ^ 18) uses →
    All (IsRising uses) (arcs_from (map driven uses) (map fed uses) 0 uses)
all_rising uses served few =
    all_arcs (IsRising uses) (map driven uses) (map fed uses) 0 uses
    (λ k u arc at into. arc_rises uses served few k u arc at
    (let e : 0 + k ≡ k = omega arith in subst (λ (n : ℕ). IsArcInto (map driven uses) (map fed uses) n u arc) e into))

-- ranks rise along each arc
pub parts_of_rises : (uses : List PinUse) → IsServedUses uses → All (λ u. u.inst ≤ 2 ^ 18) uses → Rises (parts_of uses).arcs (map rank_of uses)
parts_of_rises uses served few =
    All-weaker (IsRising uses) (λ (arc : Arc). slice_index (map rank_of uses) arc.from.0 < slice_index (map rank_of uses) arc.to.0) (λ arc h. h.rises)
    (arcs_from (map driven uses) (map fed uses) 0 uses) (all_rising uses served few)

-- at most one arc ends at each pin
pub parts_of_once : (uses : List PinUse) → EndsOnce (parts_of uses).arcs
parts_of_once uses = arcs_from_once (map driven uses) (map fed uses) 0 uses

pins_below : (is : PinRole → Bool) (uses : List PinUse) → AreBelow (length uses) (pins_with is uses)
pins_below is uses = pins_from_below is (length uses) 0 uses (omega arith)

-- each pin that is named is there
pub parts_of_numbered : (uses : List PinUse) → IsServedUses uses → All (λ u. u.inst ≤ 2 ^ 18) uses → NamesItsPins (parts_of uses)
parts_of_numbered uses served few = record {
  from = All-weaker (IsRising uses) (λ (arc : Arc). arc.from.0 < length uses) (λ arc h. h.within)
      (arcs_from (map driven uses) (map fed uses) 0 uses) (all_rising uses served few);
  to = all_arcs (λ (arc : Arc). arc.to.0 < length uses) (map driven uses) (map fed uses) 0 uses
      (λ k u arc at into. let lt = slice_get_within uses k u at in let e = into.to in omega arith);
  launches = pins_below is_launch uses;
  captures = pins_below is_data uses;
  clocks = pins_below is_clock_pin uses;
  keeps = All-nil (λ (pin : PinNo). pin.0 < length uses);
}

all_timed : (P : PinUse → Type 0) (uses : List PinUse) → ((u : PinUse) → IsTimed u → P u) → All IsTimed uses → All P uses
all_timed P uses each timed = All-weaker IsTimed P each uses timed

corner_valid : (period : ℤ) (uses : List PinUse) → All IsTimed uses → IsValidCorner (problem_with period uses) (spans_of uses)
corner_valid period uses timed = record {
  arcs_each = length-steps_from (map driven uses) (map fed uses) 0 uses;
  launch_each = length-uses_with is_launch launch_span 0 uses;
  capture_each = length-uses_with is_data clock_span 0 uses;
  setup_each = length-uses_with is_data setup_of 0 uses;
  hold_each = length-uses_with is_data hold_of 0 uses;
  kinds_each = refl;
  arcs = all_steps (IsSpan time_limit) (map driven uses) (map fed uses) 0 uses (all_timed (λ (u : PinUse). IsSpan time_limit (step_span u)) uses step_span_within timed);
  launch = uses_with_all (IsSpan launch_limit) is_launch launch_span uses
      (all_timed (λ (u : PinUse). IsSpan launch_limit (launch_span u)) uses launch_span_within timed);
  capture = uses_with_all (IsSpan time_limit) is_data clock_span uses
      (all_timed (λ (u : PinUse). IsSpan time_limit (clock_span u)) uses clock_span_within timed);
  setup = uses_with_all (IsWithin time_limit) is_data setup_of uses
      (all_timed (λ (u : PinUse). IsWithin time_limit (setup_of u)) uses setup_of_within timed);
  hold = uses_with_all (IsWithin time_limit) is_data hold_of uses
      (all_timed (λ (u : PinUse). IsWithin time_limit (hold_of u)) uses hold_of_within timed);
  kinds = All-nil (IsSpan time_limit);
  kinds_least = All-nil (λ (kind : Interval). pos 0 ≤ℤ kind.least);
}

-- the problem is within the limits
pub problem_with_valid : (period : ℤ) (uses : List PinUse) → IsServedUses uses → All IsTimed uses → pos 1 ≤ℤ period → period ≤ℤ pos time_limit →
    IsValid (problem_with period uses)
problem_with_valid period uses served timed least most =
    let few = served.pins in
    let short = length-arcs_from (map driven uses) (map fed uses) 0 uses in
    record {
      pins = few;
      arcs = omega arith;
      some_corner = omega arith;
      corner_limit = omega arith;
      kinds = omega arith;
      costs_least = All-nil (λ (cost : ℕ). 1 ≤ cost);
      costs_most = All-nil (λ (cost : ℕ). cost ≤ 1000000);
      max_chain = omega arith;
      period_least = least;
      period_most = most;
      corners = All-cons (IsValidCorner (problem_with period uses)) (spans_of uses) [] (corner_valid period uses timed)
          (All-nil (IsValidCorner (problem_with period uses)));
    }

-- the same of values that are equal to these lists, as they are made one after another
pub line_numbered : (parts : Parts) (uses : List PinUse) → parts ≡ parts_of uses → IsServedUses uses → All (λ u. u.inst ≤ 2 ^ 18) uses → NamesItsPins parts
line_numbered parts uses is served few = subst NamesItsPins (sym is) (parts_of_numbered uses served few)

pub line_once : (parts : Parts) (uses : List PinUse) → parts ≡ parts_of uses → EndsOnce parts.arcs
line_once parts uses is = subst (λ (p : Parts). EndsOnce p.arcs) (sym is) (parts_of_once uses)

pub line_rises : (parts : Parts) (ranks : List ℕ) (uses : List PinUse) → parts ≡ parts_of uses → ranks ≡ map rank_of uses → IsServedUses uses →
    All (λ u. u.inst ≤ 2 ^ 18) uses → Rises parts.arcs ranks
line_rises parts ranks uses is is_ranks served few =
    subst (λ (p : Parts). Rises p.arcs ranks) (sym is) (subst (λ (rs : List ℕ). Rises (parts_of uses).arcs rs) (sym is_ranks) (parts_of_rises uses served few))

-- a problem of these parts
pub same_problem : (uses : List PinUse) (graph : Parts) (period time : ℤ) (costs : List ℕ) (corners : List Spans) → graph ≡ parts_of uses → time ≡ period →
    costs ≡ [] → corners ≡ spans_of uses ∷ [] →
    ◌≡◌ {A = Problem} (record { graph = graph; period = time; max_chain = 0; costs = costs; corners = corners }) (problem_with period uses)
same_problem uses graph period time costs corners is_graph is_time is_costs is_corners = rw (is_graph, is_time, is_costs, is_corners) refl

pub line_few : (parts : Parts) (uses : List PinUse) → parts ≡ parts_of uses → IsServedUses uses → length parts.arcs ≤ arcs_limit
line_few parts uses is served =
    let short = length-arcs_from (map driven uses) (map fed uses) 0 uses in
    let few = served.pins in
    let same = ap (λ (p : Parts). length p.arcs) is in
    omega (arith, short, few, same)
