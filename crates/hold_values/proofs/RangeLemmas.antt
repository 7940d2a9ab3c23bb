-- The times that are given are in range.
use Rattle.std.proofs.Common.{◌≡◌, ℕ, List, [], ◌∷◌, length, inl, inr, sym, subst, arith}
use Rattle.std.specs.Prelude.{ℤ, Option, Some, None, IfSome, All, Contains, slice_get}
use Rattle.std.specs.List.{AllByRecursion, AllZip}
use Rattle.std.proofs.lemmas.Int.{ints}
use Rattle.std.proofs.lemmas.List.Elements.{All-contains, All-from_recursion}
use Rattle.hold_base.specs.Limits.{time_limit}
use Rattle.hold_base.specs.declared.number.PinNo.{PinNo}
use Rattle.hold_base.specs.declared.time.Interval.{Interval}
use Rattle.hold_graph.specs.declared.graph.Arc.{Arc}
use Rattle.hold_graph.specs.declared.graph.Parts.{Parts}
use Rattle.hold_graph.specs.Problem.{IsSpan, IsWithin}
use Rattle.hold_job.specs.declared.cell_times.TypeArc.{TypeArc}
use Rattle.hold_job.specs.declared.cell_times.TypeCheck.{TypeCheck}
use Rattle.hold_job.specs.declared.inst_times.Clock.{Clock}
use Rattle.hold_job.specs.declared.job.Job.{Job}
use Rattle.hold_job.specs.Rules.{AreSpans, AreValues, KeepsRules}
use Rattle.hold_roles.specs.Binding.{Binding}
use Rattle.hold_sdf.specs.declared.entry.Entry.{Entry}
use Rattle.hold_sdf.specs.declared.entry.Entry.TheVariants.{Cell, Wire, Check}
use Rattle.hold_sdf.specs.Range.{IsInRange, IsTimely, IsSpan as IsSaidSpan}
use Rattle.hold_told.specs.Entries.{Says, span_of, setup_of, hold_of}
use Rattle.hold_told.specs.Values.{IsGreatestOf, IsHullOf}
use Rattle.hold_told.proofs.ItemLemmas.{item_at_place, place_of_item, all-at}
use Rattle.hold_values.specs.Defaults.{IsArrival, IsDefaultTime, IsSpanOfType}
use Rattle.hold_values.specs.Given.{IfAny, IsGivenClock, IsGivenDelay, IsGivenHold, IsGivenSetup, IsGivenSpan}
use Rattle.hold_values.specs.Values.{AreInRange, AreValuesOf}
use Rattle.hold_values.specs.declared.value.Values.{Values}

-- ---- lists

each-in : {A X : Type 0} {Given : A → X → Type 0} {InRange : X → Type 0} (xs : List A) (ys : List (Option X)) → ((a : A) (x : X) → Given a x → InRange x)
    → AllZip (λ a o. IfAny (Given a) o) xs ys → All (λ o. IfSome o InRange) ys
each-in {A} {X} {Given} {InRange} xs ys in_range h = All-from_recursion (λ (o : Option X). IfSome o InRange) ys (by xs ys h)
  where
    here : (a : A) (o : Option X) → IfAny (Given a) o → IfSome o InRange
    here a None h = tt
    here a (Some x) h = in_range a x h

    by : (xs : List A) (ys : List (Option X)) → AllZip (λ a o. IfAny (Given a) o) xs ys → AllByRecursion (λ (o : Option X). IfSome o InRange) ys
    by [] [] h = tt
    by [] (o ∷ ys) h = absurd h
    by (a ∷ xs) [] h = tt
    by (a ∷ xs) (o ∷ ys) h = (here a o h.0, by xs ys h.1)

-- ---- what entries say

timely-within : (t : ℤ) → IsTimely t → IsWithin time_limit t
timely-within t h = record { low = omega (arith, ints); high = omega (arith, ints) }

module _ (entries : List Entry) (range : AllByRecursion IsInRange entries) where
  entry-in_range : (e : Entry) → Contains entries e → IsInRange e
  entry-in_range e listed = let at = place_of_item entries e listed in all-at IsInRange entries at.0 e range at.1

  span-said : (e : Entry) (span : Interval) → IsInRange e → span_of e ≡ Some span → IsSaidSpan span
  span-said (Cell at inst from to o) span range is = subst (λ (x : Option Interval). IfSome x IsSaidSpan) is range
  span-said (Wire at inst from to o) span range is = subst (λ (x : Option Interval). IfSome x IsSaidSpan) is range
  span-said (Check at inst pin clock setup hold) span range is = absurd cc

  setup-said : (e : Entry) (time : ℤ) → IsInRange e → setup_of e ≡ Some time → IsTimely time
  setup-said (Cell at inst from to o) time range is = absurd cc
  setup-said (Wire at inst from to o) time range is = absurd cc
  setup-said (Check at inst pin clock setup hold) time range is = subst (λ (x : Option ℤ). IfSome x IsTimely) is range.0

  hold-said : (e : Entry) (time : ℤ) → IsInRange e → hold_of e ≡ Some time → IsTimely time
  hold-said (Cell at inst from to o) time range is = absurd cc
  hold-said (Wire at inst from to o) time range is = absurd cc
  hold-said (Check at inst pin clock setup hold) time range is = subst (λ (x : Option ℤ). IfSome x IsTimely) is range.1

  hull-in_range : (Belongs : Entry → Type 0) (span : Interval) → IsHullOf (Says Belongs span_of entries) span → IsSpan time_limit span
  hull-in_range Belongs span h =
      let first = span-said h.first_said.entry h.first (entry-in_range h.first_said.entry h.first_said.listed) h.first_said.says in
      let last = span-said h.last_said.entry h.last (entry-in_range h.last_said.entry h.last_said.listed) h.last_said.says in
      let low = timely-within h.first.least first.least in
      let high = timely-within h.last.greatest last.greatest in
      let ordered = first.ordered in
      let to_greatest = h.to_greatest h.first h.first_said in
      let begins = h.begins in
      let ends = h.ends in
      record {
        ordered = omega (arith, ints);
        least = subst (IsWithin time_limit) (sym h.begins) low;
        greatest = subst (IsWithin time_limit) (sym h.ends) high;
      }

  setup-in_range : (Belongs : Entry → Type 0) (time : ℤ) → IsGreatestOf (Says Belongs setup_of entries) time → IsWithin time_limit time
  setup-in_range Belongs time h = timely-within time (setup-said h.said.entry time (entry-in_range h.said.entry h.said.listed) h.said.says)

  hold-in_range : (Belongs : Entry → Type 0) (time : ℤ) → IsGreatestOf (Says Belongs hold_of entries) time → IsWithin time_limit time
  hold-in_range Belongs time h = timely-within time (hold-said h.said.entry time (entry-in_range h.said.entry h.said.listed) h.said.says)

-- ---- what the job says

module _ (job : Job) (rules : KeepsRules job) (corner : ℕ) where
  span-at : (spans : List Interval) (span : Interval) → AreSpans (length job.corners) spans → slice_get spans corner ≡ Some span → IsSpan time_limit span
  span-at spans span are at = All-contains (IsSpan time_limit) spans span are.all (item_at_place spans corner span at)

  type-in_range : (kind from to : List ℕ) (span : Interval) → IsSpanOfType job corner kind from to span → IsSpan time_limit span
  type-in_range kind from to span h =
      span-at h.arc.spans span (All-contains (λ (arc : TypeArc). AreSpans (length job.corners) arc.spans) job.arcs h.arc rules.times.arcs h.listed) h.at

  clock-in_range : (inst : List ℕ) (span : Interval) → IsArrival job corner inst span → IsSpan time_limit span
  clock-in_range inst span (inl own) =
      span-at own.clock.arrivals span (All-contains (λ (clock : Clock). AreSpans (length job.corners) clock.arrivals) job.clocks own.clock rules.times.clocks own.listed) own.at
  clock-in_range inst span (inr (none, shared)) =
      span-at shared.spans span (subst (λ (o : Option (List Interval)). IfSome o (λ spans. AreSpans (length job.corners) spans)) shared.given rules.times.arrival) shared.at

  setup-default : (b : Binding) (p : PinNo) (time : ℤ) → IsDefaultTime (λ check. check.setup) b job corner p time → IsWithin time_limit time
  setup-default b p time h =
      let are : AreValues (length job.corners) h.check.setup = All-contains (λ (check : TypeCheck). AreValues (length job.corners) check.setup) job.checks h.check rules.times.setups h.listed in
      All-contains (IsWithin time_limit) h.check.setup time are.all (item_at_place h.check.setup corner time h.at)

  hold-default : (b : Binding) (p : PinNo) (time : ℤ) → IsDefaultTime (λ check. check.hold) b job corner p time → IsWithin time_limit time
  hold-default b p time h =
      let are : AreValues (length job.corners) h.check.hold = All-contains (λ (check : TypeCheck). AreValues (length job.corners) check.hold) job.checks h.check rules.times.holds h.listed in
      All-contains (IsWithin time_limit) h.check.hold time are.all (item_at_place h.check.hold corner time h.at)

  module _ (b : Binding) (entries : List Entry) (range : AllByRecursion IsInRange entries) where
    given_span : (arc : Arc) (span : Interval) → IsGivenSpan b job corner entries arc span → IsSpan time_limit span
    given_span arc span (inl told) = hull-in_range entries range _ span told
    given_span arc span (inr (none, default)) = type-in_range default.t.name default.input.name default.output.name span default.of_type

    given_delay : (p : PinNo) (span : Interval) → IsGivenDelay b job corner entries p span → IsSpan time_limit span
    given_delay p span (inl told) = hull-in_range entries range _ span told
    given_delay p span (inr (none, default)) = type-in_range default.t.name default.clock default.output.name span default.of_type

    given_clock : (p : PinNo) (span : Interval) → IsGivenClock b job corner p span → IsSpan time_limit span
    given_clock p span h = clock-in_range h.pin_of.i.name span h.arrives

    given_setup : (p : PinNo) (time : ℤ) → IsGivenSetup b job corner entries p time → IsWithin time_limit time
    given_setup p time (inl told) = setup-in_range entries range _ time told
    given_setup p time (inr (none, default)) = setup-default b p time default

    given_hold : (p : PinNo) (time : ℤ) → IsGivenHold b job corner entries p time → IsWithin time_limit time
    given_hold p time (inl told) = hold-in_range entries range _ time told
    given_hold p time (inr (none, default)) = hold-default b p time default

    pub values-in_range : (graph : Parts) (values : Values) → AreValuesOf b job graph corner entries values → AreInRange values
    values-in_range graph values h = record {
      spans = each-in graph.arcs values.spans.items given_span h.spans;
      delays = each-in graph.launches values.delays.items given_delay h.delays;
      launch_clocks = each-in graph.launches values.launch_clocks.items given_clock h.launch_clocks;
      capture_clocks = each-in graph.captures values.capture_clocks.items given_clock h.capture_clocks;
      setups = each-in graph.captures values.setups.items given_setup h.setups;
      holds = each-in graph.captures values.holds.items given_hold h.holds;
    }
