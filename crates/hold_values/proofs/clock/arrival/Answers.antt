use Rattle.std.proofs.Common.{ℕ, List, ◌∙◌, ap}
use Rattle.hold_job.specs.declared.inst_times.Clock.{Clock}
use Rattle.hold_roles.specs.inner.NamePlaces.{first_at}
use Rattle.hold_values.specs.Defaults.{IsOwnArrival, IsSharedArrival}
use Rattle.hold_values.specs.inner.Keys.{clock_names}
use Rattle.hold_values.proofs.DefaultLemmas.{clock-within, arrival-within, arrival-found, arrival-none}
use Rattle.hold_values.proofs.GivenLemmas.{else-first, else-second}
use Rattle.hold_values.proofs.clock.arrival.Goals as goal

pub bounds-as_slice-place : goal.bounds-as_slice-place
bounds-as_slice-place c =
    let found = c.in-Some.ensures ∙ ap (λ (n : List ℕ). first_at 0 n (clock_names c.args.job.now.clocks)) c.bytes.ensures in
    clock-within c.args.job.now c.requires.rules c.args.corner.0 c.requires.corner c.args.inst.now c.in-Some.place found c.as_slice.result.now c.as_slice.ensures

pub bounds-as_slice-corner : goal.bounds-as_slice-corner
bounds-as_slice-corner c =
    let found = c.in-Some.ensures ∙ ap (λ (n : List ℕ). first_at 0 n (clock_names c.args.job.now.clocks)) c.bytes.ensures in
    arrival-within c.args.job.now c.requires.rules c.args.corner.0 c.requires.corner c.args.inst.now c.in-Some.place found c.as_slice.result.now c.as_slice.ensures
    c.index-as_slice-place.result c.as_slice-in-Some.result.now (c.as_slice-in-Some.ensures ∙ ap (λ (clock : Clock). clock.arrivals) c.index-as_slice-place.is)

pub returns-in-Some : goal.returns-in-Some
returns-in-Some c =
    let found = c.in-Some.ensures ∙ ap (λ (n : List ℕ). first_at 0 n (clock_names c.args.job.now.clocks)) c.bytes.ensures in
    else-first (IsOwnArrival c.args.job.now c.args.corner.0 c.args.inst.now) (IsSharedArrival c.args.job.now c.args.corner.0) _
    (arrival-found c.args.job.now c.requires.rules c.args.corner.0 c.requires.corner c.args.inst.now c.in-Some.place found c.as_slice.result.now c.as_slice.ensures
    c.index-as_slice-place.result c.as_slice-in-Some.result.now (c.as_slice-in-Some.ensures ∙ ap (λ (clock : Clock). clock.arrivals) c.index-as_slice-place.is) _)

pub returns-in-None : goal.returns-in-None
returns-in-None c =
    let none = c.in-None.ensures ∙ ap (λ (n : List ℕ). first_at 0 n (clock_names c.args.job.now.clocks)) c.bytes.ensures in
    else-second (IsOwnArrival c.args.job.now c.args.corner.0 c.args.inst.now) (IsSharedArrival c.args.job.now c.args.corner.0) c.shared_arrival.result
    (arrival-none c.args.job.now c.requires.rules c.args.corner.0 c.requires.corner c.args.inst.now none) c.shared_arrival.ensures
