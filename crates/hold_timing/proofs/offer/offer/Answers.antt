use Rattle.std.proofs.Common.{◌≡◌, ℕ, ◌<◌, ◌∙◌, List, length, get_or, arith, ap, sym}
use Rattle.std.specs.Prelude.{Option, None, ℤ, pos, ◌+ℤ◌, slice_get, FitsSigned}
use Rattle.std.proofs.lemmas.Int.{ints, to_z-of_z}
use Rattle.std.proofs.lemmas.Option.{slice_get-get_or}
use mir.Syntax.{w64}
use Rattle.hold_base.specs.declared.time.Interval.{Interval}
use Rattle.hold_base.specs.declared.time.Side.{Side}
use Rattle.hold_graph.specs.Problem.{IsWithin}
use Rattle.hold_graph.specs.declared.graph.Arc.{Arc}
use Rattle.hold_timing.specs.inner.Pass.{extended, origin, step_at, offer, step_limit}
use Rattle.hold_timing.proofs.offer.offer.Goals as goal

pub extended-requires-clause-time : goal.extended-requires-clause-time
extended-requires-clause-time c = λ t is. c.requires.arrivals _ t is

read : (side : Side) (arcs : List Arc) (spans : List Interval) (arrivals : List (Option ℤ)) (pad : ℤ) (place : ℕ) (d : Arc) (step : ℤ) → place < length arcs →
    step ≡ step_at side spans place +ℤ pad → extended (get_or arrivals (get_or arcs place d).from.0 None) step ≡ offer side arcs spans arrivals pad place
read side arcs spans arrivals pad place d step below is =
    ap (extended (get_or arrivals (get_or arcs place d).from.0 None)) is
    ∙ ap (λ (o : Option Arc). extended (get_or arrivals (origin o) None) (step_at side spans place +ℤ pad)) (sym (slice_get-get_or arcs place d below))

pub returns : goal.returns
returns c =
    let within : IsWithin step_limit c.step.result = c.step.ensures.within in
    let in_range : FitsSigned w64 c.step.result = omega (arith, ints) in
    (rw (to_z-of_z w64 c.step.result in_range) at c.extended.ensures)
    ∙ read c.args.side c.args.arcs.now c.args.spans.now c.args.arrivals.now c.args.pad c.args.place _ c.step.result c.requires.place
    (let v = c.step.ensures.value in omega (arith, ints, v))
