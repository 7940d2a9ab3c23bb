use Rattle.std.proofs.Common.{◌≡◌, ◌∙◌, ap, sym, subst, arith, w64, ℕ, ◌+◌, ◌<◌, length}
use Rattle.std.specs.Prelude.{List, None, FitsSigned, All}
use Rattle.std.proofs.lemmas.Int.{ints, to_z-of_z}
use Rattle.std.proofs.lemmas.List.Elements.{All-contains}
use Rattle.hold_base.specs.Limits.{time_limit}
use Rattle.hold_base.specs.declared.time.Interval.{Interval}
use Rattle.hold_graph.specs.declared.graph.Arc.{Arc}
use Rattle.hold_graph.specs.declared.graph.Parts.{Parts}
use Rattle.hold_graph.specs.Problem.{IsSpan, IsWithin}
use Rattle.hold_graph.specs.Sites.{buffers_of}
use Rattle.hold_timing.specs.inner.Pass.{pad_limit, step_limit}
use Rattle.hold_timing.proofs.Bounds.{IsWithinIfThere, offers-within, within-none}
use Rattle.hold_timing.proofs.Passed.{places-below, coming_is}
use Rattle.hold_timing.proofs.pass.coming_to.Goals as goal

pub coming-requires-clause-places : goal.coming-requires-clause-places
coming-requires-clause-places c =
    places-below c.args.problem.now.graph.arcs c.as_slice.result.now c.incoming.result.now c.args.pin
    (c.as_slice.ensures ∙ ap (λ (parts : Parts). parts.arcs) c.parts.ensures.same) c.incoming.ensures

pub returns-clause-value : goal.returns-clause-value
returns-clause-value c = λ sites are.
    let within : IsWithin pad_limit c.pad.result = c.pad.ensures.within in
    let in_range : FitsSigned w64 c.pad.result = omega (arith, ints) in
    (rw (to_z-of_z w64 c.pad.result in_range) at c.coming.ensures)
    ∙ coming_is c.args.side c.args.problem.now.graph c.args.spans.now (buffers_of _ sites c.args.counts.now) c.args.arrivals.now c.args.pin
    c.as_slice.result.now c.as_slice-2.result.now c.pad.result c.incoming.result.now
    (c.as_slice.ensures ∙ ap (λ (parts : Parts). parts.arcs) c.parts.ensures.same) c.as_slice-2.ensures (c.pad.ensures.value sites are) c.incoming.ensures

pub returns-clause-within : goal.returns-clause-within
returns-clause-within c = λ limit h.
    let within : IsWithin pad_limit c.pad.result = c.pad.ensures.within in
    let in_range : FitsSigned w64 c.pad.result = omega (arith, ints) in
    let arcs = ap (λ (xs : List Arc). length xs) (c.as_slice.ensures ∙ ap (λ (parts : Parts). parts.arcs) c.parts.ensures.same) in
    let spans = ap (λ (xs : List Interval). length xs) c.as_slice-2.ensures in
    let each = c.requires.corner.arcs_each in
    let rows = places-below c.args.problem.now.graph.arcs c.as_slice.result.now c.incoming.result.now c.args.pin
    (c.as_slice.ensures ∙ ap (λ (parts : Parts). parts.arcs) c.parts.ensures.same) c.incoming.ensures in
    subst (IsWithinIfThere (limit + step_limit)) (sym (rw (to_z-of_z w64 c.pad.result in_range) at c.coming.ensures))
    (offers-within c.args.side c.as_slice.result.now c.as_slice-2.result.now c.args.arrivals.now c.pad.result limit
    (subst (All (IsSpan time_limit)) (sym c.as_slice-2.ensures) c.requires.corner.arcs) c.pad.ensures.within h None c.incoming.result.now
    (λ place has. let below = All-contains (λ (k : ℕ). k < length c.as_slice.result.now) c.incoming.result.now place rows has in omega arith)
    (within-none (limit + step_limit)))
