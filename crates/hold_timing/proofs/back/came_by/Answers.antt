use Rattle.std.proofs.Common.{◌≡◌, ◌+◌, ◌∙◌, ap, sym, subst, arith, w64}
use Rattle.std.specs.Prelude.{FitsSigned}
use Rattle.std.proofs.lemmas.Int.{ints, to_z-of_z}
use Rattle.hold_graph.specs.declared.graph.Parts.{Parts}
use Rattle.hold_graph.specs.Problem.{IsWithin}
use Rattle.hold_graph.specs.Sites.{buffers_of}
use Rattle.hold_timing.specs.inner.Pass.{pad_limit, step_limit, sum_limit}
use Rattle.hold_timing.proofs.Passed.{places-below}
use Rattle.hold_timing.proofs.WayBack.{came_by}
use Rattle.hold_timing.proofs.back.came_by.Goals as goal

pub first_bringing-requires-clause-places : goal.first_bringing-requires-clause-places
first_bringing-requires-clause-places c =
    places-below c.args.problem.now.graph.arcs c.as_slice.result.now c.incoming.result.now c.args.pin
    (c.as_slice.ensures ∙ ap (λ (parts : Parts). parts.arcs) c.parts.ensures.same) c.incoming.ensures

pub returns-in-Some-clause-by : goal.returns-in-Some-clause-by
returns-in-Some-clause-by c = λ sites are.
    let within : IsWithin pad_limit c.pad.result = c.pad.ensures.within in
    let in_range : FitsSigned w64 c.pad.result = omega (arith, ints) in
    let near : IsWithin (sum_limit + step_limit) c.in-Some.time = c.requires.time c.in-Some.time c.in-Some.is in
    let time_range : FitsSigned w64 c.in-Some.time = omega (arith, ints) in
    came_by c.args.side c.args.problem.now.graph c.args.spans.now (buffers_of _ sites c.args.counts.now) c.args.arrivals.now c.args.pin c.args.time c.in-Some.time c.first_bringing.result
    c.as_slice.result.now c.as_slice-in-Some.result.now c.pad.result c.incoming.result.now
    (c.as_slice.ensures ∙ ap (λ (parts : Parts). parts.arcs) c.parts.ensures.same) c.as_slice-in-Some.ensures (c.pad.ensures.value sites are) c.incoming.ensures c.in-Some.is
    c.first_bringing.ensures.listed
    (rw (to_z-of_z w64 c.pad.result in_range, to_z-of_z w64 c.in-Some.time time_range) at c.first_bringing.ensures.brings)
    (rw (to_z-of_z w64 c.pad.result in_range, to_z-of_z w64 c.in-Some.time time_range) at c.first_bringing.ensures.none)
