use Rattle.std.proofs.Common.{◌≡◌, length, ap, sym, refl, rules, arith, to_z, of_z, w64, FitsSigned}
use Rattle.std.proofs.lemmas.Int.{to_z-of_z}
use Rattle.std.proofs.lemmas.List.Elements.{All-weaker}
use Rattle.hold_graph.specs.declared.graph.Parts.{Parts}
use Rattle.hold_graph.specs.declared.problem.Spans.{Spans}
use Rattle.hold_graph.specs.declared.problem.Problem.{Problem}
use Rattle.hold_graph.specs.Problem.{IsValidCorner}
use Rattle.hold_timing_tests.specs.Sketch.{IsCornerOver}
use Rattle.hold_timing_tests.proofs.problem.problem_of.Goals as goal

pub returns : goal.returns
returns c =
    let problem : Problem = record { graph = c.in_ok-graph.graph; period = to_z w64 (of_z w64 c.args.sketch.period); max_chain = 16; costs = c.in_ok-costs.costs; corners = c.in_ok-corners.corners } in
    let in_range : FitsSigned w64 c.args.sketch.period = search rules in
    let period = to_z-of_z w64 c.args.sketch.period in_range in
    let fits = c.if-not-fits_limits.ensures in
    let graph = c.in_ok-graph.ensures in
    let parts : c.parts.result.now ≡ c.in_ok-graph.graph = c.parts.ensures.same in
    let over = All-weaker (IsCornerOver c.parts.result.now c.args.sketch.kinds) (IsValidCorner problem) (λ (spans : Spans) (is : IsCornerOver c.parts.result.now c.args.sketch.kinds spans). is.valid problem (sym parts) c.in_ok-costs.ensures.each)
    c.in_ok-corners.corners c.in_ok-corners.ensures.fit in
    record {
      pins = omega (arith, ap (λ (p : Parts). p.pins) graph, c.in_ok-parts_of.ensures.pins, fits.pins refl);
      arcs = omega (arith, ap (λ (p : Parts). length p.arcs) graph, c.in_ok-parts_of.ensures.arcs, fits.arcs refl);
      some_corner = omega (arith, c.in_ok-corners.ensures.each, fits.some_corner refl);
      corner_limit = omega (arith, c.in_ok-corners.ensures.each, fits.corners refl);
      kinds = omega (arith, c.in_ok-costs.ensures.each, fits.kinds refl);
      costs_least = c.in_ok-costs.ensures.least;
      costs_most = c.in_ok-costs.ensures.most;
      max_chain = omega arith;
      period_least = rw period (fits.period_least refl);
      period_most = rw period (fits.period_most refl);
      corners = over;
    }
