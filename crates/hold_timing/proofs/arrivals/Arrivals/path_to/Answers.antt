use Rattle.std.proofs.Common.{◌≡◌, ◌∙◌, ap, sym, subst, length, get_or}
use Rattle.std.specs.Prelude.{List, Option, Some}
use Rattle.hold_base.proofs.Results.{IfOk-weaken}
use Rattle.hold_graph.specs.Met.{excess}
use Rattle.hold_timing.specs.Arrivals.{Table}
use Rattle.hold_timing.specs.Worst.{IsSlackAt}
use Rattle.hold_timing.proofs.AtCorners.{at_corner, times_there}
use Rattle.hold_timing.proofs.arrivals.Arrivals.path_to.Goals as goal

pub path_to-requires-clause-right : goal.path_to-requires-clause-right
path_to-requires-clause-right c =
    times_there c.args.problem.now c.args.self.now c.args.side c.args.corner.0 c.as_slice-counts.result.now c.as_slice.result.now c.index-as_slice-at.result c.times.result.now c.index-times-at.result
    c.requires.arrivals c.requires.corner c.as_slice.ensures c.index-as_slice-at.is c.times.ensures c.index-times-at.is (c.as_slice-counts.ensures.value ∙ ap (λ (t : Table). t.counts) c.self.view_is)

pub returns-clause-least : goal.returns-clause-least
returns-clause-least c = IfOk-weaken c.path_to.result c.path_to.ensures.least (λ path least.
    at_corner c.args.problem.now c.args.self.now.counts c.as_slice-counts.result.now c.args.corner.0 c.as_slice.result.now c.index-as_slice-at.result
    (λ spans buffers. IsSlackAt c.args.side c.args.problem.now spans buffers c.args.capture (Some (excess c.args.side c.args.problem.now spans buffers path.items)))
    c.as_slice.ensures c.index-as_slice-at.is (c.as_slice-counts.ensures.value ∙ ap (λ (t : Table). t.counts) c.self.view_is) least)
