use Rattle.std.proofs.Common.{◌≡◌, ◌∙◌, ap, sym, subst, length, get_or}
use Rattle.std.specs.Prelude.{List, Option, option_map}
use Rattle.hold_base.specs.declared.time.Side.TheVariants.{Early}
use Rattle.hold_graph.specs.Met.{excess}
use Rattle.hold_graph.specs.Path.{IsCheckedPath}
use Rattle.hold_timing.specs.Arrivals.{Table}
use Rattle.hold_timing.specs.Ends.{IsWorstEnd}
use Rattle.hold_timing.specs.Worst.{IsWorstOf}
use Rattle.hold_timing.proofs.AtCorners.{at_corner, times_there}
use Rattle.hold_timing.proofs.WorstEnds.{worst_end-slack}
use Rattle.hold_timing.proofs.arrivals.Arrivals.worst.Goals as goal

pub worst-requires-clause-right : goal.worst-requires-clause-right
worst-requires-clause-right c =
    times_there c.args.problem.now c.args.self.now c.args.side c.args.corner.0 c.as_slice-2.result.now c.as_slice.result.now c.index-as_slice-at.result c.times.result.now c.index-times-at.result
    c.requires.arrivals c.requires.corner c.as_slice.ensures c.index-as_slice-at.is c.times.ensures c.index-times-at.is (c.as_slice-2.ensures.value ∙ ap (λ (t : Table). t.counts) c.self.view_is)

pub returns-clause-worst : goal.returns-clause-worst
returns-clause-worst c =
    at_corner c.args.problem.now c.args.self.now.counts c.as_slice-2.result.now c.args.corner.0 c.as_slice.result.now c.index-as_slice-at.result
    (λ spans buffers. IsWorstEnd c.args.side c.args.problem.now spans buffers c.worst.result)
    c.as_slice.ensures c.index-as_slice-at.is (c.as_slice-2.ensures.value ∙ ap (λ (t : Table). t.counts) c.self.view_is) c.worst.ensures

pub returns-clause-slack : goal.returns-clause-slack
returns-clause-slack c =
    at_corner c.args.problem.now c.args.self.now.counts c.as_slice-2.result.now c.args.corner.0 c.as_slice.result.now c.index-as_slice-at.result
    (λ spans buffers. IsWorstOf Early (IsCheckedPath c.args.problem.now.graph) (excess c.args.side c.args.problem.now spans buffers) (option_map (λ end. end.slack) c.worst.result))
    c.as_slice.ensures c.index-as_slice-at.is (c.as_slice-2.ensures.value ∙ ap (λ (t : Table). t.counts) c.self.view_is)
    (λ sites are. worst_end-slack c.args.side c.args.problem.now _ _ c.worst.result (c.worst.ensures sites are))
