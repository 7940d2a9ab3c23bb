use Rattle.std.proofs.Common.{◌≡◌, ◌∙◌, ap, sym, subst, arith}
use Rattle.std.specs.Prelude.{All}
use Rattle.hold_base.specs.Limits.{launch_limit}
use Rattle.hold_graph.specs.declared.graph.Parts.{Parts}
use Rattle.hold_graph.specs.Problem.{IsSpan}
use Rattle.hold_timing.proofs.Starts.{spread_table-within, spread_table-start}
use Rattle.hold_timing.proofs.pass.settle.Goals as goal

pub run-requires-clause-within : goal.run-requires-clause-within
run-requires-clause-within c =
    spread_table-within c.args.side c.clear.new.arrivals.items c.spread_spans.new.table.items c.as_slice-launches.result.now c.as_slice.result.now c.spread_spans.ensures.len c.clear.ensures.none
    c.spread_spans.ensures.each (subst (All (IsSpan launch_limit)) (sym c.as_slice.ensures) c.requires.corner.launch)

pub run-requires-clause-starts : goal.run-requires-clause-starts
run-requires-clause-starts c = λ pin below.
    spread_table-start c.args.side c.args.problem.now.graph c.args.spans.now pin _ _ c.as_slice-launches.result.now c.as_slice.result.now
    (c.as_slice-launches.ensures ∙ ap (λ (parts : Parts). parts.launches) c.parts.ensures.same) c.as_slice.ensures c.requires.corner.launch_each
    (c.clear.ensures.none pin.0) (c.spread_spans.ensures.each pin (let len = c.clear.ensures.len in let pins = c.requires.len in omega arith))
