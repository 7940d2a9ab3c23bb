use Rattle.std.proofs.Common.{◌≡◌, ◌+◌, ◌∙◌, ap, rules, get_or}
use Rattle.std.specs.Prelude.{List}
use Rattle.hold_graph.specs.declared.problem.Spans.{Spans}
use Rattle.hold_timing.proofs.AtCorners.{corners_more}
use Rattle.hold_timing.proofs.corners.side_times.Goals as goal

pub loop-spans-preserved : goal.loop-spans-preserved
loop-spans-preserved c = record {
  each = search rules;
  right = corners_more c.args.problem.now c.args.counts.now c.args.side c.loop-spans.spans-index c.loop-spans.all.items c.push.new.self.items c.spans-item.result c.in_ok-make.field-0
      c.loop-spans.invariant.each c.in_ok-push.ensures.items (c.spans-item.is ∙ ap (λ (xs : List Spans). get_or xs c.loop-spans.spans-index c.spans-item.result) c.as_slice-spans-items.ensures)
      c.loop-spans.invariant.right c.in_ok-make.ensures;
}
