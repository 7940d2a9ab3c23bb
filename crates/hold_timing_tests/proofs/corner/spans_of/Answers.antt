use Rattle.std.proofs.Common.{rules, to_z, of_z, w32}
use Rattle.std.specs.Prelude.{◌≤ℤ◌}
use Rattle.hold_base.specs.Limits.{time_limit}
use Rattle.hold_base.specs.declared.time.Interval.{Interval}
use Rattle.hold_graph.specs.Problem.{IsSpan}
use Rattle.hold_timing_tests.proofs.Corners.{all_pushed}
use Rattle.hold_timing_tests.proofs.corner.spans_of.Goals as goal

pub loop-place-preserved : goal.loop-place-preserved
loop-place-preserved c = record {
  each = search rules;
  spans = all_pushed (IsSpan time_limit) c.loop-place.spans.items c.push.new.self.items c.span.result c.in_ok-push.ensures.items c.loop-place.invariant.spans c.span.ensures.span;
  floor = all_pushed (λ (span : Interval). to_z w32 (of_z w32 c.args.floor) ≤ℤ span.least) c.loop-place.spans.items c.push.new.self.items c.span.result c.in_ok-push.ensures.items c.loop-place.invariant.floor
      c.span.ensures.floor;
}
