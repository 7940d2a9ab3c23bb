use Rattle.std.proofs.Common.{rules}
use Rattle.hold_timing_tests.specs.Sketch.{IsCornerOver}
use Rattle.hold_timing_tests.proofs.Corners.{all_pushed}
use Rattle.hold_timing_tests.proofs.problem.corners_of.Goals as goal

pub loop-corner-preserved : goal.loop-corner-preserved
loop-corner-preserved c = record {
  each = search rules;
  fit = all_pushed (IsCornerOver c.args.parts.now c.args.kinds) c.loop-corner.all.items c.push.new.self.items c.in_ok-corner_of.field-0 c.in_ok-push.ensures.items c.loop-corner.invariant.fit c.in_ok-corner_of.ensures;
}
