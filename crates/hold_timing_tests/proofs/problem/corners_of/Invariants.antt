use Rattle.std.proofs.Common.{◌≡◌, length}
use Rattle.std.specs.Prelude.{All}
use Rattle.hold_timing_tests.specs.Sketch.{IsCornerOver}
use Rattle.hold_timing_tests.proofs.problem.corners_of.Given as goal

abbrev pub invariant-loop-corner : goal.invariant-loop-corner
invariant-loop-corner l = record {
  each : length l.all.items ≡ l.corner-index;
  fit : All (IsCornerOver l.parts l.kinds) l.all.items;
}
