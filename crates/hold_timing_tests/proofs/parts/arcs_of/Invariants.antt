use Rattle.std.proofs.Common.{◌≡◌, ◌<◌, length}
use Rattle.std.specs.Prelude.{All}
use Rattle.hold_timing_tests.proofs.parts.arcs_of.Given as goal

abbrev pub invariant-loop-from : goal.invariant-loop-from
invariant-loop-from l = record {
  from : All (λ arc. arc.from.0 < l.pins) l.made.items;
  to : All (λ arc. arc.to.0 < l.pins) l.made.items;
  each : length l.made.items ≡ l.from-index;
}
