use Rattle.std.specs.Prelude.{count_by, is_none}
use Rattle.hold_graph.specs.inner.Trail.{IsTrail}
use Rattle.hold_graph.proofs.cycle.round_behind.Given as goal

abbrev pub invariant-loop-place : goal.invariant-loop-place
invariant-loop-place l = IsTrail l.arcs l.counts l.places.items l.trail.items l.pin

abbrev pub decreases-loop-place : goal.decreases-loop-place
decreases-loop-place l = count_by is_none l.places.items
