use Rattle.std.proofs.Common.{◌≡◌, ◌-◌, length}
use Rattle.hold_graph.specs.inner.Waiting.{IsWorkedOff}
use Rattle.hold_graph.proofs.topological.worked_off.Given as goal

abbrev pub invariant-loop-done : goal.invariant-loop-done
invariant-loop-done l = record { each : length l.counts.items ≡ l.pins; off : IsWorkedOff l.arcs l.done l.counts.items l.order.items }

abbrev pub decreases-loop-done : goal.decreases-loop-done
decreases-loop-done l = l.pins - l.done
