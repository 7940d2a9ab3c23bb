use Rattle.std.proofs.Common.{◌≡◌, map, take}
use Rattle.hold_graph.specs.inner.Arrival.{weight}
use Rattle.hold_graph.proofs.side.weights.Given as goal

abbrev pub invariant-loop-span : goal.invariant-loop-span
invariant-loop-span l = l.made.items ≡ map (weight l.side) (take l.span-index l.spans)
