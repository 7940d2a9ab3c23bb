use Rattle.hold_graph.specs.Graph.{AreBelow}
use Rattle.hold_timing_tests.proofs.parts.pins_of.Given as goal

abbrev pub invariant-loop-number : goal.invariant-loop-number
invariant-loop-number l = AreBelow l.pins l.listed.items
