use Rattle.hold_graph.specs.Sites.{AreCountsOf}
use Rattle.hold_graph_tests.proofs.counted.counts_with.Given as goal

abbrev pub invariant-loop-var : goal.invariant-loop-var
invariant-loop-var l = AreCountsOf l.problem l.counts
