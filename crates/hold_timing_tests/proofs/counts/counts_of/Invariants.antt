use Rattle.hold_graph.specs.Sites.{AreCountsOf}
use Rattle.hold_timing_tests.proofs.counts.counts_of.Given as goal

abbrev pub invariant-loop-count : goal.invariant-loop-count
invariant-loop-count l = AreCountsOf l.problem l.counts
