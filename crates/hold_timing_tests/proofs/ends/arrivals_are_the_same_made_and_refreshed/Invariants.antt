use Rattle.hold_timing.specs.Arrivals.{AreArrivals}
use Rattle.hold_timing_tests.proofs.ends.arrivals_are_the_same_made_and_refreshed.Given as goal

abbrev pub invariant-loop-listed : goal.invariant-loop-listed
invariant-loop-listed g l = AreArrivals l.problem l.refreshed
