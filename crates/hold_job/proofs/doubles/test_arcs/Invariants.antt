use Rattle.std.proofs.Common.{◌≡◌, drop}
use Rattle.hold_job.specs.Doubles.{of_each, arcs_once}
use Rattle.hold_job.proofs.doubles.test_arcs.Given as goal

-- what is left leads to what the whole does
abbrev pub invariant-loop-place : goal.invariant-loop-place
invariant-loop-place l = of_each arcs_once l.place (drop l.place l.types) ≡ of_each arcs_once 0 l.types
