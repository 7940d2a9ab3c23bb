-- IsToldFrom step stop told: where told is a fault, it is that of stop as it is told from above, where step leads to the value.
-- IsToldAtTop stop told: where told is a fault, it is that of stop as it is told of a job.
use Rattle.std.specs.Prelude.{◌≡◌, ℕ, List}
use Rattle.hold_base.specs.declared.stop.Stop.{Stop}
use Rattle.hold_base.specs.declared.stop.Stop.TheVariants.{Memory, Fault}
use Rattle.hold_base.specs.Answers.{IfStopFault}
use Rattle.hold_job.specs.declared.fault.JobFault.{JobFault}
use Rattle.hold_job.specs.Outcome.{below}
use Rattle.hold_job.specs.Job.{top}

abbrev pub IsToldFrom : List ℕ → Stop JobFault → Stop JobFault → Type 0
IsToldFrom step Memory told = told ≡ Memory
IsToldFrom step (Fault fault) told = IfStopFault told (λ f. f ≡ below step fault)

abbrev pub IsToldAtTop : Stop JobFault → Stop JobFault → Type 0
IsToldAtTop Memory told = told ≡ Memory
IsToldAtTop (Fault fault) told = IfStopFault told (λ f. f ≡ top fault)
