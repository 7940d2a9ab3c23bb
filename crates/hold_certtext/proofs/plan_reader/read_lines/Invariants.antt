use Rattle.std.proofs.Common.{length}
use Rattle.hold_certtext.specs.inner.PlanReading.{plan_so_far}
use Rattle.hold_certtext.proofs.PlanLaws.{PlanProgress}
use Rattle.hold_certtext.proofs.plan_reader.read_lines.Given as goal

abbrev pub invariant-loop-alloc : goal.invariant-loop-alloc
invariant-loop-alloc l = PlanProgress l.text l.rest (plan_so_far l.draft) l.number

abbrev pub decreases-loop-alloc : goal.decreases-loop-alloc
decreases-loop-alloc l = length l.rest
