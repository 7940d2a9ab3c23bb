use Rattle.hold_certtext.proofs.PlanLaws.{plan-one}
use Rattle.hold_certtext.proofs.plan_reader.know_one_plan.Goals as goal

pub returns : goal.returns
returns c = plan-one
