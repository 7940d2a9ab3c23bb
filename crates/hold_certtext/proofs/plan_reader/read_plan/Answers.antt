use Rattle.hold_certtext.proofs.PlanLaws.{read-plan, refuse-plan}
use Rattle.hold_certtext.proofs.plan_reader.read_plan.Goals as goal

pub returns-clause-read : goal.returns-clause-read
returns-clause-read c = read-plan c.args.text.now c.read_lines.result c.read_lines.ensures.plan c.read_lines.ensures.fault

pub returns-clause-refused : goal.returns-clause-refused
returns-clause-refused c = refuse-plan c.args.text.now c.read_lines.result c.read_lines.ensures.plan c.read_lines.ensures.fault
