use Rattle.std.proofs.Common.{ap, ◌∙◌}
use Rattle.toml.specs.View.{table_view}
use Rattle.hold_job.specs.Job.{at_top}
use Rattle.hold_job.proofs.Given.{given_by_tree, given_one, told_fault, told_given}
use Rattle.hold_job.proofs.RuleLemmas.{by_parts_keep}
use Rattle.hold_job.proofs.reader.read.Goals as goal

pub returns-in-Ok-job_by_parts-clause-job : goal.returns-in-Ok-job_by_parts-clause-job
returns-in-Ok-job_by_parts-clause-job c =
    given_by_tree c.args.own.now c.args.text.now (table_view c.in-Ok.table) _ c.in-Ok.ensures.ok (ap at_top c.in-Ok-job_by_parts.ensures)

pub returns-in-Ok-job_by_parts-clause-given : goal.returns-in-Ok-job_by_parts-clause-given
returns-in-Ok-job_by_parts-clause-given c = λ outcome given.
    given_one c.args.own.now c.args.text.now (table_view c.in-Ok.table) outcome c.in-Ok.ensures.ok given ∙ ap at_top c.in-Ok-job_by_parts.ensures

pub returns-in-Ok-clause-fault : goal.returns-in-Ok-clause-fault
returns-in-Ok-clause-fault c =
    told_fault c.args.own.now c.args.text.now (table_view c.in-Ok.table) c.in-Err-job_by_parts.stop c.told_at_top.result c.in-Ok.ensures.ok
    c.in-Err-job_by_parts.ensures c.told_at_top.ensures

pub returns-in-Ok-clause-given : goal.returns-in-Ok-clause-given
returns-in-Ok-clause-given c =
    told_given c.args.own.now c.args.text.now (table_view c.in-Ok.table) c.in-Err-job_by_parts.stop c.told_at_top.result c.in-Ok.ensures.ok
    c.in-Err-job_by_parts.ensures c.told_at_top.ensures

pub returns-in-Ok-job_by_parts-clause-rules : goal.returns-in-Ok-job_by_parts-clause-rules
returns-in-Ok-job_by_parts-clause-rules c = by_parts_keep c.args.own.now (table_view c.in-Ok.table) _ c.in-Ok-job_by_parts.ensures
