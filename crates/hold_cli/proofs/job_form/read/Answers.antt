use Rattle.std.proofs.Common.{sym}
use Rattle.toml.specs.View.{table_view}
use Rattle.hold_cli.proofs.JobFormLimits.{job_keeps_limits}
use Rattle.hold_cli.proofs.job_form.read.Goals as goal

pub returns-in-Ok-clause-limits : goal.returns-in-Ok-clause-limits
returns-in-Ok-clause-limits c = λ job e.
    let is = rw e at c.job_of.ensures in
    job_keeps_limits (table_view c.in-Ok.table) c.args.own.now job (sym is)
