use Rattle.std.proofs.Common.{subst}
use Rattle.toml.specs.View.{table_view}
use Rattle.hold_base.specs.Answers.{Answers}
use Rattle.hold_job.proofs.Sets.{checks_same}
use Rattle.hold_job.proofs.arcs.checks_at.Goals as goal

pub returns : goal.returns
returns c =
    subst (Answers c.or_else.result) (checks_same _ c.none.ensures c.args.corners c.args.kind.now _ _ c.in_ok-pins.ensures (table_view c.args.table.now)) c.or_else.ensures
