use Rattle.std.proofs.Common.{◌≡◌}
use Rattle.toml.specs.View.{table_view}
use Rattle.hold_cli.specs.JobFormKeys.{keys_of, has_only}
use Rattle.hold_cli.proofs.JobFormLemmas.{are_all_of}
use Rattle.hold_cli.proofs.job_form.key.JobTable.has_all_keys.Given as goal

abbrev pub invariant-loop-key : goal.invariant-loop-key
invariant-loop-key l = are_all_of (keys_of l.self) l.key-iterator ≡ has_only (keys_of l.self) (table_view l.table)
