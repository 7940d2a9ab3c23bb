use Rattle.std.proofs.Common.{◌≡◌}
use Rattle.toml.specs.View.{table_view}
use Rattle.hold_job.specs.Keys.{unknown}
use Rattle.hold_job.specs.inner.Texts.{texts, unknown_among}
use Rattle.hold_job.proofs.keys.first_unknown.Given as goal

-- what is left has the first unknown key of the whole
abbrev pub invariant-loop-key : goal.invariant-loop-key
invariant-loop-key l = unknown_among (texts l.keys) l.key-iterator ≡ unknown (texts l.keys) (table_view l.table)
