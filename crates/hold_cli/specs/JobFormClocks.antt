-- The clock arrivals that a job lists.
--
-- clock_in ms: the arrival that a table's members give.
-- clock_of: the arrival that a value gives: a table of exactly an instance's name and its span.
-- have_different_insts clocks: whether no two are of one instance.
-- clocks_at: the arrivals of a job, of different instances.
use Rattle.std.specs.Prelude.{List, map, codes, Bool, if◌then◌else◌, Option, Some, None}
use Rattle.toml.specs.Data.{Data, Members, as_table}
use Rattle.hold_plain.specs.declared.timing.Clock.{Clock}
use Rattle.hold_cli.specs.declared.job_form.key.JobTable.TheVariants.{Clock as ClockTable}
use Rattle.hold_cli.specs.JobFormKeys.{◌>>=◌, kept, keys_of, has_only, each_at}
use Rattle.hold_cli.specs.JobFormNames.{name_at, names_differ}
use Rattle.hold_cli.specs.JobFormTimes.{span_at}

unfoldable pub clock_in : Members → Option Clock
clock_in ms = do
  inst ← name_at (codes "inst") ms
  arrival ← span_at (codes "arrivals") ms
  Some (record { inst = inst; arrival = arrival })

abbrev pub clock_of : Data → Option Clock
clock_of d = as_table d >>= λ ms. if has_only (keys_of ClockTable) ms then clock_in ms else None

abbrev pub have_different_insts : List Clock → Bool
have_different_insts clocks = names_differ (map (λ clock. clock.inst) clocks)

abbrev pub clocks_at : Members → Option (List Clock)
clocks_at ms = kept have_different_insts (each_at clock_of (codes "clock") ms)
