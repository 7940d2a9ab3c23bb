-- Jobs: what a job says, and which texts are a job.
--
-- keeps_files: whether the files that are written differ from those that are read and from each other.
-- timing_of: what is known of time: the period, the common clock arrival if there is one, the cell types and the single arrivals.
-- job_values: what the keys give, each by its own rule.
-- job_of ms own: the job that the members of a document give, where they give one: by its known keys alone, and with files that are
--   kept apart; own is the name of the file that the job stands in.
-- IsJobText text own job: the text is a job, and it is this job: UTF-8 and TOML, whose members give it. There is at most one.
use Rattle.std.specs.Prelude.{◌≡◌, ℕ, List, codes, Bool, not, ◌&&◌, ◌||◌, if◌then◌else◌, Option, Some, None, bytes_eq, IsUtf8}
use Rattle.toml.specs.Data.{Members}
use Rattle.toml.specs.Parse.{parse_document}
use Rattle.hold_plain.specs.declared.timing.Timing.{Timing}
use Rattle.hold_cli.specs.declared.job_form.Job.{Job as JobData}
use Rattle.hold_cli.specs.declared.job_form.key.JobTable.TheVariants.{Job}
use Rattle.hold_cli.specs.JobFormKeys.{◌>>=◌, kept, keys_of, has_only}
use Rattle.hold_cli.specs.JobFormNames.{file_name_at, corner_name_at}
use Rattle.hold_cli.specs.JobFormTimes.{period_at, span_if_any}
use Rattle.hold_cli.specs.JobFormCells.{cells_at}
use Rattle.hold_cli.specs.JobFormClocks.{clocks_at}

abbrev pub keeps_files : List ℕ → JobData → Bool
keeps_files own job =
    not (bytes_eq job.output own || bytes_eq job.output job.netlist || bytes_eq job.output job.certificate)
    && not (bytes_eq job.certificate own || bytes_eq job.certificate job.netlist)

unfoldable pub timing_of : Members → Option Timing
timing_of ms = do
  period ← period_at ms
  arrival ← span_if_any (codes "arrival") ms
  cells ← cells_at ms
  clocks ← clocks_at ms
  Some (record { period = period; arrival = arrival; cells = cells; clocks = clocks })

unfoldable pub job_values : Members → Option JobData
job_values ms = do
  netlist ← file_name_at (codes "netlist") ms
  output ← file_name_at (codes "output") ms
  certificate ← file_name_at (codes "certificate") ms
  corner ← corner_name_at ms
  timing ← timing_of ms
  Some (record { netlist = netlist; output = output; certificate = certificate; corner = corner; timing = timing })

abbrev pub job_of : Members → List ℕ → Option JobData
job_of ms own = if has_only (keys_of Job) ms then kept (keeps_files own) (job_values ms) else None

pub record IsJobText (text own : List ℕ) (job : JobData) : Type 0 where
  pub tree : Members
  pub utf8 : IsUtf8 text
  pub parsed : parse_document text ≡ Some tree
  pub gives : job_of tree own ≡ Some job
