-- Jobs: what a text gives.
--
-- job_keys: the keys that a job may have.
-- job_in own ms: the job that the members of a tree give, or the first fault: of the keys, in this order, then of an entry that stands a
--   second time, then of two files of one name. own is the name of the job's own file.
-- top fault, at_top o: the fault as it is told of a job, whose paths have no point in front.
-- job_of own ms: the job or the fault that the members give, so told.
-- IsTree text tree: the text is UTF-8 and TOML, and that is its tree. HasNoTree text: it isn't UTF-8, or it is and isn't TOML.
-- Gives own text outcome: what the text of the job file of that name gives: exactly one job or one fault.
use Rattle.std.specs.Prelude.{◌≡◌, ℕ, pos, List, [], ◌∷◌, ◌⊎◌, length, map, flat_map, drop, codes, Some, None, Ok, Err, IsUtf8}
use Rattle.toml.specs.Data.{Members}
use Rattle.toml.specs.Parse.{parse_document}
use Rattle.hold_base.specs.Limits.{time_limit, chain_limit, types_limit, kinds_limit}
use Rattle.hold_job.specs.declared.job.Job.{Job}
use Rattle.hold_job.specs.declared.fault.JobFault.{JobFault}
use Rattle.hold_job.specs.declared.fault.JobFault.TheVariants.{Toml, Key, Range, Double, SameName}
use Rattle.hold_job.specs.Limits.{nodes_limit, searchers_limit, order_limit, usual_chain, usual_nodes, usual_searchers, usual_order}
use Rattle.hold_job.specs.Outcome.{Outcome, ◌>>=◌}
use Rattle.hold_job.specs.Keys.{known, required, or_else, if_any}
use Rattle.hold_job.specs.Lists.{every, every_within}
use Rattle.hold_job.specs.Names.{file_name}
use Rattle.hold_job.specs.Numbers.{number, earliest, spans}
use Rattle.hold_job.specs.CellTypes.{type_of}
use Rattle.hold_job.specs.Entries.{corners_of, kind_of, clock_of, keep_of}
use Rattle.hold_job.specs.Doubles.{no_doubles}
use Rattle.hold_job.specs.FileNames.{kept_apart}

abbrev pub job_keys : List (List ℕ)
job_keys =
    codes "netlist" ∷ codes "output" ∷ codes "certificate" ∷ codes "plan" ∷ codes "period" ∷ codes "max_chain" ∷ codes "nodes" ∷ codes "searchers"
    ∷ codes "order" ∷ codes "corner" ∷ codes "arrival" ∷ codes "type" ∷ codes "kind" ∷ codes "clock" ∷ codes "keep" ∷ []

abbrev pub top : JobFault → JobFault
top (Key path) = Key (drop 1 path)
top (Range path) = Range (drop 1 path)
top (Double path) = Double (drop 1 path)
top Toml = Toml
top (SameName name) = SameName name

abbrev pub at_top : {A : Type 0} → Outcome A → Outcome A
at_top (Ok x) = Ok x
at_top (Err fault) = Err (top fault)

unfoldable pub job_in : List ℕ → Members → Outcome Job
job_in own ms = do
  _ ← known job_keys ms
  netlist ← required file_name (codes "netlist") ms
  output ← required file_name (codes "output") ms
  certificate ← required file_name (codes "certificate") ms
  plan ← if_any file_name (codes "plan") ms
  period ← required (number 1 time_limit) (codes "period") ms
  max_chain ← or_else usual_chain (number 0 chain_limit) (codes "max_chain") ms
  nodes ← or_else usual_nodes (number 1 nodes_limit) (codes "nodes") ms
  searchers ← or_else usual_searchers (number 1 searchers_limit) (codes "searchers") ms
  order ← or_else usual_order (number 0 order_limit) (codes "order") ms
  corners ← required corners_of (codes "corner") ms
  arrival ← if_any (spans earliest (length corners)) (codes "arrival") ms
  types ← or_else [] (every_within 0 types_limit (type_of (length corners))) (codes "type") ms
  kinds ← or_else [] (every_within 0 kinds_limit (kind_of (length corners) (map (λ t. t.cell) types))) (codes "kind") ms
  clocks ← or_else [] (every (clock_of (length corners))) (codes "clock") ms
  keeps ← or_else [] (every keep_of) (codes "keep") ms
  _ ← no_doubles types kinds clocks
  _ ← kept_apart own netlist output certificate plan corners
  Ok (record {
    netlist = netlist;
    output = output;
    certificate = certificate;
    plan = plan;
    period = pos period;
    max_chain = max_chain;
    nodes = nodes;
    searchers = searchers;
    order = order;
    corners = corners;
    library = map (λ t. t.cell) types;
    arcs = flat_map (λ t. t.arcs) types;
    checks = flat_map (λ t. t.checks) types;
    kinds = kinds;
    arrival = arrival;
    clocks = clocks;
    keeps = keeps;
  })

abbrev pub job_of : List ℕ → Members → Outcome Job
job_of own ms = at_top (job_in own ms)

abbrev pub IsTree : List ℕ → Members → Type 0
IsTree text tree = IsUtf8 text × (parse_document text ≡ Some tree)

abbrev pub HasNoTree : List ℕ → Type 0
HasNoTree text = IsUtf8 text → parse_document text ≡ None

abbrev pub Gives : List ℕ → List ℕ → Outcome Job → Type 0
Gives own text outcome = (HasNoTree text × (outcome ≡ Err Toml)) ⊎ ((tree : Members) × IsTree text tree × (outcome ≡ job_of own tree))
