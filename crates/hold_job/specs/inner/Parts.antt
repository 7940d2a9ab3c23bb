-- A job in three parts, as the code reads it.
--
-- files_in, settings_in, listing_in ms: what the keys of files, of numbers and of lists give, in order.
-- job_from own files settings listing: the job of these parts.
-- job_by_parts own ms: the job that the members of a tree give, or the first fault, part by part.
use Rattle.std.specs.Prelude.{ℕ, pos, List, [], length, map, flat_map, codes, Ok}
use Rattle.toml.specs.Data.{Members}
use Rattle.hold_base.specs.Limits.{time_limit, chain_limit, types_limit, kinds_limit}
use Rattle.hold_job.specs.declared.job.Job.{Job}
use Rattle.hold_job.specs.declared.files.Files.{Files}
use Rattle.hold_job.specs.declared.settings.Settings.{Settings}
use Rattle.hold_job.specs.declared.listing.Listing.{Listing}
use Rattle.hold_job.specs.Limits.{nodes_limit, searchers_limit, order_limit, usual_chain, usual_nodes, usual_searchers, usual_order}
use Rattle.hold_job.specs.Outcome.{Outcome, ◌>>=◌}
use Rattle.hold_job.specs.Keys.{known, required, or_else, if_any}
use Rattle.hold_job.specs.Lists.{every, every_within}
use Rattle.hold_job.specs.Names.{file_name}
use Rattle.hold_job.specs.Numbers.{number, earliest, spans}
use Rattle.hold_job.specs.CellTypes.{type_of}
use Rattle.hold_job.specs.Entries.{corners_of, kind_of, clock_of, keep_of}
use Rattle.hold_job.specs.Doubles.{no_doubles}
use Rattle.hold_job.specs.FileNames.{kept_apart}
use Rattle.hold_job.specs.Job.{job_keys}

unfoldable pub files_in : Members → Outcome Files
files_in ms = do
  netlist ← required file_name (codes "netlist") ms
  output ← required file_name (codes "output") ms
  certificate ← required file_name (codes "certificate") ms
  plan ← if_any file_name (codes "plan") ms
  Ok (record { netlist = netlist; output = output; certificate = certificate; plan = plan })

unfoldable pub settings_in : Members → Outcome Settings
settings_in ms = do
  period ← required (number 1 time_limit) (codes "period") ms
  max_chain ← or_else usual_chain (number 0 chain_limit) (codes "max_chain") ms
  nodes ← or_else usual_nodes (number 1 nodes_limit) (codes "nodes") ms
  searchers ← or_else usual_searchers (number 1 searchers_limit) (codes "searchers") ms
  order ← or_else usual_order (number 0 order_limit) (codes "order") ms
  Ok (record { period = pos period; max_chain = max_chain; nodes = nodes; searchers = searchers; order = order })

unfoldable pub listing_in : Members → Outcome Listing
listing_in ms = do
  corners ← required corners_of (codes "corner") ms
  arrival ← if_any (spans earliest (length corners)) (codes "arrival") ms
  types ← or_else [] (every_within 0 types_limit (type_of (length corners))) (codes "type") ms
  kinds ← or_else [] (every_within 0 kinds_limit (kind_of (length corners) (map (λ t. t.cell) types))) (codes "kind") ms
  clocks ← or_else [] (every (clock_of (length corners))) (codes "clock") ms
  keeps ← or_else [] (every keep_of) (codes "keep") ms
  Ok (record { corners = corners; arrival = arrival; types = types; kinds = kinds; clocks = clocks; keeps = keeps })

abbrev pub job_from : Files → Settings → Listing → Job
job_from f s l = record {
  netlist = f.netlist;
  output = f.output;
  certificate = f.certificate;
  plan = f.plan;
  period = s.period;
  max_chain = s.max_chain;
  nodes = s.nodes;
  searchers = s.searchers;
  order = s.order;
  corners = l.corners;
  library = map (λ t. t.cell) l.types;
  arcs = flat_map (λ t. t.arcs) l.types;
  checks = flat_map (λ t. t.checks) l.types;
  kinds = l.kinds;
  arrival = l.arrival;
  clocks = l.clocks;
  keeps = l.keeps;
}

unfoldable pub job_by_parts : List ℕ → Members → Outcome Job
job_by_parts own ms = do
  _ ← known job_keys ms
  f ← files_in ms
  s ← settings_in ms
  l ← listing_in ms
  _ ← no_doubles l.types l.kinds l.clocks
  _ ← kept_apart own f.netlist f.output f.certificate f.plan l.corners
  Ok (job_from f s l)
