-- A job read part by part is the job read key by key.
use Rattle.std.proofs.Common.{◌≡◌, ℕ, List, [], codes, length, map, refl, ◌∙◌}
use Rattle.std.specs.Prelude.{Ok, Err, pos}
use Rattle.toml.specs.Data.{Members}
use Rattle.hold_base.specs.Limits.{time_limit, chain_limit, types_limit, kinds_limit}
use Rattle.hold_job.specs.declared.job.Job.{Job}
use Rattle.hold_job.specs.declared.listed_type.ListedType.{ListedType}
use Rattle.hold_job.specs.declared.files.Files.{Files}
use Rattle.hold_job.specs.declared.settings.Settings.{Settings}
use Rattle.hold_job.specs.declared.listing.Listing.{Listing}
use Rattle.hold_job.specs.Limits.{nodes_limit, searchers_limit, order_limit, usual_chain, usual_nodes, usual_searchers, usual_order}
use Rattle.hold_job.specs.Outcome.{Outcome, ◌>>=◌}
use Rattle.hold_job.specs.Keys.{known, required, or_else, if_any}
use Rattle.hold_job.specs.Lists.{every, every_within}
use Rattle.hold_job.specs.Names.{file_name}
use Rattle.hold_job.specs.Numbers.{number, earliest, spans}
use Rattle.hold_job.specs.CellTypes.{type_of}
use Rattle.hold_job.specs.Entries.{corners_of, kind_of, clock_of, keep_of}
use Rattle.hold_job.specs.Doubles.{no_doubles}
use Rattle.hold_job.specs.FileNames.{kept_apart}
use Rattle.hold_job.specs.Job.{job_keys, job_in}
use Rattle.hold_job.specs.inner.Parts.{files_in, settings_in, listing_in, job_from, job_by_parts}

-- what leads on from a part leads on from its last row
joined : {A B C : Type 0} (m : Outcome A) (f : A → Outcome B) (g : A → Outcome C) (k : B → Outcome C) → ((x : A) → (f x >>= k) ≡ g x) → ((m >>= f) >>= k) ≡ (m >>= g)
joined (Ok x) f g k rest = rest x
joined (Err fault) f g k rest = refl

same_next : {A B : Type 0} (m : Outcome A) (f g : A → Outcome B) → ((x : A) → f x ≡ g x) → (m >>= f) ≡ (m >>= g)
same_next (Ok x) f g same = same x
same_next (Err fault) f g same = refl

files_join : {X : Type 0} (ms : Members) (k : Files → Outcome X) → (files_in ms >>= k) ≡ (do
  netlist ← required file_name (codes "netlist") ms
  output ← required file_name (codes "output") ms
  certificate ← required file_name (codes "certificate") ms
  plan ← if_any file_name (codes "plan") ms
  k (record { netlist = netlist; output = output; certificate = certificate; plan = plan }))
unfolding files_in
files_join ms k =
    joined (required file_name (codes "netlist") ms) _ _ k (λ netlist.
    joined (required file_name (codes "output") ms) _ _ k (λ output.
    joined (required file_name (codes "certificate") ms) _ _ k (λ certificate.
    joined (if_any file_name (codes "plan") ms) _ _ k (λ plan. refl))))

settings_join : {X : Type 0} (ms : Members) (k : Settings → Outcome X) → (settings_in ms >>= k) ≡ (do
  period ← required (number 1 time_limit) (codes "period") ms
  max_chain ← or_else usual_chain (number 0 chain_limit) (codes "max_chain") ms
  nodes ← or_else usual_nodes (number 1 nodes_limit) (codes "nodes") ms
  searchers ← or_else usual_searchers (number 1 searchers_limit) (codes "searchers") ms
  order ← or_else usual_order (number 0 order_limit) (codes "order") ms
  k (record { period = pos period; max_chain = max_chain; nodes = nodes; searchers = searchers; order = order }))
unfolding settings_in
settings_join ms k =
    joined (required (number 1 time_limit) (codes "period") ms) _ _ k (λ period.
    joined (or_else usual_chain (number 0 chain_limit) (codes "max_chain") ms) _ _ k (λ max_chain.
    joined (or_else usual_nodes (number 1 nodes_limit) (codes "nodes") ms) _ _ k (λ nodes.
    joined (or_else usual_searchers (number 1 searchers_limit) (codes "searchers") ms) _ _ k (λ searchers.
    joined (or_else usual_order (number 0 order_limit) (codes "order") ms) _ _ k (λ order. refl)))))

listing_join : {X : Type 0} (ms : Members) (k : Listing → Outcome X) → (listing_in ms >>= k) ≡ (do
  corners ← required corners_of (codes "corner") ms
  arrival ← if_any (spans earliest (length corners)) (codes "arrival") ms
  types ← or_else [] (every_within 0 types_limit (type_of (length corners))) (codes "type") ms
  kinds ← or_else [] (every_within 0 kinds_limit (kind_of (length corners) (map (λ t. t.cell) types))) (codes "kind") ms
  clocks ← or_else [] (every (clock_of (length corners))) (codes "clock") ms
  keeps ← or_else [] (every keep_of) (codes "keep") ms
  k (record { corners = corners; arrival = arrival; types = types; kinds = kinds; clocks = clocks; keeps = keeps }))
unfolding listing_in
listing_join ms k =
    joined (required corners_of (codes "corner") ms) _ _ k (λ corners.
    joined (if_any (spans earliest (length corners)) (codes "arrival") ms) _ _ k (λ arrival.
    joined (or_else [] (every_within 0 types_limit (type_of (length corners))) (codes "type") ms) _ _ k (λ types.
    joined (or_else [] (every_within 0 kinds_limit (kind_of (length corners) (map (λ (t : ListedType). t.cell) types))) (codes "kind") ms) _ _ k (λ kinds.
    joined (or_else [] (every (clock_of (length corners))) (codes "clock") ms) _ _ k (λ clocks.
    joined (or_else [] (every keep_of) (codes "keep") ms) _ _ k (λ keeps. refl))))))

last_rows : List ℕ → Files → Settings → Listing → Outcome Job
last_rows own f s l = do
  _ ← no_doubles l.types l.kinds l.clocks
  _ ← kept_apart own f.netlist f.output f.certificate f.plan l.corners
  Ok (job_from f s l)

pub job_by_parts_is : (own : List ℕ) (ms : Members) → job_by_parts own ms ≡ job_in own ms
unfolding job_by_parts job_in last_rows
job_by_parts_is own ms =
    same_next (known job_keys ms) _ _ (λ _.
    files_join ms (λ f. settings_in ms >>= λ s. listing_in ms >>= λ l. last_rows own f s l)
    ∙ same_next (required file_name (codes "netlist") ms) _ _ (λ netlist.
    same_next (required file_name (codes "output") ms) _ _ (λ output.
    same_next (required file_name (codes "certificate") ms) _ _ (λ certificate.
    same_next (if_any file_name (codes "plan") ms) _ _ (λ plan.
    let f : Files = record { netlist = netlist; output = output; certificate = certificate; plan = plan } in
    settings_join ms (λ s. listing_in ms >>= λ l. last_rows own f s l)
    ∙ same_next (required (number 1 time_limit) (codes "period") ms) _ _ (λ period.
    same_next (or_else usual_chain (number 0 chain_limit) (codes "max_chain") ms) _ _ (λ max_chain.
    same_next (or_else usual_nodes (number 1 nodes_limit) (codes "nodes") ms) _ _ (λ nodes.
    same_next (or_else usual_searchers (number 1 searchers_limit) (codes "searchers") ms) _ _ (λ searchers.
    same_next (or_else usual_order (number 0 order_limit) (codes "order") ms) _ _ (λ order.
    listing_join ms (last_rows own f (record { period = pos period; max_chain = max_chain; nodes = nodes; searchers = searchers; order = order }))))))))))))
