-- EndsWire, IsSite, AreSites: what pins the sites are, in SitePins.
-- Counts go by variable, `site * kinds + kind`, where a site is told by its place among the sites and a kind by its own.
-- count_at kinds counts site kind: the count of that kind at the site of that place; 0 where there is no site.
-- buffers_of kinds sites counts: these counts as buffers in front of pins, of kinds below `kinds`. None stands in front of a pin
--   that is no site, and a variable past the counts has 0.
-- chain_sum kinds counts site: how many buffers stand at the site.
-- IsBuffering problem sites counts: each variable has a count from 0 to 16, and no site has more than `max_chain`.
-- AreCountsOf problem counts: there is one count for each variable of the problem.
-- cost_from costs var counts: the cost of these counts, where the first is that of the variable `var`.
-- cost_of costs counts: each count times its kind's cost, summed. Where there is no kind there is no variable and no cost.
-- Meets problem sites counts: the sites are the problem's, the counts are a buffering over them, and with it the problem is
--   met. Where the problem has a site, no empty list of sites meets it.
-- Worked examples, in proofs/SiteExamples: cost-one_site, cost-two_sites, kept-no_site, unchecked-no_site, no_sites-buffering, no_sites-unmet.
use Rattle.std.specs.Prelude.{◌≡◌, ℕ, ◌+◌, ◌*◌, ◌%◌, ◌<◌, ◌≤◌, ◌==◌, List, [], ◌∷◌, length, sum, position, Option, Some, None, slice_index, slice_range, All}
use Rattle.hold_base.specs.Limits.{chain_limit}
use Rattle.hold_base.specs.declared.number.PinNo.{PinNo}
use Rattle.hold_graph.specs.declared.problem.Problem.{Problem}
pub use Rattle.hold_graph.specs.SitePins.{EndsWire, IsSite, AreSites}
use Rattle.hold_graph.specs.Sums.{Buffers}
use Rattle.hold_graph.specs.Met.{IsMet}

-- the count of a kind at the site of that place, if any
abbrev pub count_at : ℕ → List ℕ → Option ℕ → ℕ → ℕ
count_at kinds counts None kind = 0
count_at kinds counts (Some site) kind = slice_index counts (site * kinds + kind)

abbrev pub buffers_of : ℕ → List PinNo → List ℕ → Buffers
buffers_of kinds sites counts = λ pin kind. count_at kinds counts (position (λ site. site.0 == pin.0) sites) kind

abbrev pub chain_sum : ℕ → List ℕ → ℕ → ℕ
chain_sum kinds counts site = sum (slice_range counts (site * kinds) (site * kinds + kinds))

pub record IsBuffering (problem : Problem) (sites : List PinNo) (counts : List ℕ) : Type 0 where
  pub each : length counts ≡ length sites * length problem.costs
  pub most : All (λ count. count ≤ chain_limit) counts
  pub chains : (site : ℕ) → site < length sites → chain_sum (length problem.costs) counts site ≤ problem.max_chain

abbrev pub AreCountsOf : Problem → List ℕ → Type 0
AreCountsOf problem counts = (sites : List PinNo) → AreSites problem.graph sites → length counts ≡ length sites * length problem.costs

-- the cost of the counts of the variables from this one on
abbrev pub cost_from : List ℕ → ℕ → List ℕ → ℕ
cost_from costs var [] = 0
cost_from costs var (count ∷ counts) = count * slice_index costs (var % length costs) + cost_from costs (var + 1) counts

abbrev pub cost_of : List ℕ → List ℕ → ℕ
cost_of costs counts = cost_from costs 0 counts

pub record Meets (problem : Problem) (sites : List PinNo) (counts : List ℕ) : Type 0 where
  pub of_graph : AreSites problem.graph sites
  pub buffering : IsBuffering problem sites counts
  pub met : IsMet problem (buffers_of (length problem.costs) sites counts)
