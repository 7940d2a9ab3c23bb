-- A listed path is told by its place in a list of paths, a site by its place among the sites.
--
-- listed_excess problem sites counts listed: the excess of the listed path, at its side and in its corner, with these counts.
--   0 where no path is listed, or where the problem hasn't its corner.
-- chain_left problem counts site: how many buffers more the chain limit lets stand at the site; below 0 where too many stand.
-- paths_value problem sites paths counts terms: the sum of these multiples of the excesses of listed paths.
-- chains_value problem counts terms: the sum of these multiples of what the chain limits leave.
-- leaf_value problem sites paths leaf counts: the scale times the cost of the counts, less the leaf's multiples of excesses and
--   of what the chain limits leave. Of a fit leaf, and of counts that are a buffering that meets, that is at most the scale times the
--   cost.
-- IsBeta problem sites paths leaf box beta: beta is the least value of the leaf over the points of the box.
use Rattle.std.specs.Prelude.{◌≡◌, ℕ, ◌*◌, List, [], ◌∷◌, length, Option, Some, None, slice_get, ℤ, pos, ◌+ℤ◌, ◌-ℤ◌, ◌*ℤ◌, ◌≤ℤ◌}
use Rattle.hold_base.specs.declared.number.PathNo.{PathNo}
use Rattle.hold_base.specs.declared.number.PinNo.{PinNo}
use Rattle.hold_base.specs.declared.number.SiteNo.{SiteNo}
use Rattle.hold_graph.specs.declared.problem.Spans.{Spans}
use Rattle.hold_graph.specs.declared.problem.Problem.{Problem}
use Rattle.hold_graph.specs.declared.problem.Listed.{Listed}
use Rattle.hold_graph.specs.Met.{excess}
use Rattle.hold_graph.specs.Sites.{buffers_of, chain_sum, cost_of}
use Rattle.hold_graph.specs.declared.boxed.Boxed.{Boxed}
use Rattle.hold_proof.specs.declared.node.Leaf.{Leaf}
use Rattle.hold_graph.specs.Boxes.{IsPoint}

-- the excess of a path in a corner that may be missing
abbrev pub excess_in : Problem → List PinNo → List ℕ → Listed → Option Spans → ℤ
excess_in problem sites counts path None = pos 0
excess_in problem sites counts path (Some spans) =
    excess path.side problem spans (buffers_of (length problem.costs) sites counts) path.pins

abbrev pub listed_excess : Problem → List PinNo → List ℕ → Option Listed → ℤ
listed_excess problem sites counts None = pos 0
listed_excess problem sites counts (Some path) =
    excess_in problem sites counts path (slice_get problem.corners path.corner.0)

abbrev pub chain_left : Problem → List ℕ → ℕ → ℤ
chain_left problem counts site = pos problem.max_chain -ℤ pos (chain_sum (length problem.costs) counts site)

abbrev pub paths_value : Problem → List PinNo → List Listed → List ℕ → List (PathNo × ℕ) → ℤ
paths_value problem sites paths counts [] = pos 0
paths_value problem sites paths counts (term ∷ terms) =
    (pos term.1 *ℤ listed_excess problem sites counts (slice_get paths term.0.0))
    +ℤ paths_value problem sites paths counts terms

abbrev pub chains_value : Problem → List ℕ → List (SiteNo × ℕ) → ℤ
chains_value problem counts [] = pos 0
chains_value problem counts (term ∷ terms) =
    (pos term.1 *ℤ chain_left problem counts term.0.0) +ℤ chains_value problem counts terms

abbrev pub leaf_value : Problem → List PinNo → List Listed → Leaf → List ℕ → ℤ
leaf_value problem sites paths leaf counts =
    (pos (leaf.scale * cost_of problem.costs counts) -ℤ paths_value problem sites paths counts leaf.paths)
    -ℤ chains_value problem counts leaf.chains

pub record IsBeta (problem : Problem) (sites : List PinNo) (paths : List Listed) (leaf : Leaf) (box : Boxed) (beta : ℤ) : Type 0 where
  pub attained : (counts : List ℕ) × IsPoint box counts × (leaf_value problem sites paths leaf counts ≡ beta)
  pub bound : (counts : List ℕ) → IsPoint box counts → beta ≤ℤ leaf_value problem sites paths leaf counts
