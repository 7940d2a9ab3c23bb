-- IsOfProblem problem path: the listed path is a checked path, and the problem has its corner.
-- ListsChecked problem paths number: a path of that number is listed, and it is of the problem.
-- weight_limit: the greatest weight of a leaf, 2^60. weight_of leaf: its scale and all its multipliers, summed.
-- IsOrderly leaf: the leaf names paths and sites each at most once and in rising order, each multiplier is at least 1, and the
--   weight is within the limit.
-- IsFit problem sites paths leaf: the leaf is orderly, and names listed checked paths and sites that are there.
-- IsAbove scale below beta: beta is above the scale times one less than the bound; without a bound the scale is 0, and beta is
--   above 0. A bound of 0 asks that beta is above minus the scale.
-- Closes problem sites paths force leaf: the leaf is fit, and its least value over the box in force is above what the bound asks.
-- Worked examples, in proofs/TreeExamples: no_sites-closes, no_terms-open.
use Rattle.std.specs.Prelude.{◌≡◌, ℕ, ◌+◌, ◌<◌, ◌≤◌, List, length, map, sum, Option, Some, None, slice_get, All, ℤ, pos, ◌-ℤ◌, ◌*ℤ◌, ◌<ℤ◌}
use Rattle.std.specs.List.Sorted.{IsStrictlyIncreasing}
use Rattle.hold_base.specs.declared.number.PathNo.{PathNo}
use Rattle.hold_base.specs.declared.number.PinNo.{PinNo}
use Rattle.hold_base.specs.declared.number.SiteNo.{SiteNo}
use Rattle.hold_graph.specs.declared.problem.Problem.{Problem}
use Rattle.hold_graph.specs.declared.problem.Listed.{Listed}
use Rattle.hold_graph.specs.Path.{IsCheckedPath}
use Rattle.hold_proof.specs.declared.node.Leaf.{Leaf}
use Rattle.hold_proof.specs.InForce.{InForce}
use Rattle.hold_proof.specs.Values.{IsBeta}

pub record IsOfProblem (problem : Problem) (path : Listed) : Type 0 where
  pub checked : IsCheckedPath problem.graph path.pins
  pub corner : path.corner.0 < length problem.corners

pub record ListsChecked (problem : Problem) (paths : List Listed) (number : PathNo) : Type 0 where
  pub path : Listed
  pub at : slice_get paths number.0 ≡ Some path
  pub of_problem : IsOfProblem problem path

abbrev pub weight_limit : ℕ
weight_limit = 1152921504606846976

abbrev pub weight_of : Leaf → ℕ
weight_of leaf = (leaf.scale + sum (map (λ term. term.1) leaf.paths)) + sum (map (λ term. term.1) leaf.chains)

pub record IsOrderly (leaf : Leaf) : Type 0 where
  pub paths_rise : IsStrictlyIncreasing (map (λ (term : PathNo × ℕ). term.0.0) leaf.paths)
  pub paths_times : All (λ (term : PathNo × ℕ). 1 ≤ term.1) leaf.paths
  pub sites_rise : IsStrictlyIncreasing (map (λ (term : SiteNo × ℕ). term.0.0) leaf.chains)
  pub sites_times : All (λ (term : SiteNo × ℕ). 1 ≤ term.1) leaf.chains
  pub weight : weight_of leaf ≤ weight_limit

pub record IsFit (problem : Problem) (sites : List PinNo) (paths : List Listed) (leaf : Leaf) : Type 0 where
  pub orderly : IsOrderly leaf
  pub paths_checked : All (λ (term : PathNo × ℕ). ListsChecked problem paths term.0) leaf.paths
  pub sites_there : All (λ (term : SiteNo × ℕ). term.0.0 < length sites) leaf.chains

abbrev pub IsAbove : ℕ → Option ℕ → ℤ → Type 0
IsAbove scale (Some bound) beta = (pos scale *ℤ (pos bound -ℤ pos 1)) <ℤ beta
IsAbove scale None beta = (scale ≡ 0) × (pos 0 <ℤ beta)

pub record Closes (problem : Problem) (sites : List PinNo) (paths : List Listed) (force : InForce) (leaf : Leaf) : Type 0 where
  pub fit : IsFit problem sites paths leaf
  pub beta : ℤ
  pub least : IsBeta problem sites paths leaf force.within beta
  pub above : IsAbove leaf.scale force.below beta
