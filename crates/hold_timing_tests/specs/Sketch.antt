-- IsCornerOver parts kinds spans: these are valid times of a corner, in each problem over a graph of these parts with so many
--   kinds.
use Rattle.std.specs.Prelude.{◌≡◌, ℕ, length}
use Rattle.hold_graph.specs.declared.graph.Parts.{Parts}
use Rattle.hold_graph.specs.declared.problem.Spans.{Spans}
use Rattle.hold_graph.specs.declared.problem.Problem.{Problem}
use Rattle.hold_graph.specs.Problem.{IsValidCorner}

pub record IsCornerOver (parts : Parts) (kinds : ℕ) (spans : Spans) : Type 0 where
  pub valid : (problem : Problem) → problem.graph ≡ parts → length problem.costs ≡ kinds → IsValidCorner problem spans
