-- IsBasis basis: the problem is valid and names its own pins, the sites are its sites, and the places are those of its launches and
--   captures. Nothing is said of the listed paths.
-- total terms: the sum of the multipliers of these terms.
use Rattle.std.specs.Prelude.{ℕ, List}
use Rattle.std.specs.List.{sum_by}
use Rattle.hold_graph.specs.Graph.{NamesItsPins}
use Rattle.hold_graph.specs.Problem.{IsValid}
use Rattle.hold_graph.specs.SitePins.{AreSites}
use Rattle.hold_proof.specs.declared.basis.Basis.{Basis}
use Rattle.hold_proof.specs.inner.Places.{IsPlacesOf}

pub record IsBasis (basis : Basis) : Type 0 where
  pub valid : IsValid basis.problem.now
  pub names : NamesItsPins basis.problem.now.graph
  pub sites : AreSites basis.problem.now.graph basis.sites.now
  pub launches : IsPlacesOf basis.problem.now.graph.pins basis.problem.now.graph.launches basis.launches.now
  pub captures : IsPlacesOf basis.problem.now.graph.pins basis.problem.now.graph.captures basis.captures.now

abbrev pub total : {X : Type 0} → List (X × ℕ) → ℕ
total terms = sum_by (λ term. term.1) terms
