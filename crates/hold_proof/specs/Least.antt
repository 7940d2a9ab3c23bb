-- IsLeast problem sites counts: the counts are a buffering that meets, and every buffering that meets costs at least as much.
-- NoneMeets problem sites: the sites are the problem's, and no buffering over them meets.
use Rattle.std.specs.Prelude.{ℕ, ◌≤◌, List}
use Rattle.hold_base.specs.declared.number.PinNo.{PinNo}
use Rattle.hold_graph.specs.declared.problem.Problem.{Problem}
use Rattle.hold_graph.specs.Sites.{AreSites, cost_of, Meets}

pub record IsLeast (problem : Problem) (sites : List PinNo) (counts : List ℕ) : Type 0 where
  pub meets : Meets problem sites counts
  pub least : (others : List ℕ) → Meets problem sites others → cost_of problem.costs counts ≤ cost_of problem.costs others

pub record NoneMeets (problem : Problem) (sites : List PinNo) : Type 0 where
  pub of_graph : AreSites problem.graph sites
  pub none : (counts : List ℕ) → Meets problem sites counts → ⊥
