-- Room: what a scratch has room for: so many variables, and these launches and captures among so many pins.
-- room_of problem sites: the room that the leaves of the problem want.
use Rattle.std.specs.Prelude.{ℕ, ◌*◌, List, length}
use Rattle.hold_base.specs.declared.number.PinNo.{PinNo}
use Rattle.hold_graph.specs.declared.problem.Problem.{Problem}

pub record Room : Type 0 where
  pub vars : ℕ
  pub pins : ℕ
  pub launches : List PinNo
  pub captures : List PinNo

abbrev pub room_of : Problem → List PinNo → Room
room_of problem sites = record {
  vars = length sites * length problem.costs;
  pins = problem.graph.pins;
  launches = problem.graph.launches;
  captures = problem.graph.captures;
}
