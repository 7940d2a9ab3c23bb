use Rattle.std.proofs.Common.{◌≡◌, List, length}
use Rattle.hold_base.specs.declared.number.PinNo.{PinNo}
use Rattle.hold_graph.specs.Sites.{AreSites}
use Rattle.hold_proof.specs.Room.{room_of}
use Rattle.hold_proof.specs.inner.Judging.{IsJudged}
use Rattle.hold_proof.specs.inner.Walk.{boxes_of, IsWalk}
use Rattle.hold_proof.proofs.judging.first_bad_node.Given as goal

abbrev pub invariant-loop-number : goal.invariant-loop-number
invariant-loop-number l = record {
  walk : IsWalk l.asked.problem.now.costs (length l.within.low) l.walk;
  room : (sites : List PinNo) → AreSites l.asked.problem.now.graph sites → l.scratch ≡ room_of l.asked.problem.now sites;
  judged : (sites : List PinNo) → AreSites l.asked.problem.now.graph sites →
      IsJudged l.asked.problem.now sites l.asked.paths.now l.asked.below l.within l.tree l.node-items l.number (boxes_of l.walk);
}
