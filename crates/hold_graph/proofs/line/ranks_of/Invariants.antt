use Rattle.std.proofs.Common.{◌≡◌, length}
use Rattle.hold_graph.proofs.Ranks.{AreRanksUpTo}
use Rattle.hold_graph.proofs.line.ranks_of.Given as goal

abbrev pub invariant-loop-place : goal.invariant-loop-place
invariant-loop-place l = record { len : length l.ranks.items ≡ l.pins; ranks : AreRanksUpTo l.order l.place l.ranks.items }
