use Rattle.std.proofs.Common.{◌≡◌, map, neg_ℤ, take}
use Rattle.hold_graph.proofs.side.negated.Given as goal

abbrev pub invariant-loop-time : goal.invariant-loop-time
invariant-loop-time l = l.made.items ≡ map neg_ℤ (take l.time-index l.times)
