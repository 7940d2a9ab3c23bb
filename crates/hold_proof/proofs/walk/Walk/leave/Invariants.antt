use Rattle.std.proofs.Common.{◌≡◌, length, reverse, false}
use Rattle.hold_proof.specs.inner.Walk.{waiting, IsWalk}
use Rattle.hold_proof.proofs.walk.Walk.leave.Given as goal

abbrev pub invariant-loop-turn : goal.invariant-loop-turn
invariant-loop-turn l =
    IsWalk l.costs (length l.fn.self.low.items) l.self
    × (l.self.ended ≡ false)
    × (waiting l.self.low.items l.self.high.items (reverse l.self.turns.items) ≡ waiting l.fn.self.low.items l.fn.self.high.items (reverse l.fn.self.turns.items))

abbrev pub decreases-loop-turn : goal.decreases-loop-turn
decreases-loop-turn l = length l.self.turns.items
