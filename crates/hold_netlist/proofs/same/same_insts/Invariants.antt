use Rattle.std.proofs.Common.{◌≡◌, ◌↔◌, length}
use Rattle.hold_netlist.proofs.same.same_insts.Given as goal

abbrev pub invariant-loop-x : goal.invariant-loop-x
invariant-loop-x l = (l.x ≡ l.y) ↔ (l.fn.a ≡ l.fn.b)

abbrev pub decreases-loop-x : goal.decreases-loop-x
decreases-loop-x l = length l.x
