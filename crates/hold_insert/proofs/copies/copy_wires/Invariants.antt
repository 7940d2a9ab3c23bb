use Rattle.std.proofs.Common.{◌≡◌, ◌++◌, drop}
use Rattle.hold_insert.proofs.copies.copy_wires.Given as goal

-- with what is left the copy is whole
abbrev pub invariant-loop-wire : goal.invariant-loop-wire
invariant-loop-wire l = l.copy.items ++ drop l.wire-index l.wires ≡ l.wires
