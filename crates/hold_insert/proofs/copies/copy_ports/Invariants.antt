use Rattle.std.proofs.Common.{◌≡◌, ◌++◌, drop}
use Rattle.hold_insert.proofs.copies.copy_ports.Given as goal

-- with what is left the copy is whole
abbrev pub invariant-loop-port : goal.invariant-loop-port
invariant-loop-port l = l.copy.items ++ drop l.port-index l.ports ≡ l.ports
