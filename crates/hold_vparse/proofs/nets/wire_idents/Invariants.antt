use Rattle.std.proofs.Common.{◌≡◌, ◌++◌, drop}
use Rattle.hold_vparse.specs.inner.Flat.{targets, named_idents}
use Rattle.hold_vparse.proofs.nets.wire_idents.Given as goal

abbrev pub invariant-loop-wire : goal.invariant-loop-wire
invariant-loop-wire l = targets l.list.items ++ named_idents (drop l.wire-index l.wires) ≡ named_idents l.wires
