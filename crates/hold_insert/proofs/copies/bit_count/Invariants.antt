use Rattle.std.proofs.Common.{◌≡◌, ◌+◌, drop}
use Rattle.hold_netlist.specs.Bits.{bits_of}
use Rattle.hold_insert.proofs.copies.bit_count.Given as goal

-- with the bits of what is left they are all
abbrev pub invariant-loop-wire : goal.invariant-loop-wire
invariant-loop-wire l = l.bits + bits_of (drop l.wire-index l.wires) ≡ bits_of l.wires
