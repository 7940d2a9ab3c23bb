use Rattle.std.proofs.Common.{◌≡◌, ◌+◌, ◌++◌, drop}
use Rattle.hold_netlist.specs.Pins.{pin_count, connection_count}
use Rattle.hold_netlist.specs.inner.Numbering.{firsts_from}
use Rattle.hold_told.proofs.first_numbers.first_pins.Given as goal

abbrev pub invariant-loop-inst : goal.invariant-loop-inst
invariant-loop-inst l = record {
  rest : l.next + connection_count (drop l.inst-index l.insts) ≡ connection_count l.insts;
  firsts : l.firsts.items ++ firsts_from l.next pin_count (drop l.inst-index l.insts) ≡ firsts_from 0 pin_count l.insts;
}
