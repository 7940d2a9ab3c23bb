use Rattle.std.proofs.Common.{◌≡◌, ◌+◌, drop}
use Rattle.hold_netlist.specs.Pins.{connection_count}
use Rattle.hold_build.proofs.counts.connection_count.Given as goal

abbrev pub invariant-loop-inst : goal.invariant-loop-inst
invariant-loop-inst l = l.connections + connection_count (drop l.inst-index l.insts) ≡ connection_count l.insts
