use Rattle.std.proofs.Common.{arith}
use Rattle.hold_plain.proofs.RegisterNames.{tells_registers}
use Rattle.hold_plain.proofs.served_insts.registers.Goals as goal

pub returns : goal.returns
returns c = tells_registers c.args.timing.now c.args.insts.now c.loop-inst.inst-index c.loop-inst.table (omega arith) c.loop-inst.invariant
