use Rattle.std.proofs.Common.{◌≡◌, [], drop}
use Rattle.hold_plain.proofs.RegisterNames.{with_registers}
use Rattle.hold_plain.proofs.served_insts.registers.Given as goal

-- what is left makes the table of all
abbrev pub invariant-loop-inst : goal.invariant-loop-inst
invariant-loop-inst l = with_registers l.timing l.table (drop l.inst-index l.insts) ≡ with_registers l.timing [] l.insts
