use Rattle.std.proofs.Common.{◌≡◌, ◌++◌, drop}
use Rattle.hold_plain.specs.PinUses.{insts_uses}
use Rattle.hold_plain.proofs.uses.put_insts.Given as goal

abbrev pub invariant-loop-number : goal.invariant-loop-number
invariant-loop-number l = l.uses.items ++ insts_uses l.timing l.number (drop l.number l.insts) ≡ l.initial.uses.items ++ insts_uses l.timing 0 l.insts
