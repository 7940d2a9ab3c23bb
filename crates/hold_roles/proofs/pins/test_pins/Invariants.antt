use Rattle.std.proofs.Common.{◌≡◌, drop}
use Rattle.hold_roles.specs.Faults.{first_bad_pin}
use Rattle.hold_roles.proofs.pins.test_pins.Given as goal

-- what is left has the first bad pin of all
abbrev pub invariant-loop-inst : goal.invariant-loop-inst
invariant-loop-inst l = first_bad_pin l.library (drop l.inst-index l.insts) ≡ first_bad_pin l.library l.insts
