use Rattle.std.proofs.Common.{◌≡◌, drop}
use Rattle.hold_netlist.specs.Doubles.{first_double_in_insts}
use Rattle.hold_netlist.specs.inner.NameTable.{names_of}
use Rattle.hold_netlist.proofs.doubles.see_insts.Given as goal

-- what is left has the first double name of the whole
abbrev pub invariant-loop-inst : goal.invariant-loop-inst
invariant-loop-inst l = first_double_in_insts (names_of l.seen) (drop l.inst-index l.insts) ≡ first_double_in_insts (names_of l.initial.seen) l.insts
