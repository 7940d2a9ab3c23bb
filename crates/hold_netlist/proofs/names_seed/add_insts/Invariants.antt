use Rattle.std.proofs.Common.{◌≡◌, drop}
use Rattle.hold_netlist.specs.Seed.{start_of}
use Rattle.hold_netlist.specs.inner.Seed.{with_insts}
use Rattle.hold_netlist.proofs.names_seed.add_insts.Given as goal

-- what is left makes the seed of all
abbrev pub invariant-loop-inst : goal.invariant-loop-inst
invariant-loop-inst l = with_insts (start_of l.seed) (drop l.inst-index l.insts) ≡ with_insts (start_of l.initial.seed) l.insts
