use Rattle.std.proofs.Common.{◌≡◌, drop}
use Rattle.std.specs.Hash.DefaultHasher as sip
use Rattle.hold_netlist.specs.Seed.{start_of}
use Rattle.hold_netlist.specs.inner.Seed.{with_texts}
use Rattle.hold_plain.specs.inner.Tables.{inst_names}
use Rattle.hold_plain.proofs.seeds.insts_seed.Given as goal

-- what is left makes the seed of all
abbrev pub invariant-loop-inst : goal.invariant-loop-inst
invariant-loop-inst l = with_texts (start_of l.seed) (inst_names (drop l.inst-index l.insts)) ≡ with_texts sip.initial (inst_names l.insts)
