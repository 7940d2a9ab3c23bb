use Rattle.std.proofs.Common.{◌≡◌, drop}
use Rattle.std.specs.Hash.DefaultHasher as sip
use Rattle.hold_netlist.specs.Seed.{start_of}
use Rattle.hold_netlist.specs.inner.Seed.{with_texts}
use Rattle.hold_plain.specs.inner.Tables.{clock_names}
use Rattle.hold_plain.proofs.seeds.clocks_seed.Given as goal

-- what is left makes the seed of all
abbrev pub invariant-loop-clock : goal.invariant-loop-clock
invariant-loop-clock l = with_texts (start_of l.seed) (clock_names (drop l.clock-index l.clocks)) ≡ with_texts sip.initial (clock_names l.clocks)
