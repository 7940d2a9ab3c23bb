use Rattle.std.proofs.Common.{◌≡◌, map, drop}
use Rattle.hold_netlist.specs.Seed.{start_of}
use Rattle.hold_netlist.specs.inner.Seed.{with_texts}
use Rattle.hold_cli.proofs.job_form.seeds.add_names.Given as goal

-- what is left makes the seed of all
abbrev pub invariant-loop-item : goal.invariant-loop-item
invariant-loop-item g l = with_texts (start_of l.seed) (map g.T.Named.name_in (drop l.item-index l.items)) ≡ with_texts (start_of l.initial.seed) (map g.T.Named.name_in l.items)
