use Rattle.std.proofs.Common.{◌≡◌, drop}
use Rattle.std.specs.Hash.DefaultHasher as sip
use Rattle.hold_netlist.specs.Seed.{start_of}
use Rattle.hold_netlist.specs.inner.Seed.{with_texts}
use Rattle.hold_plain.specs.inner.Tables.{cell_names}
use Rattle.hold_plain.proofs.seeds.cells_seed.Given as goal

-- what is left makes the seed of all
abbrev pub invariant-loop-cell : goal.invariant-loop-cell
invariant-loop-cell l = with_texts (start_of l.seed) (cell_names (drop l.cell-index l.cells)) ≡ with_texts sip.initial (cell_names l.cells)
