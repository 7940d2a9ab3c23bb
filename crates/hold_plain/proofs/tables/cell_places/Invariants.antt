use Rattle.std.proofs.Common.{◌≡◌, [], drop}
use Rattle.hold_plain.specs.inner.Tables.{cell_names}
use Rattle.hold_plain.proofs.TableLemmas.{with_names}
use Rattle.hold_plain.proofs.tables.cell_places.Given as goal

-- what is left makes the table of all
abbrev pub invariant-loop-place : goal.invariant-loop-place
invariant-loop-place l = with_names l.table l.place (cell_names (drop l.place l.cells)) ≡ with_names [] 0 (cell_names l.cells)
