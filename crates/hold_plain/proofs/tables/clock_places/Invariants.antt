use Rattle.std.proofs.Common.{◌≡◌, [], drop}
use Rattle.hold_plain.specs.inner.Tables.{clock_names}
use Rattle.hold_plain.proofs.TableLemmas.{with_names}
use Rattle.hold_plain.proofs.tables.clock_places.Given as goal

-- what is left makes the table of all
abbrev pub invariant-loop-place : goal.invariant-loop-place
invariant-loop-place l = with_names l.table l.place (clock_names (drop l.place l.clocks)) ≡ with_names [] 0 (clock_names l.clocks)
