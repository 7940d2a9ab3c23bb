use Rattle.std.proofs.Common.{◌≡◌, drop}
use Rattle.hold_words.specs.Rows.{texts, first_row_from}
use Rattle.hold_words.proofs.table.place_of.Given as goal

-- the rows that are left answer what all rows do
abbrev pub invariant-loop-i : goal.invariant-loop-i
invariant-loop-i l = first_row_from l.word l.i (texts (drop l.i l.rows)) ≡ first_row_from l.word 0 (texts l.rows)
