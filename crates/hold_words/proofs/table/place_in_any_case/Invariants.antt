use Rattle.std.proofs.Common.{◌≡◌, drop, map}
use Rattle.hold_words.specs.Rows.{texts, upper, first_row_from}
use Rattle.hold_words.proofs.table.place_in_any_case.Given as goal

-- the rows that are left answer what all rows do
abbrev pub invariant-loop-i : goal.invariant-loop-i
invariant-loop-i l = first_row_from (upper l.word) l.i (map upper (texts (drop l.i l.rows))) ≡ first_row_from (upper l.word) 0 (map upper (texts l.rows))
