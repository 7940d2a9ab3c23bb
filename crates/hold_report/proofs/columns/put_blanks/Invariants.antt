use Rattle.std.proofs.Common.{◌≡◌, ◌++◌}
use Rattle.hold_report.specs.Columns.{blanks}
use Rattle.hold_report.proofs.columns.put_blanks.Given as goal

abbrev pub invariant-loop : goal.invariant-loop
invariant-loop l = l.out.items ≡ l.fn.out.items ++ blanks l.counter
