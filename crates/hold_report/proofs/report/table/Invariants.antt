use Rattle.hold_report.proofs.Rows.{IsTableUpTo}
use Rattle.hold_report.proofs.report.table.Given as goal

abbrev pub invariant-loop-at : goal.invariant-loop-at
invariant-loop-at l = IsTableUpTo l.bound.netlist l.job.corners l.problem l.at l.text.items
