use Rattle.std.proofs.Common.{◌≡◌, drop}
use Rattle.hold_plain.specs.Cells.{check_of}
use Rattle.hold_plain.proofs.delays.check_of.Given as goal

abbrev pub invariant-loop-entry : goal.invariant-loop-entry
invariant-loop-entry l = check_of l.pin (drop l.entry-index l.checks) ≡ check_of l.pin l.checks
