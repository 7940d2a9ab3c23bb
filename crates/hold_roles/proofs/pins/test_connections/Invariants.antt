use Rattle.std.proofs.Common.{◌≡◌, drop}
use Rattle.hold_roles.specs.Faults.{first_bad_in}
use Rattle.hold_roles.proofs.pins.test_connections.Given as goal

-- what is left has the first bad pin of all
abbrev pub invariant-loop-pin : goal.invariant-loop-pin
invariant-loop-pin l = first_bad_in l.cell l.inst (drop l.pin-index l.pins) ≡ first_bad_in l.cell l.inst l.pins
