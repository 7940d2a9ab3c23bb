use Rattle.std.proofs.Common.{◌≡◌, ◌+◌, ◌++◌, drop}
use Rattle.hold_build.specs.inner.Sinks.{pin_sinks}
use Rattle.hold_build.proofs.sinks.put_pin_sinks.Given as goal

-- what is left makes the list of all
abbrev pub invariant-loop-place : goal.invariant-loop-place
invariant-loop-place l = l.out.items ++ pin_sinks l.cell (l.first + l.place) (drop l.place l.pins) ≡ l.fn.out.items ++ pin_sinks l.cell l.first l.pins
