use Rattle.std.proofs.Common.{◌≡◌, ◌++◌, drop}
use Rattle.hold_insert.specs.inner.Sources.{pin_sources}
use Rattle.hold_insert.proofs.sources.put_sources.Given as goal

-- what is left makes the sources of all
abbrev pub invariant-loop-pin : goal.invariant-loop-pin
invariant-loop-pin l = l.out.items ++ pin_sources (drop l.pin-index l.pins) ≡ l.initial.out.items ++ pin_sources l.pins
