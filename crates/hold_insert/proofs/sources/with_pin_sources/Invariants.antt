use Rattle.std.proofs.Common.{◌≡◌, ◌++◌, drop}
use Rattle.hold_insert.specs.inner.Sources.{with_pin_sources}
use Rattle.hold_insert.proofs.sources.with_pin_sources.Given as goal

-- what is left makes the connections of all
abbrev pub invariant-loop-place : goal.invariant-loop-place
invariant-loop-place l = l.tied.items ++ with_pin_sources (drop l.place l.pins) (drop l.place l.sources) ≡ with_pin_sources l.pins l.sources
