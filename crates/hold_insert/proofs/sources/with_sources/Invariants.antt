use Rattle.std.proofs.Common.{◌≡◌, ◌++◌, ◌≤◌, length}
use Rattle.hold_netlist.specs.Pins.{connection_count}
use Rattle.hold_insert.specs.inner.Sources.{with_sources}
use Rattle.hold_insert.proofs.sources.with_sources.Given as goal

-- what is left makes the instances of all, and has a source for each connection
abbrev pub invariant-loop-left : goal.invariant-loop-left
invariant-loop-left l = record {
  items : l.tied.items ++ with_sources l.left l.rest ≡ with_sources l.insts l.sources;
  few : connection_count l.left ≤ length l.rest;
}

abbrev pub decreases-loop-left : goal.decreases-loop-left
decreases-loop-left l = length l.left
