use Rattle.hold_build.specs.Listing.{ListsEach}
use Rattle.hold_build.specs.inner.WireArcs.{IsSinkArc}
use Rattle.hold_build.proofs.wire_arcs.wire_arcs.Given as goal

-- the arcs to the sinks before the place
abbrev pub invariant-loop-sink : goal.invariant-loop-sink
invariant-loop-sink l = ListsEach (IsSinkArc l.bound l.sinks l.sink-index) l.arcs.items
