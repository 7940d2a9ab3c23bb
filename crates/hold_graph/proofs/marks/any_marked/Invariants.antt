use Rattle.std.proofs.Common.{◌≡◌, drop}
use Rattle.hold_graph.specs.inner.Marks.{any_marked}
use Rattle.hold_graph.proofs.marks.any_marked.Given as goal

abbrev pub invariant-loop-place : goal.invariant-loop-place
invariant-loop-place l = any_marked l.marks l.far l.arcs (drop l.place-index l.places) ≡ any_marked l.marks l.far l.arcs l.places
