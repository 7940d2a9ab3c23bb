use Rattle.std.proofs.Common.{◌≡◌, ℕ, ◌<◌}
use Rattle.std.specs.Prelude.{Some, slice_get}
use Rattle.hold_graph.specs.declared.graph.Arc.{Arc}
use Rattle.hold_graph.proofs.checked.has_arc.Given as goal

-- none of the arcs before begins there
abbrev pub invariant-loop-place : goal.invariant-loop-place
invariant-loop-place l = (k place : ℕ) (arc : Arc) → k < l.place-index → slice_get l.place-items k ≡ Some place → slice_get l.arcs place ≡ Some arc → arc.from ≡ l.from → ⊥
