use Rattle.std.proofs.Common.{◌≡◌, ℕ, ◌<◌, get_or}
use Rattle.hold_graph.specs.inner.Waiting.{arc_at}
use Rattle.hold_graph.proofs.cycle.pin_before.Given as goal

abbrev pub invariant-loop-place : goal.invariant-loop-place
invariant-loop-place l = (k : ℕ) → k < l.place-index → get_or l.counts (arc_at l.arcs (get_or l.arriving k 0)).from.0 0 ≡ 0
