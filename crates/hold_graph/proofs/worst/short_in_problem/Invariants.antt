use Rattle.std.proofs.Common.{◌≡◌, ℕ, ◌<◌}
use Rattle.std.specs.Prelude.{Some, slice_get}
use Rattle.hold_base.specs.declared.time.Side.{Side}
use Rattle.hold_graph.specs.declared.problem.Spans.{Spans}
use Rattle.hold_graph.specs.inner.Arrival.{IsMetAt}
use Rattle.hold_graph.proofs.worst.short_in_problem.Given as goal

abbrev pub invariant-loop-number : goal.invariant-loop-number
invariant-loop-number l =
    (corner : ℕ) (spans : Spans) → corner < l.number → slice_get l.problem.corners corner ≡ Some spans → (side : Side) → IsMetAt side l.problem spans
