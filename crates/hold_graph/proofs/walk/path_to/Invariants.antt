use Rattle.std.proofs.Common.{◌≡◌, ℕ, ◌<◌, get_or}
use Rattle.std.specs.Prelude.{reverse, None, Some, ℤ, slice_index}
use Rattle.hold_base.specs.declared.time.Side.{Side}
use Rattle.hold_graph.specs.declared.problem.Spans.{Spans}
use Rattle.hold_graph.specs.inner.Arrival.{coming, IsSettled}
use Rattle.hold_graph.proofs.Walks.{IsBack}
use Rattle.hold_graph.proofs.walk.path_to.Given as goal

abbrev pub invariant-loop-by : goal.invariant-loop-by
invariant-loop-by l = record {
  there : l.pin.0 < l.line.pins;
  place : (k : ℕ) → l.by ≡ Some k → get_or l.line.into.now l.pin.0 None ≡ Some k;
  back : (side : Side) (spans : Spans) (sum : ℤ) →
      IsSettled side l.line.pins l.line.arcs.now spans l.starts l.line.into.now l.best →
      coming side l.line.arcs.now spans l.line.into.now l.best l.fn.capture ≡ Some sum →
      IsBack side l.line.arcs.now spans l.starts l.line.into.now l.best l.pin (reverse l.path.items) l.by l.fn.capture sum;
}

abbrev pub decreases-loop-by : goal.decreases-loop-by
decreases-loop-by l = slice_index l.line.ranks.now l.pin.0
