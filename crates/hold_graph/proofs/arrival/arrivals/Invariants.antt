use Rattle.std.proofs.Common.{◌≡◌, ◌+◌, ◌*◌, length}
use Rattle.hold_base.specs.Limits.{launch_limit}
use Rattle.hold_graph.specs.inner.Arrival.{AreWithin}
use Rattle.hold_graph.proofs.Pass.{AreRightUpTo}
use Rattle.hold_graph.proofs.arrival.arrivals.Given as goal

abbrev pub invariant-loop-pin : goal.invariant-loop-pin
invariant-loop-pin l = record {
  len : length l.best.items ≡ l.line.pins;
  within : AreWithin (launch_limit * (l.pin-index + 1)) l.best.items;
  right : AreRightUpTo l.line.arcs.now l.steps l.starts l.line.into.now l.line.order.now l.pin-index l.best.items;
}
