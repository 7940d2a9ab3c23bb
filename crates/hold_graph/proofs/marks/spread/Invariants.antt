use Rattle.std.proofs.Common.{◌≡◌, length}
use Rattle.hold_graph.proofs.Spread.{AreMarkedUpTo}
use Rattle.hold_graph.proofs.marks.spread.Given as goal

abbrev pub invariant-loop-pin : goal.invariant-loop-pin
invariant-loop-pin l = record {
  count : length l.marks.items ≡ length l.seeds;
  marked : AreMarkedUpTo l.far l.arcs l.rows l.seeds l.order l.pin-index l.marks.items;
}
