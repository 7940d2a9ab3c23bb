use Rattle.std.proofs.Common.{drop}
use Rattle.hold_graph.specs.Path.{EachNext}
use Rattle.hold_graph.proofs.checked.each_next.Given as goal

abbrev pub invariant-loop-pin : goal.invariant-loop-pin
invariant-loop-pin l = record {
  to : EachNext l.arcs l.last (drop l.pin-index l.rest) → EachNext l.arcs l.fn.first l.rest;
  back : EachNext l.arcs l.fn.first l.rest → EachNext l.arcs l.last (drop l.pin-index l.rest);
}
