use Rattle.std.proofs.Common.{◌≡◌, ◌+◌, ◌*◌, ◌≤◌, drop}
use Rattle.hold_graph.specs.Sites.{cost_from, cost_of}
use Rattle.hold_graph.proofs.costs.sum_of.Given as goal

abbrev pub invariant-loop-var : goal.invariant-loop-var
invariant-loop-var l = record {
  value : l.sum + cost_from l.costs l.var (drop l.var l.counts) ≡ cost_of l.costs l.counts;
  most : l.sum ≤ 16000000 * l.var;
}
