use Rattle.std.proofs.Common.{◌≡◌, ◌+◌, ◌*◌, ◌≤◌, drop}
use Rattle.hold_base.specs.Limits.{cost_limit}
use Rattle.hold_graph.specs.Sites.{cost_from, cost_of}
use Rattle.hold_proof.proofs.cost.cost_of.Given as goal

abbrev pub invariant-loop-var : goal.invariant-loop-var
invariant-loop-var l = (l.cost + cost_from l.costs l.var (drop l.var l.counts) ≡ cost_of l.costs l.counts) × (l.cost ≤ l.var * (255 * cost_limit))
