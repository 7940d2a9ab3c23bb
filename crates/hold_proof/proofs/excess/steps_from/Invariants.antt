use Rattle.hold_proof.proofs.ExcessLemmas.{IsSummed}
use Rattle.hold_proof.proofs.excess.steps_from.Given as goal

abbrev pub invariant-loop-to : goal.invariant-loop-to
invariant-loop-to l = IsSummed l.side l.graph.arcs l.spans l.fn.first l.pins l.to-index l.sum l.from
