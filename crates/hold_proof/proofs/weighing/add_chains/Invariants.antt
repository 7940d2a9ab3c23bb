use Rattle.std.proofs.Common.{take, length}
use Rattle.hold_proof.proofs.WeighLemmas.{AreChainsWeighed}
use Rattle.hold_proof.proofs.weighing.add_chains.Given as goal

abbrev pub invariant-loop-term : goal.invariant-loop-term
invariant-loop-term l = AreChainsWeighed (length l.basis.problem.now.costs) l.basis.problem.now.max_chain (take l.term-index l.terms) l.fn.factors.items l.factors.items l.free
