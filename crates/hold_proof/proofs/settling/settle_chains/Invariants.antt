use Rattle.std.proofs.Common.{take, length}
use Rattle.hold_proof.specs.inner.LeafTerms.{chains_vars}
use Rattle.hold_proof.specs.inner.Changes.{IsSettled}
use Rattle.hold_proof.proofs.settling.settle_chains.Given as goal

abbrev pub invariant-loop-term : goal.invariant-loop-term
invariant-loop-term l =
    IsSettled l.over.costs.now l.over.scale l.over.low.now l.over.high.now (chains_vars (length l.over.costs.now) (take l.term-index l.terms)) l.fn.factors.items l.factors.items l.sum
