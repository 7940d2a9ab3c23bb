use Rattle.hold_proof.specs.inner.LeafTerms.{vars_from}
use Rattle.hold_proof.specs.inner.Changes.{IsSettled}
use Rattle.hold_proof.proofs.gaps.settle_site.Given as goal

abbrev pub invariant-loop-place : goal.invariant-loop-place
invariant-loop-place l = IsSettled l.costs l.scale l.low l.high (vars_from l.first l.place) l.fn.factors.items l.factors.items l.sum
