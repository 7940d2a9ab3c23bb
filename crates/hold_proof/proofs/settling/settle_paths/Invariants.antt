use Rattle.std.proofs.Common.{take}
use Rattle.hold_proof.specs.inner.LeafTerms.{paths_vars}
use Rattle.hold_proof.specs.inner.Changes.{IsSettled}
use Rattle.hold_proof.proofs.settling.settle_paths.Given as goal

abbrev pub invariant-loop-term : goal.invariant-loop-term
invariant-loop-term l =
    IsSettled l.over.costs.now l.over.scale l.over.low.now l.over.high.now (paths_vars l.basis.problem.now l.basis.sites.now l.basis.paths.now (take l.term-index l.terms)) l.fn.factors.items l.factors.items l.sum
