use Rattle.std.proofs.Common.{◌*◌, pos, replicate}
use Rattle.hold_proof.specs.inner.LeafTerms.{var_terms}
use Rattle.hold_proof.specs.inner.Changes.{IsRaised}
use Rattle.hold_proof.proofs.factors.add_chain_site.Given as goal

abbrev pub invariant-loop-place : goal.invariant-loop-place
invariant-loop-place l = IsRaised (var_terms l.first (replicate l.place (pos l.times))) (l.place * l.times) l.fn.factors.items l.factors.items
