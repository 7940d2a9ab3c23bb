use Rattle.std.proofs.Common.{◌*◌, take}
use Rattle.hold_base.specs.Limits.{time_limit}
use Rattle.hold_proof.specs.inner.LeafTerms.{path_numbers, var_terms}
use Rattle.hold_proof.specs.inner.Changes.{IsRaised}
use Rattle.hold_proof.proofs.factors.add_path_site.Given as goal

abbrev pub invariant-loop-place : goal.invariant-loop-place
invariant-loop-place l = IsRaised (var_terms l.first (path_numbers l.side l.times (take l.place l.kinds))) (l.place * (l.times * time_limit)) l.fn.factors.items l.factors.items
