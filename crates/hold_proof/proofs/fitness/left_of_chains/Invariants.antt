use Rattle.std.proofs.Common.{◌≡◌, drop}
use Rattle.hold_base.specs.declared.number.SiteNo.{SiteNo}
use Rattle.hold_proof.specs.inner.Fitness.{left_of}
use Rattle.hold_proof.proofs.fitness.left_of_chains.Given as goal

abbrev pub invariant-loop-site : goal.invariant-loop-site
invariant-loop-site l =
    left_of (λ (site : SiteNo). site.0) l.count l.least l.left (drop l.site-index l.terms) ≡ left_of (λ (site : SiteNo). site.0) l.count 0 l.weight l.terms
