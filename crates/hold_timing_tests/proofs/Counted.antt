-- The counts that a problem begins with are ones of it, and so are as many others.
use Rattle.std.proofs.Common.{◌≡◌, ℕ, ◌*◌, List, length, ap, ◌∙◌}
use Rattle.std.specs.Prelude.{replicate}
use Rattle.std.proofs.lemmas.List.{length-replicate}
use Rattle.hold_base.specs.declared.number.PinNo.{PinNo}
use Rattle.hold_graph.specs.declared.problem.Problem.{Problem}
use Rattle.hold_graph.specs.Sites.{AreSites, AreCountsOf}

pub no_counts : (problem : Problem) (counts : List ℕ) →
    ((sites : List PinNo) → AreSites problem.graph sites → counts ≡ replicate (length sites * length problem.costs) 0) → AreCountsOf problem counts
no_counts problem counts none = λ sites are. ap length (none sites are) ∙ length-replicate (length sites * length problem.costs) 0

pub as_many : (problem : Problem) (before now : List ℕ) → length now ≡ length before → AreCountsOf problem before → AreCountsOf problem now
as_many problem before now same counts = λ sites are. same ∙ counts sites are
