-- The empty counts are counts of a problem, and so are as many others.
use Rattle.std.proofs.Common.{◌≡◌, ℕ, ◌*◌, List, length, ap, ◌∙◌}
use Rattle.std.specs.Prelude.{replicate}
use Rattle.std.proofs.lemmas.List.{length-replicate}
use Rattle.hold_base.specs.declared.number.PinNo.{PinNo}
use Rattle.hold_graph.specs.declared.problem.Problem.{Problem}
use Rattle.hold_graph.specs.Sites.{AreSites, AreCountsOf}

pub empty_counts : (problem : Problem) (counts : List ℕ) →
    ((sites : List PinNo) → AreSites problem.graph sites → counts ≡ replicate (length sites * length problem.costs) 0) → AreCountsOf problem counts
empty_counts problem counts empty = λ sites are. ap length (empty sites are) ∙ length-replicate (length sites * length problem.costs) 0

pub as_many_counts : (problem : Problem) (old new : List ℕ) → length new ≡ length old → AreCountsOf problem old → AreCountsOf problem new
as_many_counts problem old new same counts = λ sites are. same ∙ counts sites are
