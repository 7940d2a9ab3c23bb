use Rattle.std.proofs.Common.{◌≡◌, drop}
use Rattle.hold_base.specs.declared.number.PathNo.{PathNo}
use Rattle.hold_proof.specs.inner.Fitness.{left_of}
use Rattle.hold_proof.proofs.fitness.left_of_paths.Given as goal

abbrev pub invariant-loop-path : goal.invariant-loop-path
invariant-loop-path l =
    left_of (λ (path : PathNo). path.0) l.count l.least l.left (drop l.path-index l.terms) ≡ left_of (λ (path : PathNo). path.0) l.count 0 l.weight l.terms
