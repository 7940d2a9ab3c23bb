-- What is found, where memory doesn't run out.
use Rattle.std.proofs.Common.{◌≡◌, ℕ, List, ◌↔◌}
use Rattle.std.specs.Prelude.{Option, Some, Result, Ok, Err, IsNone, IfNone, IfSome, IfOk}
use Rattle.hold_base.specs.declared.number.PinNo.{PinNo}
use Rattle.hold_graph.specs.declared.problem.Listed.{Listed}
use Rattle.hold_graph.specs.declared.problem.Problem.{Problem}
use Rattle.hold_graph.specs.Sites.{AreSites, Meets, cost_of}
use Rattle.hold_proof.specs.declared.flaw.TreeFlaw.{TreeFlaw}
use Rattle.hold_proof.specs.Flaws.{IsFirstFlaw, IsProof}
use Rattle.hold_proof.specs.InForce.{InForce, IsShown, Obeys}
use Rattle.hold_proof.specs.Tree.{ProofTree}
use Rattle.hold_proof.proofs.FlawLemmas.{IsFlaw, IsNoFlaw, found-bounds, found-none, found-some}

pub answer-none : {E : Type 0} (problem : Problem) (paths : List Listed) (force : InForce) (tree : ProofTree) (answer : Result (Option TreeFlaw) E) → IfOk answer (λ found. IfNone found (IsNoFlaw problem paths force tree)) →
    IfOk answer (λ found. IfSome found (IsFlaw problem paths force tree)) → IfOk answer (λ found. (sites : List PinNo) → AreSites problem.graph sites → IsNone found ↔ IsProof problem sites paths force tree)
answer-none problem paths force tree (Ok found) none some = found-none problem paths force tree found none some
answer-none problem paths force tree (Err e) none some = none

pub answer-some : {E : Type 0} (problem : Problem) (paths : List Listed) (force : InForce) (tree : ProofTree) (answer : Result (Option TreeFlaw) E) → IfOk answer (λ found. IfNone found (IsNoFlaw problem paths force tree)) →
    IfOk answer (λ found. IfSome found (IsFlaw problem paths force tree)) →
    IfOk answer (λ found. (sites : List PinNo) (flaw : TreeFlaw) → AreSites problem.graph sites → (found ≡ Some flaw) ↔ IsFirstFlaw problem sites paths force tree flaw)
answer-some problem paths force tree (Ok found) none some = found-some problem paths force tree found none some
answer-some problem paths force tree (Err e) none some = none

pub answer-bounds : {E : Type 0} (problem : Problem) (paths : List Listed) (force : InForce) (tree : ProofTree) (answer : Result (Option TreeFlaw) E) → IfOk answer (λ found. IfNone found (IsNoFlaw problem paths force tree)) →
    IfOk answer (λ found. IsNone found → (sites : List PinNo) (counts : List ℕ) → Meets problem sites counts → Obeys force counts → IsShown force.below (cost_of problem.costs counts))
answer-bounds problem paths force tree (Ok found) none = found-bounds problem paths force tree found none
answer-bounds problem paths force tree (Err e) none = none
