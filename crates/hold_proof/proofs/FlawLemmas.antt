-- There is at most one first flaw of listed paths and a tree, and a proof has none.
use Rattle.std.proofs.Common.{◌≡◌, ℕ, List, refl, ap, subst, ◌↔◌}
use Rattle.std.specs.Prelude.{Option, Some, None, All, IsNone, IfNone, IfSome}
use Rattle.std.proofs.lemmas.Option.{none-some, same_Some}
use Rattle.std.proofs.lemmas.List.Elements.{recursion_from_All}
use Rattle.hold_base.specs.declared.number.PinNo.{PinNo}
use Rattle.hold_graph.specs.declared.problem.Problem.{Problem}
use Rattle.hold_graph.specs.declared.problem.Listed.{Listed}
use Rattle.hold_graph.specs.Sites.{AreSites, Meets, cost_of}
use Rattle.hold_proof.specs.declared.flaw.TreeFlaw.{TreeFlaw}
use Rattle.hold_proof.specs.declared.flaw.TreeFlaw.TheVariants.{NotPath, BadSplit, OpenLeaf}
use Rattle.hold_proof.specs.declared.node.Node.{Node}
use Rattle.hold_proof.specs.declared.node.Node.TheVariants.{Leaf as LeafNode, Split as SplitNode}
use Rattle.hold_proof.specs.Tree.{ProofTree}
use Rattle.hold_proof.specs.InForce.{InForce, Obeys, IsShown}
use Rattle.hold_proof.specs.Closing.{IsOfProblem}
use Rattle.hold_proof.specs.Flaws.{IsProof, IsFine, IsFirstFlaw, IsFirstNode, IsFirstNot, visits}
use Rattle.hold_proof.specs.inner.Judging.{flaw_of}
use Rattle.hold_proof.proofs.Soundness.{tree-bounds}
use Rattle.hold_proof.proofs.VisitLemmas.{all-no_first, first-one, proves-fine}

-- where all listed paths are of the problem none is the first that isn't
listed-none : (problem : Problem) (paths : List Listed) (number : ℕ) (path : Listed) → All (IsOfProblem problem) paths → IsFirstNot (IsOfProblem problem) paths number path → ⊥
listed-none problem paths number path all first = all-no_first (IsOfProblem problem) paths number path (recursion_from_All (IsOfProblem problem) paths all) first

-- two first nodes are one
first_node-one : (problem : Problem) (sites : List PinNo) (paths : List Listed) (force : InForce) (tree : ProofTree) (j k : ℕ) (a b : Node) →
    IsFirstNode problem sites paths force tree j a → IsFirstNode problem sites paths force tree k b → (j ≡ k) × (a ≡ b)
first_node-one problem sites paths force tree j k a b one two =
    let same = first-one (IsFine problem sites paths) (visits force tree) j k (a, one.within) (b, two.within) one.first two.first in
    (same.0, ap (λ (visit : Node × InForce). visit.0) same.1)

pub first_flaw-one : (problem : Problem) (sites : List PinNo) (paths : List Listed) (force : InForce) (tree : ProofTree) (a b : TreeFlaw) →
    IsFirstFlaw problem sites paths force tree a → IsFirstFlaw problem sites paths force tree b → a ≡ b
first_flaw-one problem sites paths force tree (NotPath j) (NotPath k) one two = ap (λ n. NotPath n) (first-one (IsOfProblem problem) paths j k one.0 two.0 one.1 two.1).0
first_flaw-one problem sites paths force tree (NotPath j) (BadSplit k) one two = absurd (listed-none problem paths j one.0 two.2.paths_checked one.1)
first_flaw-one problem sites paths force tree (NotPath j) (OpenLeaf k) one two = absurd (listed-none problem paths j one.0 two.1.paths_checked one.1)
first_flaw-one problem sites paths force tree (BadSplit j) (NotPath k) one two = absurd (listed-none problem paths k two.0 one.2.paths_checked two.1)
first_flaw-one problem sites paths force tree (BadSplit j) (BadSplit k) one two =
    ap (λ n. BadSplit n) (first_node-one problem sites paths force tree j k (SplitNode one.0 one.1) (SplitNode two.0 two.1) one.2 two.2).0
first_flaw-one problem sites paths force tree (BadSplit j) (OpenLeaf k) one two =
    let same = (first_node-one problem sites paths force tree j k (SplitNode one.0 one.1) (LeafNode two.0) one.2 two.1).1 in cc
first_flaw-one problem sites paths force tree (OpenLeaf j) (NotPath k) one two = absurd (listed-none problem paths k two.0 one.1.paths_checked two.1)
first_flaw-one problem sites paths force tree (OpenLeaf j) (BadSplit k) one two =
    let same = (first_node-one problem sites paths force tree j k (LeafNode one.0) (SplitNode two.0 two.1) one.1 two.2).1 in cc
first_flaw-one problem sites paths force tree (OpenLeaf j) (OpenLeaf k) one two =
    ap (λ n. OpenLeaf n) (first_node-one problem sites paths force tree j k (LeafNode one.0) (LeafNode two.0) one.1 two.1).0

proof-no_node : (problem : Problem) (sites : List PinNo) (paths : List Listed) (force : InForce) (tree : ProofTree) (number : ℕ) (node : Node) → IsProof problem sites paths force tree →
    IsFirstNode problem sites paths force tree number node → ⊥
proof-no_node problem sites paths force tree number node proof first =
    all-no_first (IsFine problem sites paths) (visits force tree) number (node, first.within) (proves-fine problem sites paths force tree proof.proves) first.first

pub proof-no_flaw : (problem : Problem) (sites : List PinNo) (paths : List Listed) (force : InForce) (tree : ProofTree) (flaw : TreeFlaw) → IsProof problem sites paths force tree →
    IsFirstFlaw problem sites paths force tree flaw → ⊥
proof-no_flaw problem sites paths force tree (NotPath number) proof first = listed-none problem paths number first.0 proof.paths_checked first.1
proof-no_flaw problem sites paths force tree (BadSplit number) proof first = proof-no_node problem sites paths force tree number (SplitNode first.0 first.1) proof first.2
proof-no_flaw problem sites paths force tree (OpenLeaf number) proof first = proof-no_node problem sites paths force tree number (LeafNode first.0) proof first.1

-- what is found of listed paths and a tree: a proof where nothing is, and else their first flaw
abbrev pub IsNoFlaw : Problem → List Listed → InForce → ProofTree → Type 0
IsNoFlaw problem paths force tree = (sites : List PinNo) → AreSites problem.graph sites → IsProof problem sites paths force tree

abbrev pub IsFlaw : Problem → List Listed → InForce → ProofTree → TreeFlaw → Type 0
IsFlaw problem paths force tree flaw = (sites : List PinNo) → AreSites problem.graph sites → IsFirstFlaw problem sites paths force tree flaw

-- then nothing is found of proofs alone
pub found-none : (problem : Problem) (paths : List Listed) (force : InForce) (tree : ProofTree) (found : Option TreeFlaw) → IfNone found (IsNoFlaw problem paths force tree) →
    IfSome found (IsFlaw problem paths force tree) → (sites : List PinNo) → AreSites problem.graph sites → IsNone found ↔ IsProof problem sites paths force tree
found-none problem paths force tree None none some = λ sites are. (λ is. none sites are, λ proof. refl)
found-none problem paths force tree (Some flaw) none some = λ sites are. (λ is. absurd cc, λ proof. absurd (proof-no_flaw problem sites paths force tree flaw proof (some sites are)))

-- and a flaw where it is the first, and then alone
pub found-some : (problem : Problem) (paths : List Listed) (force : InForce) (tree : ProofTree) (found : Option TreeFlaw) → IfNone found (IsNoFlaw problem paths force tree) →
    IfSome found (IsFlaw problem paths force tree) → (sites : List PinNo) (flaw : TreeFlaw) → AreSites problem.graph sites → (found ≡ Some flaw) ↔ IsFirstFlaw problem sites paths force tree flaw
found-some problem paths force tree None none some = λ sites flaw are. (
  λ is. absurd (none-some _ is),
  λ first. absurd (proof-no_flaw problem sites paths force tree flaw (none sites are) first),
)
found-some problem paths force tree (Some other) none some = λ sites flaw are. (
  λ is. subst (IsFirstFlaw problem sites paths force tree) (same_Some _ _ is) (some sites are),
  λ first. ap (λ (f : TreeFlaw). Some f) (first_flaw-one problem sites paths force tree other flaw (some sites are) first),
)

-- and where nothing is found each buffering in the box that meets costs what is to be shown
pub found-bounds : (problem : Problem) (paths : List Listed) (force : InForce) (tree : ProofTree) (found : Option TreeFlaw) → IfNone found (IsNoFlaw problem paths force tree) →
    IsNone found → (sites : List PinNo) (counts : List ℕ) → Meets problem sites counts → Obeys force counts → IsShown force.below (cost_of problem.costs counts)
found-bounds problem paths force tree None none is = λ sites counts meets point. tree-bounds problem sites paths force tree counts (none sites meets.of_graph).proves point meets
found-bounds problem paths force tree (Some flaw) none is = absurd cc

-- a node that is the first that isn't fine is the flaw that it is called
pub first_node-flaw : (problem : Problem) (sites : List PinNo) (paths : List Listed) (force within : InForce) (tree : ProofTree) (number : ℕ) (node : Node) → All (IsOfProblem problem) paths →
    IsFirstNot (IsFine problem sites paths) (visits force tree) number (node, within) → IsFirstFlaw problem sites paths force tree (flaw_of node number)
first_node-flaw problem sites paths force within tree number (LeafNode leaf) all first = (leaf, record { paths_checked = all; within = within; first = first })
first_node-flaw problem sites paths force within tree number (SplitNode var at) all first = (var, at, record { paths_checked = all; within = within; first = first })
