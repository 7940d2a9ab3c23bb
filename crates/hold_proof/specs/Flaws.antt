-- Why listed paths and a tree are no proof.
--
-- IsProof problem sites paths force tree: each listed path is of the problem, and under what is in force the tree proves.
-- IsFirstNot P items place item: the item stands at that place, P isn't true of it, and it is true of all items before it.
-- visits force tree: the nodes of the tree in preorder, each with what is in force there, if `force` is in force at the root.
-- IsFineNode problem sites paths node force: under what is in force, a leaf closes, and a split has a place in the box. IsFine: the
--   same of a visit.
-- IsFirstNode: all listed paths are of the problem, and the node of that number is the first that isn't fine.
-- IsFirstFlaw problem sites paths force tree flaw: the flaw names the first listed path that isn't of the problem; or all are, and
--   it names the first node that isn't fine, as a bad split or as an open leaf. There is at most one, and none of a proof.
use Rattle.std.specs.Prelude.{◌≡◌, ℕ, List, [], ◌∷◌, ◌++◌, take, Some, slice_get, All}
use Rattle.hold_base.specs.declared.number.PinNo.{PinNo}
use Rattle.hold_base.specs.declared.number.VarNo.{VarNo}
use Rattle.hold_graph.specs.declared.problem.Problem.{Problem}
use Rattle.hold_graph.specs.declared.problem.Listed.{Listed}
use Rattle.hold_proof.specs.declared.flaw.TreeFlaw.{TreeFlaw}
use Rattle.hold_proof.specs.declared.flaw.TreeFlaw.TheVariants.{NotPath, BadSplit, OpenLeaf}
use Rattle.hold_proof.specs.declared.node.Leaf.{Leaf}
use Rattle.hold_proof.specs.declared.node.Node.{Node}
use Rattle.hold_proof.specs.declared.node.Node.TheVariants.{Leaf as LeafNode, Split as SplitNode}
use Rattle.hold_proof.specs.Tree.{ProofTree, Ends, Splits}
use Rattle.hold_graph.specs.Boxes.{IsPlace}
use Rattle.hold_proof.specs.InForce.{InForce, in_lower, in_upper}
use Rattle.hold_proof.specs.Closing.{Closes, IsOfProblem}
use Rattle.hold_proof.specs.Proving.{Proves}

pub record IsProof (problem : Problem) (sites : List PinNo) (paths : List Listed) (force : InForce) (tree : ProofTree) : Type 0 where
  pub paths_checked : All (IsOfProblem problem) paths
  pub proves : Proves problem sites paths force tree

pub record IsFirstNot {X : Type 0} (P : X → Type 0) (items : List X) (place : ℕ) (item : X) : Type 0 where
  pub at : slice_get items place ≡ Some item
  pub fails : P item → ⊥
  pub before : All P (take place items)

abbrev pub visits : InForce → ProofTree → List (Node × InForce)
visits force (Ends leaf) = (LeafNode leaf, force) ∷ []
visits force (Splits var at lower upper) =
    (SplitNode var at, force) ∷ (visits (in_lower var at force) lower ++ visits (in_upper var at force) upper)

abbrev pub IsFineNode : Problem → List PinNo → List Listed → Node → InForce → Type 0
IsFineNode problem sites paths (LeafNode leaf) force = Closes problem sites paths force leaf
IsFineNode problem sites paths (SplitNode var at) force = IsPlace var at force.within

abbrev pub IsFine : Problem → List PinNo → List Listed → Node × InForce → Type 0
IsFine problem sites paths visit = IsFineNode problem sites paths visit.0 visit.1

-- all listed paths are of the problem, and this is the first node that isn't fine
pub record IsFirstNode (problem : Problem) (sites : List PinNo) (paths : List Listed) (force : InForce) (tree : ProofTree) (number : ℕ) (node : Node) : Type 0 where
  pub paths_checked : All (IsOfProblem problem) paths
  pub within : InForce
  pub first : IsFirstNot (IsFine problem sites paths) (visits force tree) number (node, within)

abbrev pub IsFirstFlaw : Problem → List PinNo → List Listed → InForce → ProofTree → TreeFlaw → Type 0
IsFirstFlaw problem sites paths force tree (NotPath number) =
    (path : Listed) × IsFirstNot (IsOfProblem problem) paths number path
IsFirstFlaw problem sites paths force tree (BadSplit number) =
    (var : VarNo) × (at : ℕ) × IsFirstNode problem sites paths force tree number (SplitNode var at)
IsFirstFlaw problem sites paths force tree (OpenLeaf number) =
    (leaf : Leaf) × IsFirstNode problem sites paths force tree number (LeafNode leaf)
