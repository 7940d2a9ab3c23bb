-- How far a tree is judged.
--
-- forced below box: the box in force with the bound, if any.
-- visits_of below boxes trees: the visits of these trees, one after another, each over the box of its place.
-- boxes_past node box others: the boxes that wait once one has gone past the node over a box: behind a split its halves come first.
-- flaw_of node number: the flaw that the node of that number is where it isn't fine.
-- IsJudged problem sites paths below root tree nodes place boxes: the nodes before the place are judged and fine; the nodes from it
--   on spell trees, each over one of the boxes, and their visits are the rest of the tree's.
use Rattle.std.specs.Prelude.{◌≡◌, ℕ, List, [], ◌∷◌, ◌++◌, length, drop, Option, Some}
use Rattle.std.specs.List.{AllByRecursion}
use Rattle.hold_base.specs.declared.number.PinNo.{PinNo}
use Rattle.hold_graph.specs.declared.problem.Problem.{Problem}
use Rattle.hold_graph.specs.declared.problem.Listed.{Listed}
use Rattle.hold_graph.specs.declared.boxed.Boxed.{Boxed}
use Rattle.hold_proof.specs.declared.flaw.TreeFlaw.{TreeFlaw}
use Rattle.hold_proof.specs.declared.flaw.TreeFlaw.TheVariants.{BadSplit, OpenLeaf}
use Rattle.hold_proof.specs.declared.node.Node.{Node}
use Rattle.hold_proof.specs.declared.node.Node.TheVariants.{Leaf as LeafNode, Split as SplitNode}
use Rattle.hold_proof.specs.Tree.{ProofTree}
use Rattle.hold_graph.specs.Boxes.{IsBox, lower_half, upper_half}
use Rattle.hold_proof.specs.InForce.{InForce}
use Rattle.hold_proof.specs.Flaws.{visits, IsFine}
use Rattle.hold_proof.specs.inner.Forest.{forest}

abbrev pub forced : Option ℕ → Boxed → InForce
forced below box = record { within = box; below = below }

abbrev pub visits_of : Option ℕ → List Boxed → List ProofTree → List (Node × InForce)
visits_of below [] trees = []
visits_of below (box ∷ boxes) [] = []
visits_of below (box ∷ boxes) (tree ∷ trees) = visits (forced below box) tree ++ visits_of below boxes trees

abbrev pub boxes_past : Node → Boxed → List Boxed → List Boxed
boxes_past (LeafNode leaf) box others = others
boxes_past (SplitNode var at) box others = lower_half var at box ∷ upper_half var at box ∷ others

abbrev pub flaw_of : Node → ℕ → TreeFlaw
flaw_of (LeafNode leaf) number = OpenLeaf number
flaw_of (SplitNode var at) number = BadSplit number

pub record IsJudged (problem : Problem) (sites : List PinNo) (paths : List Listed) (below : Option ℕ) (root : Boxed) (tree : ProofTree) (nodes : List Node) (place : ℕ) (boxes : List Boxed) : Type 0 where
  pub trees : List ProofTree
  pub spelled : forest (drop place nodes) ≡ Some trees
  pub each : length boxes ≡ length trees
  pub judged : List (Node × InForce)
  pub rest : visits (forced below root) tree ≡ judged ++ visits_of below boxes trees
  pub count : length judged ≡ place
  pub fine : AllByRecursion (IsFine problem sites paths) judged
  pub are_boxes : AllByRecursion (IsBox problem sites) boxes
