-- ProofTree: a leaf, or a split of a variable at a place. A split has two trees: the lower one is for counts of the variable
--   that are at most the place, the upper one for those above it.
-- preorder tree: the tree's nodes, each before those of its trees, and those of the lower tree before those of the upper.
-- Worked examples, in proofs/TreeExamples: preorder-split, split_and_leaf-no_tree.
use Rattle.std.specs.Prelude.{ℕ, List, [], ◌∷◌, ◌++◌}
use Rattle.hold_base.specs.declared.number.VarNo.{VarNo}
use Rattle.hold_proof.specs.declared.node.Leaf.{Leaf}
use Rattle.hold_proof.specs.declared.node.Node.{Node}
use Rattle.hold_proof.specs.declared.node.Node.TheVariants.{Leaf as LeafNode, Split as SplitNode}

pub data ProofTree : Type 0 where
  Ends : Leaf → ProofTree
  Splits : VarNo → ℕ → ProofTree → ProofTree → ProofTree

abbrev pub preorder : ProofTree → List Node
preorder (Ends leaf) = LeafNode leaf ∷ []
preorder (Splits var at lower upper) = SplitNode var at ∷ (preorder lower ++ preorder upper)
