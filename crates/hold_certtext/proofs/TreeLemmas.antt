-- Nodes read one by one, by how many trees are still wanted: they are one tree's where none is left, and can always be completed.
use Rattle.std.proofs.Common.{◌≡◌, ℕ, zero, suc, ◌+◌, ◌-◌, List, [], ◌∷◌, ◌++◌, Bool, true, false, cond, length, refl, sym, ap, ◌∙◌, arith, append_assoc, append-nil}
use Rattle.std.specs.Prelude.{◌==◌, None, Some, flat_map, replicate}
use Rattle.std.proofs.lemmas.Option.{none-some, same_Some}
use Rattle.std.proofs.lemmas.Bool.Decides.{nat_tests}
use Rattle.hold_base.specs.declared.number.VarNo.{VarNo}
use Rattle.hold_proof.specs.declared.node.Leaf.{Leaf}
use Rattle.hold_proof.specs.declared.node.Node.{Node}
use Rattle.hold_proof.specs.declared.node.Node.TheVariants.{Leaf as LeafNode, Split as SplitNode}
use Rattle.hold_proof.specs.Tree.{ProofTree, Ends, Splits, preorder}
use Rattle.hold_certtext.specs.inner.Reading.{trees_after, wanted}

wanted-suc : (open_trees : ℕ) (node : Node) (nodes : List Node) → wanted (suc open_trees) (node ∷ nodes) ≡ wanted (trees_after (suc open_trees) node) nodes
wanted-suc open_trees node nodes = let some : (suc open_trees == 0) ≡ false = grind (arith, nat_tests) in rw some refl

-- one node more
pub wanted-push : (open_trees left : ℕ) (nodes : List Node) (node : Node) → wanted open_trees nodes ≡ Some left → (left == 0) ≡ false
    → wanted open_trees (nodes ++ node ∷ []) ≡ Some (trees_after left node)
wanted-push open_trees left [] node h some =
    let same : open_trees ≡ left = same_Some open_trees left h in
    let test : (open_trees == 0) ≡ false = ap (λ n. n == 0) same ∙ some in
    rw test (ap (λ n. Some (trees_after n node)) same)
wanted-push open_trees left (first ∷ nodes) node h some = by (open_trees == 0) h (λ e. wanted-push (trees_after open_trees first) left nodes node e some)
  where
    by : (t : Bool) → cond t None (wanted (trees_after open_trees first) nodes) ≡ Some left
        → (wanted (trees_after open_trees first) nodes ≡ Some left → wanted (trees_after open_trees first) (nodes ++ node ∷ []) ≡ Some (trees_after left node))
        → cond t None (wanted (trees_after open_trees first) (nodes ++ node ∷ [])) ≡ Some (trees_after left node)
    by true e rest = absurd (none-some left e)
    by false e rest = rest e

-- a tree's nodes are one tree less
pub wanted-preorder : (tree : ProofTree) (open_trees : ℕ) (nodes : List Node) → wanted (open_trees + 1) (preorder tree ++ nodes) ≡ wanted open_trees nodes
wanted-preorder (Ends leaf) open_trees nodes =
    let more : open_trees + 1 ≡ suc open_trees = omega arith in
    let less : suc open_trees - 1 ≡ open_trees = omega arith in
    ap (λ (n : ℕ). wanted n (LeafNode leaf ∷ nodes)) more ∙ wanted-suc open_trees (LeafNode leaf) nodes ∙ ap (λ (n : ℕ). wanted n nodes) less
wanted-preorder (Splits var at lower upper) open_trees nodes =
    let more : open_trees + 1 ≡ suc open_trees = omega arith in
    ap (λ (n : ℕ). wanted n (SplitNode var at ∷ ((preorder lower ++ preorder upper) ++ nodes))) more
    ∙ wanted-suc open_trees (SplitNode var at) ((preorder lower ++ preorder upper) ++ nodes)
    ∙ ap (wanted (suc open_trees + 1)) (append_assoc (preorder lower) (preorder upper) nodes)
    ∙ wanted-preorder lower (suc open_trees) (preorder upper ++ nodes)
    ∙ ap (λ (n : ℕ). wanted n (preorder upper ++ nodes)) (sym more)
    ∙ wanted-preorder upper open_trees nodes

record Trees (open_trees : ℕ) (nodes : List Node) : Type 0 where
  trees : List ProofTree
  count : length trees ≡ open_trees
  are : nodes ≡ flat_map preorder trees

split-trees : (var : VarNo) (at open_trees : ℕ) (nodes : List Node) (trees : List ProofTree) → length trees ≡ suc (suc open_trees) → nodes ≡ flat_map preorder trees
    → Trees (suc open_trees) (SplitNode var at ∷ nodes)
split-trees var at open_trees nodes [] count are = absurd (omega (arith, count))
split-trees var at open_trees nodes (lower ∷ []) count are = absurd (omega (arith, count))
split-trees var at open_trees nodes (lower ∷ upper ∷ trees) count are = record {
  trees = Splits var at lower upper ∷ trees;
  count = omega (arith, count);
  are = ap (λ (ns : List Node). SplitNode var at ∷ ns) (are ∙ sym (append_assoc (preorder lower) (preorder upper) (flat_map preorder trees)));
}

leaf-trees : (leaf : Leaf) (open_trees : ℕ) (nodes : List Node) → Trees open_trees nodes → Trees (suc open_trees) (LeafNode leaf ∷ nodes)
leaf-trees leaf open_trees nodes h = record {
  trees = Ends leaf ∷ h.trees;
  count = let c = h.count in omega (arith, c);
  are = ap (λ (ns : List Node). LeafNode leaf ∷ ns) h.are;
}

-- nodes after which no tree is wanted are those of as many trees as were wanted
trees-wanted : (nodes : List Node) (open_trees : ℕ) → wanted open_trees nodes ≡ Some 0 → Trees open_trees nodes
trees-wanted [] open_trees h = record { trees = []; count = sym (same_Some open_trees 0 h); are = refl }
trees-wanted (node ∷ nodes) zero h = absurd (none-some 0 h)
trees-wanted (LeafNode leaf ∷ nodes) (suc open_trees) h =
    let less : suc open_trees - 1 ≡ open_trees = omega arith in
    leaf-trees leaf open_trees nodes
    (trees-wanted nodes open_trees (ap (λ (n : ℕ). wanted n nodes) (sym less) ∙ sym (wanted-suc open_trees (LeafNode leaf) nodes) ∙ h))
trees-wanted (SplitNode var at ∷ nodes) (suc open_trees) h =
    let more : suc open_trees + 1 ≡ suc (suc open_trees) = omega arith in
    let rest = trees-wanted nodes (suc (suc open_trees)) (ap (λ (n : ℕ). wanted n nodes) (sym more) ∙ sym (wanted-suc open_trees (SplitNode var at) nodes) ∙ h) in
    split-trees var at open_trees nodes rest.trees rest.count rest.are

one-tree : (nodes : List Node) (trees : List ProofTree) → length trees ≡ 1 → nodes ≡ flat_map preorder trees → (tree : ProofTree) × (preorder tree ≡ nodes)
one-tree nodes [] count are = absurd (omega (arith, count))
one-tree nodes (tree ∷ []) count are = (tree, sym (are ∙ append-nil (preorder tree)))
one-tree nodes (tree ∷ other ∷ trees) count are = absurd (omega (arith, count))

-- where one was wanted and none is left, they are one tree's
pub tree-wanted : (nodes : List Node) → wanted 1 nodes ≡ Some 0 → (tree : ProofTree) × (preorder tree ≡ nodes)
tree-wanted nodes h = let found = trees-wanted nodes 1 h in one-tree nodes found.trees found.count found.are

-- a leaf that takes nothing
abbrev pub plain_leaf : Node
plain_leaf = LeafNode (record { scale = 0; paths = []; chains = [] })

wanted-plain : (open_trees : ℕ) → wanted open_trees (replicate open_trees plain_leaf) ≡ Some 0
wanted-plain zero = refl
wanted-plain (suc open_trees) =
    let less : suc open_trees - 1 ≡ open_trees = omega arith in
    wanted-suc open_trees plain_leaf (replicate open_trees plain_leaf) ∙ ap (λ (n : ℕ). wanted n (replicate open_trees plain_leaf)) less ∙ wanted-plain open_trees

wanted-append : (nodes more : List Node) (open_trees left : ℕ) → wanted open_trees nodes ≡ Some left → wanted open_trees (nodes ++ more) ≡ wanted left more
wanted-append [] more open_trees left h = ap (λ (n : ℕ). wanted n more) (same_Some open_trees left h)
wanted-append (node ∷ nodes) more open_trees left h = by (open_trees == 0) h (λ e. wanted-append nodes more (trees_after open_trees node) left e)
  where
    by : (t : Bool) → cond t None (wanted (trees_after open_trees node) nodes) ≡ Some left
        → (wanted (trees_after open_trees node) nodes ≡ Some left → wanted (trees_after open_trees node) (nodes ++ more) ≡ wanted left more)
        → cond t None (wanted (trees_after open_trees node) (nodes ++ more)) ≡ wanted left more
    by true e rest = absurd (none-some left e)
    by false e rest = rest e

-- with a plain leaf for each tree that is wanted the nodes are one tree's
pub wanted-completed : (nodes : List Node) (left : ℕ) → wanted 1 nodes ≡ Some left → wanted 1 (nodes ++ replicate left plain_leaf) ≡ Some 0
wanted-completed nodes left h = wanted-append nodes (replicate left plain_leaf) 1 left h ∙ wanted-plain left
