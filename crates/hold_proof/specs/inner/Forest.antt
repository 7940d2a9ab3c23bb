-- joined var at trees: the trees, of which the first two are made one by a split, if there are two.
-- forest nodes: the trees that the nodes spell, one after another, if they spell any.
-- tree_of nodes: the first of them, and a leaf that closes nothing where there is none.
-- counted node trees: how many trees there are once the node stands before so many, if it can.
-- tree_count nodes: how many trees the nodes spell, if they spell any.
use Rattle.std.specs.Prelude.{◌≡◌, ℕ, ◌+◌, zero, suc, List, [], ◌∷◌, ◌++◌, Option, Some, None, option_map, option_and_then, refl}
use Rattle.std.specs.Coded.{Coded, code_by, coded_list}
use Rattle.hold_base.specs.declared.number.VarNo.{VarNo}
use Rattle.hold_proof.specs.declared.node.Node.{Node}
use Rattle.hold_proof.specs.declared.node.Node.TheVariants.{Leaf as LeafNode, Split as SplitNode}
use Rattle.hold_proof.specs.Tree.{ProofTree, Ends, Splits, preorder}
use Rattle.std.proofs.Common.{ap, sym, ◌∙◌, append_assoc, append-nil}
use Rattle.hold_proof.specs.contracts.node.Node as node

abbrev pub joined : VarNo → ℕ → List ProofTree → Option (List ProofTree)
joined var at [] = None
joined var at (lower ∷ []) = None
joined var at (lower ∷ upper ∷ trees) = Some (Splits var at lower upper ∷ trees)

abbrev pub forest : List Node → Option (List ProofTree)
forest [] = Some []
forest (LeafNode leaf ∷ nodes) = option_map (λ trees. Ends leaf ∷ trees) (forest nodes)
forest (SplitNode var at ∷ nodes) = option_and_then (joined var at) (forest nodes)

abbrev pub first_tree : Option (List ProofTree) → ProofTree
first_tree None = Ends (record { scale = 0; paths = []; chains = [] })
first_tree (Some []) = Ends (record { scale = 0; paths = []; chains = [] })
first_tree (Some (tree ∷ trees)) = tree

abbrev pub tree_of : List Node → ProofTree
tree_of nodes = first_tree (forest nodes)

abbrev pub counted : Node → ℕ → Option ℕ
counted (LeafNode leaf) trees = Some (trees + 1)
counted (SplitNode var at) zero = None
counted (SplitNode var at) (suc zero) = None
counted (SplitNode var at) (suc (suc trees)) = Some (trees + 1)

abbrev pub tree_count : List Node → Option ℕ
tree_count [] = Some 0
tree_count (node ∷ nodes) = option_and_then (counted node) (tree_count nodes)

with_first : (tree : ProofTree) (upper : ProofTree) (var : VarNo) (at : ℕ) (rest : Option (List ProofTree)) →
    option_and_then (joined var at) (option_map (λ trees. tree ∷ trees) (option_map (λ trees. upper ∷ trees) rest))
    ≡ option_map (λ trees. Splits var at tree upper ∷ trees) rest
with_first tree upper var at None = refl
with_first tree upper var at (Some trees) = refl

-- a tree's preorder spells it, before what follows
pub forest-preorder : (tree : ProofTree) (nodes : List Node) →
    forest (preorder tree ++ nodes) ≡ option_map (λ trees. tree ∷ trees) (forest nodes)
forest-preorder (Ends leaf) nodes = refl
forest-preorder (Splits var at lower upper) nodes =
    ap (λ l. option_and_then (joined var at) (forest l)) (append_assoc (preorder lower) (preorder upper) nodes)
    ∙ ap (option_and_then (joined var at)) (forest-preorder lower (preorder upper ++ nodes))
    ∙ ap (λ o. option_and_then (joined var at) (option_map (λ trees. lower ∷ trees) o)) (forest-preorder upper nodes)
    ∙ with_first lower upper var at (forest nodes)

pub tree_of-preorder : (tree : ProofTree) → tree_of (preorder tree) ≡ tree
tree_of-preorder tree =
    ap tree_of (sym (append-nil (preorder tree))) ∙ ap first_tree (forest-preorder tree [])

-- how a contract stores a tree
abbrev pub tree_code : Coded ProofTree
tree_code = code_by (List Node) (coded_list node.the_row.coded) preorder tree_of tree_of-preorder
