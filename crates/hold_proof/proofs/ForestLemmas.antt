-- The trees that a list of nodes spells: it has them as its preorders, and a tree's preorder spells that tree.
use Rattle.std.proofs.Common.{◌≡◌, ℕ, zero, suc, ◌+◌, ◌-◌, ◌<◌, ◌≤◌, List, [], ◌∷◌, length, drop, get_or, refl, sym, ap, ◌∙◌, arith, append_assoc, append-nil}
use Rattle.std.specs.Prelude.{Option, Some, None, option_map, option_and_then, flat_map}
use Rattle.std.proofs.lemmas.Option.{same_Some, none-some}
use Rattle.hold_base.proofs.Lists.{drop-here}
use Rattle.hold_base.proofs.Options.{option_map-Some, option_and_then-Some}
use Rattle.hold_base.specs.declared.number.VarNo.{VarNo}
use Rattle.hold_proof.specs.declared.node.Node.{Node}
use Rattle.hold_proof.specs.declared.node.Node.TheVariants.{Leaf as LeafNode, Split as SplitNode}
use Rattle.hold_proof.specs.Tree.{ProofTree, Ends, preorder}
use Rattle.hold_proof.specs.inner.Forest.{joined, forest, first_tree, tree_of, counted, tree_count, forest-preorder}

-- the nodes of these trees, one after another
abbrev pub preorders : List ProofTree → List Node
preorders = flat_map preorder

joined-back : (var : VarNo) (at : ℕ) (two trees : List ProofTree) → joined var at two ≡ Some trees → SplitNode var at ∷ preorders two ≡ preorders trees
joined-back var at [] trees h = absurd (none-some _ h)
joined-back var at (lower ∷ []) trees h = absurd (none-some _ h)
joined-back var at (lower ∷ upper ∷ rest) trees h =
    ap (λ l. SplitNode var at ∷ l) (sym (append_assoc (preorder lower) (preorder upper) (preorders rest))) ∙ ap preorders (same_Some _ _ h)

-- nodes that spell trees are their nodes
pub forest-back : (nodes : List Node) (trees : List ProofTree) → forest nodes ≡ Some trees → nodes ≡ preorders trees
forest-back [] trees h = ap preorders (same_Some _ _ h)
forest-back (LeafNode leaf ∷ nodes) trees h =
    let rest = option_map-Some (λ (ts : List ProofTree). Ends leaf ∷ ts) (forest nodes) trees h in
    ap (λ l. LeafNode leaf ∷ l) (forest-back nodes rest.0 rest.1) ∙ ap preorders rest.2
forest-back (SplitNode var at ∷ nodes) trees h =
    let rest = option_and_then-Some (joined var at) (forest nodes) trees h in
    ap (λ l. SplitNode var at ∷ l) (forest-back nodes rest.0 rest.1) ∙ joined-back var at rest.0 trees rest.2

count-leaf : (leaf : _) (o : Option (List ProofTree)) →
    option_and_then (counted (LeafNode leaf)) (option_map length o) ≡ option_map length (option_map (λ trees. Ends leaf ∷ trees) o)
count-leaf leaf None = refl
count-leaf leaf (Some trees) = ap (λ (n : ℕ). Some n) (omega arith)

count-joined : (var : VarNo) (at : ℕ) (o : Option (List ProofTree)) →
    option_and_then (counted (SplitNode var at)) (option_map length o) ≡ option_map length (option_and_then (joined var at) o)
count-joined var at None = refl
count-joined var at (Some []) = refl
count-joined var at (Some (lower ∷ [])) = refl
count-joined var at (Some (lower ∷ upper ∷ trees)) = ap (λ (n : ℕ). Some n) (omega arith)

-- the count is that of the trees
pub tree_count-forest : (nodes : List Node) → tree_count nodes ≡ option_map length (forest nodes)
tree_count-forest [] = refl
tree_count-forest (LeafNode leaf ∷ nodes) = ap (option_and_then (counted (LeafNode leaf))) (tree_count-forest nodes) ∙ count-leaf leaf (forest nodes)
tree_count-forest (SplitNode var at ∷ nodes) =
    ap (option_and_then (counted (SplitNode var at))) (tree_count-forest nodes) ∙ count-joined var at (forest nodes)

one-first : (nodes : List Node) (trees : List ProofTree) → forest nodes ≡ Some trees → length trees ≡ 1 → preorder (tree_of nodes) ≡ nodes
one-first nodes [] h one = absurd (omega (arith, one))
one-first nodes (tree ∷ []) h one =
    ap (λ o. preorder (first_tree o)) h ∙ sym (append-nil (preorder tree)) ∙ sym (forest-back nodes (tree ∷ []) h)
one-first nodes (tree ∷ next ∷ trees) h one = absurd (omega (arith, one))

-- nodes that spell one tree are its preorder
pub one_tree : (nodes : List Node) → tree_count nodes ≡ Some 1 → preorder (tree_of nodes) ≡ nodes
one_tree nodes h =
    let trees = option_map-Some length (forest nodes) 1 (sym (tree_count-forest nodes) ∙ h) in
    one-first nodes trees.0 trees.1 trees.2

tree_count-preorder : (tree : ProofTree) → tree_count (preorder tree) ≡ Some 1
tree_count-preorder tree =
    tree_count-forest (preorder tree) ∙ ap (λ l. option_map length (forest l)) (sym (append-nil (preorder tree))) ∙ ap (option_map length) (forest-preorder tree [])

-- and a tree's preorder spells one
pub preorder-one : (nodes : List Node) (tree : ProofTree) → preorder tree ≡ nodes → tree_count nodes ≡ Some 1
preorder-one nodes tree is = ap tree_count (sym is) ∙ tree_count-preorder tree

-- a list spells no trees where its end spells none
tree_count-none : (nodes : List Node) (from : ℕ) → tree_count (drop from nodes) ≡ None → tree_count nodes ≡ None
tree_count-none nodes zero h = h
tree_count-none [] (suc from) h = h
tree_count-none (node ∷ nodes) (suc from) h = ap (option_and_then (counted node)) (tree_count-none nodes from h)

-- a node that can't stand before the trees behind it
pub stuck-none : (nodes : List Node) (at trees : ℕ) (node : Node) → 0 < at → at ≤ length nodes → node ≡ get_or nodes (at - 1) node →
    tree_count (drop at nodes) ≡ Some trees → counted node trees ≡ None → tree_count nodes ≡ None
stuck-none nodes at trees node some within is so_far stuck =
    let here : drop (at - 1) nodes ≡ node ∷ drop ((at - 1) + 1) nodes = drop-here nodes (at - 1) node (omega arith) is in
    let next : (at - 1) + 1 ≡ at = omega arith in
    let left : tree_count (drop ((at - 1) + 1) nodes) ≡ Some trees = ap (λ n. tree_count (drop n nodes)) next ∙ so_far in
    tree_count-none nodes (at - 1) (ap tree_count here ∙ ap (option_and_then (counted node)) left ∙ stuck)

-- nodes that spell no single tree are no tree's
pub no_tree : (nodes : List Node) → (tree_count nodes ≡ Some 1 → ⊥) → (tree : ProofTree) → preorder tree ≡ nodes → ⊥
no_tree nodes none tree is = none (preorder-one nodes tree is)
