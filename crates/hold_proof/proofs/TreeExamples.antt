-- Worked examples of the words on trees and leaves.
use Rattle.std.proofs.Common.{◌≡◌, ℕ, List, [], ◌∷◌, refl, arith}
use Rattle.std.specs.Prelude.{◌≢◌, Some, None, pos}
use Rattle.std.proofs.lemmas.Int.{ints}
use Rattle.std.proofs.lemmas.Option.{none-some}
use Rattle.std.proofs.lemmas.List.Elements.{All-nil}
use Rattle.hold_base.specs.declared.number.PinNo.{PinNo}
use Rattle.hold_base.specs.declared.number.VarNo.{VarNo}
use Rattle.hold_graph.specs.declared.problem.Problem.{Problem}
use Rattle.hold_graph.specs.declared.problem.Listed.{Listed}
use Rattle.hold_proof.specs.declared.node.Leaf.{Leaf}
use Rattle.hold_proof.specs.declared.node.Node.TheVariants.{Leaf as LeafNode, Split as SplitNode}
use Rattle.hold_graph.specs.declared.boxed.Boxed.{Boxed}
use Rattle.hold_proof.specs.Tree.{ProofTree, Ends, Splits, preorder}
use Rattle.hold_proof.specs.Closing.{Closes}
use Rattle.hold_proof.proofs.ForestLemmas.{no_tree}

-- a split comes before its lower tree, and that before its upper one
pub preorder-split : (var : VarNo) (a b : Leaf) →
    preorder (Splits var 3 (Ends a) (Ends b)) ≡ SplitNode var 3 ∷ LeafNode a ∷ LeafNode b ∷ []
preorder-split var a b = refl

-- a split and one leaf are no tree's
pub split_and_leaf-no_tree : (var : VarNo) (leaf : Leaf) (tree : ProofTree) → preorder tree ≢ SplitNode var 3 ∷ LeafNode leaf ∷ []
split_and_leaf-no_tree var leaf = no_tree (SplitNode var 3 ∷ LeafNode leaf ∷ []) (λ h. none-some _ h)

-- a leaf that takes the cost so often, and nothing else
abbrev plain : ℕ → Leaf
plain scale = record { scale = scale; paths = []; chains = [] }

-- where there is no site, nothing costs less than 0, and the plain leaf says so
pub no_sites-closes : (problem : Problem) (paths : List Listed) →
    Closes problem [] paths (record { within = record { low = []; high = [] }; below = Some 0 }) (plain 1)
no_sites-closes problem paths = record {
  fit = record {
    orderly = record {
      paths_rise = λ k below. absurd (omega arith);
      paths_times = All-nil _;
      sites_rise = λ k below. absurd (omega arith);
      sites_times = All-nil _;
      weight = omega arith;
    };
    paths_checked = All-nil _;
    sites_there = All-nil _;
  };
  beta = pos 0;
  least = record { attained = ([], tt, omega (arith, ints)); bound = λ counts point. omega (arith, ints) };
  above = omega (arith, ints);
}

-- a leaf that takes nothing shows nothing
pub no_terms-open : (problem : Problem) (sites : List PinNo) (paths : List Listed) (box : Boxed) →
    Closes problem sites paths (record { within = box; below = None }) (plain 0) → ⊥
no_terms-open problem sites paths box closes =
    let value = closes.least.attained.2 in
    let above = closes.above.1 in
    absurd (omega (arith, ints, value, above))
