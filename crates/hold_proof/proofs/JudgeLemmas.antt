-- Judging a tree node by node.
use Rattle.std.proofs.Common.{◌≡◌, ℕ, suc, ◌+◌, ◌<◌, ◌≤◌, List, [], ◌∷◌, ◌++◌, length, take, drop, refl, sym, ap, ◌∙◌, arith}
use Rattle.std.specs.Prelude.{Option, Some, slice_get}
use Rattle.std.specs.List.{AllByRecursion}
use Rattle.std.proofs.lemmas.Option.{none-some, same_Some}
use Rattle.std.proofs.lemmas.List.{append_assoc, append-nil, length_push, drop_all, take_at}
use Rattle.std.proofs.lemmas.List.Elements.{All-from_recursion}
use Rattle.hold_base.proofs.Lists.{AllByRecursion-append, slice_get-seam}
use Rattle.hold_base.proofs.Options.{option_map-Some, option_and_then-Some}
use Rattle.hold_base.specs.declared.number.PinNo.{PinNo}
use Rattle.hold_base.specs.declared.number.VarNo.{VarNo}
use Rattle.hold_graph.specs.declared.problem.Problem.{Problem}
use Rattle.hold_graph.specs.declared.problem.Listed.{Listed}
use Rattle.hold_graph.specs.declared.boxed.Boxed.{Boxed}
use Rattle.hold_proof.specs.declared.node.Leaf.{Leaf}
use Rattle.hold_proof.specs.declared.node.Node.{Node}
use Rattle.hold_proof.specs.declared.node.Node.TheVariants.{Leaf as LeafNode, Split as SplitNode}
use Rattle.hold_proof.specs.Tree.{ProofTree, Ends, preorder}
use Rattle.hold_graph.specs.Boxes.{IsBox, IsPlace, lower_half, upper_half}
use Rattle.hold_proof.specs.InForce.{InForce}
use Rattle.hold_proof.specs.Closing.{Closes}
use Rattle.hold_proof.specs.Proving.{Proves}
use Rattle.hold_proof.specs.Flaws.{IsFirstNot, IsFine, IsFineNode, visits}
use Rattle.hold_proof.specs.inner.Forest.{forest, joined, forest-preorder}
use Rattle.hold_proof.specs.inner.Judging.{boxes_past, forced, visits_of, IsJudged}
use Rattle.hold_graph.proofs.BoxLemmas.{lower-is_box, upper-is_box}
use Rattle.hold_proof.proofs.VisitLemmas.{fine-proves}

-- at the root nothing is judged
pub judged-none : (problem : Problem) (sites : List PinNo) (paths : List Listed) (below : Option ℕ) (root : Boxed) (tree : ProofTree) (nodes : List Node) → preorder tree ≡ nodes → IsBox problem sites root →
    IsJudged problem sites paths below root tree nodes 0 (root ∷ [])
judged-none problem sites paths below root tree nodes is is_box = record {
  trees = tree ∷ [];
  spelled = ap forest (sym is ∙ sym (append-nil (preorder tree))) ∙ forest-preorder tree [];
  each = refl;
  judged = [];
  rest = sym (append-nil (visits (forced below root) tree));
  count = refl;
  fine = tt;
  are_boxes = (is_box, tt);
}

-- a node spells a tree
joined-some : (var : VarNo) (at : ℕ) (found trees : List ProofTree) → joined var at found ≡ Some trees → 0 < length trees
joined-some var at [] trees join = absurd (none-some _ join)
joined-some var at (lower ∷ []) trees join = absurd (none-some _ join)
joined-some var at (lower ∷ upper ∷ rest) trees join = let long = ap length (same_Some _ _ join) in omega (arith, long)

forest-some : (node : Node) (nodes : List Node) (trees : List ProofTree) → forest (node ∷ nodes) ≡ Some trees → 0 < length trees
forest-some (LeafNode leaf) nodes trees spelled =
    let found = option_map-Some (λ (ts : List ProofTree). Ends leaf ∷ ts) (forest nodes) trees spelled in
    let long = ap length (found.2) in
    omega (arith, long)
forest-some (SplitNode var at) nodes trees spelled =
    let found = option_and_then-Some (joined var at) (forest nodes) trees spelled in
    joined-some var at found.0 trees found.2

-- so where a node is left there is a box
pub judged-some : (problem : Problem) (sites : List PinNo) (paths : List Listed) (below : Option ℕ) (root : Boxed) (tree : ProofTree) (nodes : List Node) (place : ℕ) (boxes : List Boxed) (node : Node) →
    IsJudged problem sites paths below root tree nodes place boxes → drop place nodes ≡ node ∷ drop (place + 1) nodes → 0 < length boxes
judged-some problem sites paths below root tree nodes place boxes node judged here =
    let some = forest-some node (drop (place + 1) nodes) judged.trees (ap forest (sym here) ∙ judged.spelled) in
    let each = judged.each in
    omega (arith, some, each)

-- a box over a tree that begins with a leaf, and with a split
record IsAtLeaf (below : Option ℕ) (leaf : Leaf) (nodes : List Node) (trees : List ProofTree) (box : Boxed) (others : List Boxed) : Type 0 where
  later : List ProofTree
  spelled : forest nodes ≡ Some later
  each : length others ≡ length later
  visited : visits_of below (box ∷ others) trees ≡ (LeafNode leaf, forced below box) ∷ visits_of below others later

at_leaf : (below : Option ℕ) (leaf : Leaf) (nodes : List Node) (trees : List ProofTree) (box : Boxed) (others : List Boxed) → forest (LeafNode leaf ∷ nodes) ≡ Some trees →
    suc (length others) ≡ length trees → IsAtLeaf below leaf nodes trees box others
at_leaf below leaf nodes trees box others spelled each =
    let found = option_map-Some (λ (ts : List ProofTree). Ends leaf ∷ ts) (forest nodes) trees spelled in
    let long = ap length (found.2) in
    record {
      later = found.0;
      spelled = found.1;
      each = omega (arith, long, each);
      visited = ap (visits_of below (box ∷ others)) (sym (found.2));
    }

record IsAtSplit (below : Option ℕ) (var : VarNo) (at : ℕ) (nodes : List Node) (trees : List ProofTree) (box : Boxed) (others : List Boxed) : Type 0 where
  later : List ProofTree
  spelled : forest nodes ≡ Some later
  each : suc (suc (length others)) ≡ length later
  visited : visits_of below (box ∷ others) trees ≡ (SplitNode var at, forced below box) ∷ visits_of below (lower_half var at box ∷ upper_half var at box ∷ others) later

split-here : (below : Option ℕ) (var : VarNo) (at : ℕ) (nodes : List Node) (found trees : List ProofTree) (box : Boxed) (others : List Boxed) → forest nodes ≡ Some found → joined var at found ≡ Some trees →
    suc (length others) ≡ length trees → IsAtSplit below var at nodes trees box others
split-here below var at nodes [] trees box others spelled join each = absurd (none-some _ join)
split-here below var at nodes (lower ∷ []) trees box others spelled join each = absurd (none-some _ join)
split-here below var at nodes (lower ∷ upper ∷ rest) trees box others spelled join each =
    let same = same_Some _ _ join in
    let long = ap length same in
    record {
      later = lower ∷ upper ∷ rest;
      spelled = spelled;
      each = omega (arith, long, each);
      visited = ap (visits_of below (box ∷ others)) (sym same)
          ∙ ap (λ l. (SplitNode var at, forced below box) ∷ l) (append_assoc (visits (forced below (lower_half var at box)) lower) (visits (forced below (upper_half var at box)) upper) (visits_of below others rest));
    }

at_split : (below : Option ℕ) (var : VarNo) (at : ℕ) (nodes : List Node) (trees : List ProofTree) (box : Boxed) (others : List Boxed) → forest (SplitNode var at ∷ nodes) ≡ Some trees →
    suc (length others) ≡ length trees → IsAtSplit below var at nodes trees box others
at_split below var at nodes trees box others spelled each =
    let found = option_and_then-Some (joined var at) (forest nodes) trees spelled in
    split-here below var at nodes found.0 trees box others found.1 found.2 each

-- the first visit that isn't fine
first-here : (problem : Problem) (sites : List PinNo) (paths : List Listed) (visited judged later : List (Node × InForce)) (place : ℕ) (visit : Node × InForce) →
    visited ≡ judged ++ visit ∷ later → length judged ≡ place → AllByRecursion (IsFine problem sites paths) judged → (IsFine problem sites paths visit → ⊥) →
    IsFirstNot (IsFine problem sites paths) visited place visit
first-here problem sites paths visited judged later place visit split count fine unfit =
    let there : slice_get visited (length judged) ≡ Some visit = ap (λ l. slice_get l (length judged)) split ∙ slice_get-seam judged later visit in
    let front : take place visited ≡ judged = ap (take place) split ∙ take_at judged (visit ∷ later) place count in
    record {
      at = ap (slice_get visited) (sym count) ∙ there;
      fails = unfit;
      before = rw front (All-from_recursion (IsFine problem sites paths) judged fine);
    }

one_more : (visited judged now later : List (Node × InForce)) (visit : Node × InForce) → visited ≡ judged ++ now → now ≡ visit ∷ later → visited ≡ (judged ++ visit ∷ []) ++ later
one_more visited judged now later visit split here = split ∙ ap (λ l. judged ++ l) here ∙ sym (append_assoc judged (visit ∷ []) later)

-- past a leaf that closes
pub judged-leaf : (problem : Problem) (sites : List PinNo) (paths : List Listed) (below : Option ℕ) (root : Boxed) (tree : ProofTree) (nodes : List Node) (place : ℕ) (leaf : Leaf) (box : Boxed) (others : List Boxed) →
    drop place nodes ≡ LeafNode leaf ∷ drop (place + 1) nodes → IsJudged problem sites paths below root tree nodes place (box ∷ others) →
    Closes problem sites paths (forced below box) leaf → IsJudged problem sites paths below root tree nodes (place + 1) others
judged-leaf problem sites paths below root tree nodes place leaf box others here h closes =
    let now = at_leaf below leaf (drop (place + 1) nodes) h.trees box others (ap forest (sym here) ∙ h.spelled) h.each in
    record {
      trees = now.later;
      spelled = now.spelled;
      each = now.each;
      judged = h.judged ++ (LeafNode leaf, forced below box) ∷ [];
      rest = one_more (visits (forced below root) tree) h.judged (visits_of below (box ∷ others) h.trees) (visits_of below others now.later) (LeafNode leaf, forced below box) h.rest now.visited;
      count = length_push h.judged (LeafNode leaf, forced below box) ∙ ap (λ n. n + 1) h.count;
      fine = AllByRecursion-append (IsFine problem sites paths) h.judged ((LeafNode leaf, forced below box) ∷ []) h.fine (closes, tt);
      are_boxes = (h.are_boxes).1;
    }

-- a leaf that doesn't close
pub judged-open_leaf : (problem : Problem) (sites : List PinNo) (paths : List Listed) (below : Option ℕ) (root : Boxed) (tree : ProofTree) (nodes : List Node) (place : ℕ) (leaf : Leaf) (box : Boxed) (others : List Boxed) →
    drop place nodes ≡ LeafNode leaf ∷ drop (place + 1) nodes → IsJudged problem sites paths below root tree nodes place (box ∷ others) →
    (Closes problem sites paths (forced below box) leaf → ⊥) → IsFirstNot (IsFine problem sites paths) (visits (forced below root) tree) place (LeafNode leaf, forced below box)
judged-open_leaf problem sites paths below root tree nodes place leaf box others here h unfit =
    let now = at_leaf below leaf (drop (place + 1) nodes) h.trees box others (ap forest (sym here) ∙ h.spelled) h.each in
    first-here problem sites paths (visits (forced below root) tree) h.judged (visits_of below others now.later) place (LeafNode leaf, forced below box)
    (h.rest ∙ ap (λ l. h.judged ++ l) now.visited) h.count h.fine unfit

-- past a split that has a place
pub judged-split : (problem : Problem) (sites : List PinNo) (paths : List Listed) (below : Option ℕ) (root : Boxed) (tree : ProofTree) (nodes : List Node) (place : ℕ) (var : VarNo) (at : ℕ) (box : Boxed) (others : List Boxed) →
    drop place nodes ≡ SplitNode var at ∷ drop (place + 1) nodes → IsJudged problem sites paths below root tree nodes place (box ∷ others) →
    IsPlace var at box → IsJudged problem sites paths below root tree nodes (place + 1) (lower_half var at box ∷ upper_half var at box ∷ others)
judged-split problem sites paths below root tree nodes place var at box others here h fits =
    let now = at_split below var at (drop (place + 1) nodes) h.trees box others (ap forest (sym here) ∙ h.spelled) h.each in
    record {
      trees = now.later;
      spelled = now.spelled;
      each = now.each;
      judged = h.judged ++ (SplitNode var at, forced below box) ∷ [];
      rest = one_more (visits (forced below root) tree) h.judged (visits_of below (box ∷ others) h.trees) (visits_of below (lower_half var at box ∷ upper_half var at box ∷ others) now.later)
          (SplitNode var at, forced below box) h.rest now.visited;
      count = length_push h.judged (SplitNode var at, forced below box) ∙ ap (λ n. n + 1) h.count;
      fine = AllByRecursion-append (IsFine problem sites paths) h.judged ((SplitNode var at, forced below box) ∷ []) h.fine (fits, tt);
      are_boxes = (lower-is_box problem sites box var at (h.are_boxes).0 fits, (upper-is_box problem sites box var at (h.are_boxes).0 fits, (h.are_boxes).1));
    }

-- a split that hasn't
pub judged-bad_split : (problem : Problem) (sites : List PinNo) (paths : List Listed) (below : Option ℕ) (root : Boxed) (tree : ProofTree) (nodes : List Node) (place : ℕ) (var : VarNo) (at : ℕ) (box : Boxed) (others : List Boxed) →
    drop place nodes ≡ SplitNode var at ∷ drop (place + 1) nodes → IsJudged problem sites paths below root tree nodes place (box ∷ others) →
    (IsPlace var at box → ⊥) → IsFirstNot (IsFine problem sites paths) (visits (forced below root) tree) place (SplitNode var at, forced below box)
judged-bad_split problem sites paths below root tree nodes place var at box others here h unfit =
    let now = at_split below var at (drop (place + 1) nodes) h.trees box others (ap forest (sym here) ∙ h.spelled) h.each in
    first-here problem sites paths (visits (forced below root) tree) h.judged (visits_of below (lower_half var at box ∷ upper_half var at box ∷ others) now.later) place (SplitNode var at, forced below box)
    (h.rest ∙ ap (λ l. h.judged ++ l) now.visited) h.count h.fine unfit

no_visits : (below : Option ℕ) (boxes : List Boxed) → visits_of below boxes [] ≡ []
no_visits below [] = refl
no_visits below (box ∷ boxes) = refl

-- at the end the tree proves
pub judged-all : (problem : Problem) (sites : List PinNo) (paths : List Listed) (below : Option ℕ) (root : Boxed) (tree : ProofTree) (nodes : List Node) (place : ℕ) (boxes : List Boxed) → length nodes ≤ place →
    IsJudged problem sites paths below root tree nodes place boxes → Proves problem sites paths (forced below root) tree
judged-all problem sites paths below root tree nodes place boxes end h =
    let none : h.trees ≡ [] = sym (same_Some _ _ (ap forest (sym (drop_all place nodes end)) ∙ h.spelled)) in
    let whole : visits (forced below root) tree ≡ h.judged =
    h.rest ∙ ap (λ trees. h.judged ++ visits_of below boxes trees) none ∙ ap (λ l. h.judged ++ l) (no_visits below boxes) ∙ append-nil h.judged in
    fine-proves problem sites paths (forced below root) tree (rw whole (h.fine))

-- past a node that is fine
pub judged-past : (problem : Problem) (sites : List PinNo) (paths : List Listed) (below : Option ℕ) (root : Boxed) (tree : ProofTree) (nodes : List Node) (place : ℕ) (node : Node) (box : Boxed) (others : List Boxed) →
    drop place nodes ≡ node ∷ drop (place + 1) nodes → IsJudged problem sites paths below root tree nodes place (box ∷ others) →
    IsFineNode problem sites paths node (forced below box) → IsJudged problem sites paths below root tree nodes (place + 1) (boxes_past node box others)
judged-past problem sites paths below root tree nodes place (LeafNode leaf) box others here judged fine = judged-leaf problem sites paths below root tree nodes place leaf box others here judged fine
judged-past problem sites paths below root tree nodes place (SplitNode var at) box others here judged fine = judged-split problem sites paths below root tree nodes place var at box others here judged fine

-- a node that isn't
pub judged-unfit : (problem : Problem) (sites : List PinNo) (paths : List Listed) (below : Option ℕ) (root : Boxed) (tree : ProofTree) (nodes : List Node) (place : ℕ) (node : Node) (box : Boxed) (others : List Boxed) →
    drop place nodes ≡ node ∷ drop (place + 1) nodes → IsJudged problem sites paths below root tree nodes place (box ∷ others) →
    (IsFineNode problem sites paths node (forced below box) → ⊥) → IsFirstNot (IsFine problem sites paths) (visits (forced below root) tree) place (node, forced below box)
judged-unfit problem sites paths below root tree nodes place (LeafNode leaf) box others here judged unfit = judged-open_leaf problem sites paths below root tree nodes place leaf box others here judged unfit
judged-unfit problem sites paths below root tree nodes place (SplitNode var at) box others here judged unfit = judged-bad_split problem sites paths below root tree nodes place var at box others here judged unfit
