-- A walk through a tree: where it stands while nodes are left, and how far it is judged.
use Rattle.std.proofs.Common.{◌≡◌, ℕ, ◌+◌, ◌<◌, ◌≤◌, Bool, true, false, List, [], ◌∷◌, length, drop, reverse, refl, sym, ap, ◌∙◌, subst, arith}
use Rattle.std.specs.Prelude.{Option}
use Rattle.std.proofs.lemmas.Slice.Zip.{AllZip-long}
use Rattle.hold_base.specs.declared.number.PinNo.{PinNo}
use Rattle.hold_graph.specs.declared.boxed.Boxed.{Boxed}
use Rattle.hold_graph.specs.declared.problem.Listed.{Listed}
use Rattle.hold_graph.specs.declared.problem.Problem.{Problem}
use Rattle.hold_graph.specs.Boxes.{IsBox}
use Rattle.hold_proof.specs.declared.node.Node.{Node}
use Rattle.hold_proof.specs.declared.walk.Walk.{Walk}
use Rattle.hold_proof.specs.Tree.{ProofTree, preorder}
use Rattle.hold_proof.specs.Flaws.{IsFineNode}
use Rattle.hold_proof.specs.inner.Judging.{boxes_past, forced, IsJudged}
use Rattle.hold_proof.specs.inner.Walk.{box_at, boxes_of, boxes_when, waiting, IsWalk}
use Rattle.hold_proof.proofs.JudgeLemmas.{judged-none, judged-past, judged-some}
use Rattle.hold_proof.proofs.WorkLemmas.{same-box}

-- the box where a walk stands, and those that wait
abbrev pub here_of : Walk → Boxed
here_of walk = box_at walk.low.items walk.high.items

abbrev pub others_of : Walk → List Boxed
others_of walk = waiting walk.low.items walk.high.items (reverse walk.turns.items)

pub walk-same : (costs same : List ℕ) (n m : ℕ) (walk : Walk) → costs ≡ same → n ≡ m → IsWalk costs n walk → IsWalk same m walk
walk-same costs same n m walk costs_are is h = subst (λ c. IsWalk c m walk) costs_are (subst (λ k. IsWalk costs k walk) is h)

-- there are as many highs as lows
pub box-long : (problem : Problem) (sites : List PinNo) (box : Boxed) → IsBox problem sites box → length box.low ≡ length box.high
box-long problem sites box is = sym (AllZip-long (λ low high. low ≤ high) box.low box.high is.ordered)

pub judged-begun : (problem : Problem) (sites : List PinNo) (paths : List Listed) (below : Option ℕ) (root : Boxed) (tree : ProofTree) (nodes : List Node) (low high : List ℕ) (boxes : List Boxed) → preorder tree ≡ nodes →
    IsBox problem sites root → low ≡ root.low → high ≡ root.high → boxes ≡ box_at low high ∷ [] → IsJudged problem sites paths below root tree nodes 0 boxes
judged-begun problem sites paths below root tree nodes low high boxes is box low_is high_is boxes_are =
    subst (IsJudged problem sites paths below root tree nodes 0) (sym (boxes_are ∙ ap (λ b. b ∷ []) (same-box root low high low_is high_is)))
    (judged-none problem sites paths below root tree nodes is box)

some_boxes-left : (ended : Bool) (lows highs : List ℕ) (turns : List _) → 0 < length (boxes_when ended lows highs turns) → ended ≡ false
some_boxes-left true lows highs turns some = absurd (omega (arith, some))
some_boxes-left false lows highs turns some = refl

-- while a node is left the walk hasn't ended
pub judged-left : (problem : Problem) (sites : List PinNo) (paths : List Listed) (below : Option ℕ) (root : Boxed) (tree : ProofTree) (nodes : List Node) (place : ℕ) (node : Node) (walk : Walk) →
    drop place nodes ≡ node ∷ drop (place + 1) nodes → IsJudged problem sites paths below root tree nodes place (boxes_of walk) → walk.ended ≡ false
judged-left problem sites paths below root tree nodes place node walk here judged =
    some_boxes-left walk.ended walk.low.items walk.high.items (reverse walk.turns.items) (judged-some problem sites paths below root tree nodes place (boxes_of walk) node judged here)

pub boxes-left : (walk : Walk) → walk.ended ≡ false → boxes_of walk ≡ here_of walk ∷ others_of walk
boxes-left walk left = ap (λ e. boxes_when e walk.low.items walk.high.items (reverse walk.turns.items)) left

-- so it stands over a box
pub judged-here : (problem : Problem) (sites : List PinNo) (paths : List Listed) (below : Option ℕ) (root : Boxed) (tree : ProofTree) (nodes : List Node) (place : ℕ) (node : Node) (walk : Walk) →
    drop place nodes ≡ node ∷ drop (place + 1) nodes → IsJudged problem sites paths below root tree nodes place (boxes_of walk) →
    IsJudged problem sites paths below root tree nodes place (here_of walk ∷ others_of walk)
judged-here problem sites paths below root tree nodes place node walk here judged =
    subst (IsJudged problem sites paths below root tree nodes place) (boxes-left walk (judged-left problem sites paths below root tree nodes place node walk here judged)) judged

pub judged-box : (problem : Problem) (sites : List PinNo) (paths : List Listed) (below : Option ℕ) (root : Boxed) (tree : ProofTree) (nodes : List Node) (place : ℕ) (node : Node) (walk : Walk) →
    drop place nodes ≡ node ∷ drop (place + 1) nodes → IsJudged problem sites paths below root tree nodes place (boxes_of walk) → IsBox problem sites (here_of walk)
judged-box problem sites paths below root tree nodes place node walk here judged =
    (judged-here problem sites paths below root tree nodes place node walk here judged).are_boxes.0

-- and past a fine node it is judged one node further
pub judged-next : (problem : Problem) (sites : List PinNo) (paths : List Listed) (below : Option ℕ) (root : Boxed) (tree : ProofTree) (nodes : List Node) (place : ℕ) (node : Node) (walk : Walk) (boxes : List Boxed) →
    drop place nodes ≡ node ∷ drop (place + 1) nodes → IsJudged problem sites paths below root tree nodes place (boxes_of walk) → IsFineNode problem sites paths node (forced below (here_of walk)) →
    boxes ≡ boxes_past node (here_of walk) (others_of walk) → IsJudged problem sites paths below root tree nodes (place + 1) boxes
judged-next problem sites paths below root tree nodes place node walk boxes here judged fine past =
    subst (IsJudged problem sites paths below root tree nodes (place + 1)) (sym past)
    (judged-past problem sites paths below root tree nodes place node (here_of walk) (others_of walk) here (judged-here problem sites paths below root tree nodes place node walk here judged) fine)
