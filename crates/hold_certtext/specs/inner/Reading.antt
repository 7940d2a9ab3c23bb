-- What is read of a certificate, line by line.
--
-- SoFar: what was read so far: where the text stands, the cost where there is one, the counts, and the least variable that may be
--   counted next; the paths; the nodes, and how many trees the tree still wants.
-- start: when nothing was read. step so_far line: what is read with the line, if it can stand there.
-- kind_in words: the kind of a line, which its first word tells, and the words behind.
-- next_stage stage kind: the table of the kinds that may stand at a stage, and the stage behind.
-- fill so_far kind words: what is read with the parts of a line of this kind.
-- wanted open nodes: how many trees are wanted behind the nodes, where so many were wanted before them, if they can stand there.
-- most_scale cost: the greatest scale of a leaf, which is 0 where nothing is said to meet.
-- claim_by cost counts: the claim of a repair with these counts, or, without a cost, that nothing meets.
-- certificate_of so_far tree: the certificate that was read, with its nodes as a tree.
-- so_far draft: what a draft holds. IsDraftOf text draft: all of the text was read as the draft.
use Rattle.std.specs.Prelude.{◌≡◌, ℕ, ◌+◌, ◌-◌, ◌==◌, ◌&&◌, List, [], ◌∷◌, ◌++◌, length, Option, None, Some, nat_le, codes, if◌then◌else◌}
use Rattle.std.specs.Str.{bytes_eq}
use Rattle.hold_base.specs.declared.number.VarNo.{VarNo}
use Rattle.hold_graph.specs.declared.problem.Listed.{Listed}
use Rattle.hold_proof.specs.Tree.{ProofTree, preorder}
use Rattle.hold_proof.specs.declared.certificate.Certificate.{Certificate}
use Rattle.hold_proof.specs.declared.claim.Claim.{Claim}
use Rattle.hold_proof.specs.declared.claim.Claim.TheVariants.{Repaired as RepairedClaim, Infeasible as InfeasibleClaim}
use Rattle.hold_proof.specs.declared.node.Node.{Node}
use Rattle.hold_proof.specs.declared.node.Node.TheVariants.{Leaf as LeafNode, Split as SplitNode}
use Rattle.hold_certtext.specs.declared.draft.Draft.{Draft}
use Rattle.hold_certtext.specs.declared.kind.Kind.{Kind}
use Rattle.hold_certtext.specs.declared.kind.Kind.TheVariants.{Head, Repaired, Infeasible, Count, Path, Split, Leaf, End}
use Rattle.hold_certtext.specs.declared.stage.Stage.{Stage}
use Rattle.hold_certtext.specs.declared.stage.Stage.TheVariants.{Head as AtHead, Claim as AtClaim, Counts as AtCounts, Paths as AtPaths, Tree as AtTree, Whole}
use Rattle.hold_certtext.specs.CertificateText.{IsTextOf}
use Rattle.hold_certtext.specs.inner.Words.{words_of, is_nil, is_word}
use Rattle.hold_certtext.specs.inner.Parsing.{◌>>=◌, guard, cost_in, count_in, path_in, split_in, leaf_in}

pub record SoFar : Type 0 where
  pub stage : Stage
  pub cost : Option ℕ
  pub counts : List (VarNo × ℕ)
  pub least : ℕ
  pub paths : List Listed
  pub nodes : List Node
  pub open_trees : ℕ

abbrev pub so_far : Draft → SoFar
so_far draft = record {
  stage = draft.stage;
  cost = draft.cost;
  counts = draft.counts.items;
  least = draft.least;
  paths = draft.paths.items;
  nodes = draft.nodes.items;
  open_trees = draft.open_trees;
}

abbrev pub start : SoFar
start = record { stage = AtHead; cost = None; counts = []; least = 0; paths = []; nodes = []; open_trees = 1 }

abbrev pub kind_of : List ℕ → Option Kind
kind_of word =
    if bytes_eq word (codes "leaf") then Some Leaf
    else if bytes_eq word (codes "split") then Some Split
    else if bytes_eq word (codes "path") then Some Path
    else if bytes_eq word (codes "count") then Some Count
    else if bytes_eq word (codes "hold-certificate") then Some Head
    else if bytes_eq word (codes "repaired") then Some Repaired
    else if bytes_eq word (codes "infeasible") then Some Infeasible
    else guard (bytes_eq word (codes "end")) End

abbrev pub kind_in : List (List ℕ) → Option (Kind × List (List ℕ))
kind_in [] = None
kind_in (word ∷ words) = do
  kind ← kind_of word
  Some (kind, words)

abbrev pub next_stage : Stage → Kind → Option Stage
next_stage AtHead Head = Some AtClaim
next_stage AtClaim Repaired = Some AtCounts
next_stage AtClaim Infeasible = Some AtPaths
next_stage AtCounts Count = Some AtCounts
next_stage AtCounts Path = Some AtPaths
next_stage AtCounts Split = Some AtTree
next_stage AtCounts Leaf = Some AtTree
next_stage AtPaths Path = Some AtPaths
next_stage AtPaths Split = Some AtTree
next_stage AtPaths Leaf = Some AtTree
next_stage AtTree Split = Some AtTree
next_stage AtTree Leaf = Some AtTree
next_stage AtTree End = Some Whole
next_stage _ _ = None

abbrev pub trees_after : ℕ → Node → ℕ
trees_after open_trees (SplitNode var at) = open_trees + 1
trees_after open_trees (LeafNode leaf) = open_trees - 1

abbrev pub wanted : ℕ → List Node → Option ℕ
wanted open_trees [] = Some open_trees
wanted open_trees (node ∷ nodes) = if open_trees == 0 then None else wanted (trees_after open_trees node) nodes

abbrev pub add_node : SoFar → Node → Option SoFar
add_node s node =
    if s.open_trees == 0 then None
    else Some (record s { nodes = s.nodes ++ node ∷ []; open_trees = trees_after s.open_trees node })

abbrev pub most_scale : Option ℕ → ℕ
most_scale None = 0
most_scale (Some cost) = 1152921504606846976

abbrev pub add_count : SoFar → VarNo × ℕ → Option SoFar
add_count s counted =
    guard (nat_le s.least counted.0.0) (record s { counts = s.counts ++ counted ∷ []; least = counted.0.0 + 1 })

abbrev pub fill : SoFar → Kind → List (List ℕ) → Option SoFar
fill s Head words = guard (is_word (codes "1") words) s
fill s Repaired words = do
  cost ← cost_in words
  Some (record s { cost = Some cost })
fill s Infeasible words = guard (is_nil words) s
fill s Count words = do
  counted ← count_in words
  add_count s counted
fill s Path words = do
  path ← path_in words
  Some (record s { paths = s.paths ++ path ∷ [] })
fill s Split words = do
  node ← split_in words
  add_node s node
fill s Leaf words = do
  leaf ← leaf_in (length s.paths) (most_scale s.cost) words
  add_node s (LeafNode leaf)
fill s End words = guard (is_nil words && s.open_trees == 0) s

abbrev pub step : SoFar → List ℕ → Option SoFar
step s line = do
  kind ← kind_in (words_of line)
  stage ← next_stage s.stage kind.0
  fill (record s { stage = stage }) kind.0 kind.1

abbrev pub claim_by : Option ℕ → List (VarNo × ℕ) → Claim
claim_by None counts = InfeasibleClaim
claim_by (Some cost) counts = RepairedClaim cost counts

abbrev pub certificate_of : SoFar → ProofTree → Certificate
certificate_of s tree = record { claim = claim_by s.cost s.counts; paths = s.paths; tree = tree }

abbrev pub IsDraftOf : List ℕ → Draft → Type 0
IsDraftOf text draft = (tree : ProofTree) × (preorder tree ≡ draft.nodes.items) × IsTextOf text (certificate_of (so_far draft) tree)
