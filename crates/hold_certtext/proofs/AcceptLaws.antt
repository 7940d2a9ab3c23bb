-- The lines of a certificate are taken one by one, and nothing is taken behind them.
use Rattle.std.proofs.Common.{◌≡◌, ℕ, ◌+◌, ◌<◌, ◌≤◌, List, [], ◌∷◌, ◌++◌, Bool, true, false, cond, length, map, refl, sym, ap, subst, ◌∙◌, arith, append_assoc, append-nil, All}
use Rattle.std.specs.Prelude.{◌^◌, ◌==◌, Option, None, Some, option_and_then, codes, decimal, flat_map, nat_le}
use Rattle.std.specs.List.{AllByRecursion}
use Rattle.std.proofs.lemmas.Bool.Decides.{nat_tests}
use Rattle.std.proofs.lemmas.Option.{none-some, same_Some}
use Rattle.hold_base.proofs.Lists.{AllByRecursion-append, AllByRecursion-map, AllByRecursion-weaken}
use Rattle.hold_base.specs.declared.number.PinNo.{PinNo}
use Rattle.hold_base.specs.declared.number.VarNo.{VarNo}
use Rattle.hold_base.specs.declared.time.Side.{Side}
use Rattle.hold_base.specs.declared.time.Side.TheVariants.{Early, Late}
use Rattle.hold_graph.specs.declared.problem.Listed.{Listed}
use Rattle.hold_proof.specs.declared.certificate.Certificate.{Certificate}
use Rattle.hold_proof.specs.declared.claim.Claim.{Claim}
use Rattle.hold_proof.specs.declared.claim.Claim.TheVariants.{Repaired as RepairedClaim, Infeasible as InfeasibleClaim}
use Rattle.hold_proof.specs.declared.node.Leaf.{Leaf as ProofLeaf}
use Rattle.hold_proof.specs.declared.node.Node.{Node}
use Rattle.hold_proof.specs.declared.node.Node.TheVariants.{Leaf as LeafNode, Split as SplitNode}
use Rattle.hold_proof.specs.Spellable.{IsSpellableClaim, IsSpellableNode}
use Rattle.hold_proof.specs.Tree.{ProofTree, Ends, Splits, preorder}
use Rattle.hold_certtext.specs.Lines.{spaced, IsLine}
use Rattle.hold_certtext.specs.CertificateText.{head_line, end_line, claim_lines, count_line, path_line, side_word, node_line, path_words, chain_words, certificate_lines, IsClaimInRange, IsLinesOf, IsCertificate}
use Rattle.hold_certtext.specs.declared.kind.Kind.{Kind}
use Rattle.hold_certtext.specs.declared.kind.Kind.TheVariants.{Head, Repaired, Infeasible, Count, Path, Split, Leaf, End}
use Rattle.hold_certtext.specs.declared.stage.Stage.{Stage}
use Rattle.hold_certtext.specs.declared.stage.Stage.TheVariants.{Counts as AtCounts, Paths as AtPaths, Tree as AtTree, Whole}
use Rattle.hold_certtext.specs.declared.terms.Bounds.{Bounds}
use Rattle.hold_certtext.specs.inner.Words.{words_of}
use Rattle.hold_certtext.specs.inner.Parsing.{◌>>=◌, after}
use Rattle.hold_certtext.specs.inner.Reading.{SoFar, start, kind_in, next_stage, fill, step, add_count, add_node, most_scale, trees_after, wanted, claim_by}
use Rattle.hold_certtext.proofs.GuardLemmas.{guard-true}
use Rattle.hold_certtext.proofs.KindLaws.{kind_word, step-line}
use Rattle.hold_certtext.proofs.LeafLaws.{FitsLeaf, leaf_in-words, leaf_words, path_number, site_number}
use Rattle.hold_certtext.proofs.MachineLemmas.{run, run-append, Accepts, AreLines}
use Rattle.hold_certtext.proofs.PartLaws.{Words, cost_in-words, FitsCount, count_in-words, FitsPath, ArePins, pin_words, path_in-words, split_in-words, AreTerms, term_words, within-parts}
use Rattle.hold_certtext.proofs.PlainLemmas.{IsPlain, ArePlain, plain-test, plain-decimal, spaced-line}
use Rattle.hold_certtext.proofs.ReadsLaws.{claim_start}
use Rattle.hold_certtext.proofs.SpellableLaws.{CountedTo, FitsNode, spellable-counted, paths-fit, nodes-fit}
use Rattle.hold_certtext.proofs.TreeLemmas.{wanted-preorder}

abbrev Lines : Type 0
Lines = List (List ℕ)

-- plain words
plain-count : (counted : VarNo × ℕ) → FitsCount counted → ArePlain (decimal counted.0.0 ∷ decimal counted.1 ∷ [])
plain-count counted fits =
    let var = fits.var in let most = fits.most in
    (plain-decimal counted.0.0 (omega (arith, var)), (plain-decimal counted.1 (omega (arith, most)), tt))

plain-side : (side : Side) → IsPlain (side_word side)
plain-side Early = plain-test (codes "early") refl
plain-side Late = plain-test (codes "late") refl

plain-pins : (pins : List PinNo) → ArePins pins → ArePlain (pin_words pins)
plain-pins [] fits = tt
plain-pins (pin ∷ pins) fits = let below = fits.0 in (plain-decimal pin.0 (omega (arith, below)), plain-pins pins fits.1)

plain-path : (path : Listed) → FitsPath path → ArePlain (side_word path.side ∷ decimal path.corner.0 ∷ pin_words path.pins)
plain-path path fits = let below = fits.corner in (plain-side path.side, (plain-decimal path.corner.0 (omega (arith, below)), plain-pins path.pins fits.pins))

plain-terms : {X : Type 0} (letter : List ℕ) (number : X → ℕ) (bounds : Bounds) (terms : List (X × ℕ)) (weight : ℕ) → IsPlain letter → AreTerms number bounds terms weight
    → ArePlain (flat_map (term_words letter number) terms)
plain-terms letter number bounds [] weight plain fits = tt
plain-terms letter number bounds (term ∷ terms) weight plain fits =
    let within = (within-parts bounds (number term.0) term.1 fits.0).weight in
    let small = fits.1 in (
      plain,
      (
        plain-decimal (number term.0) (omega (arith, small)),
        (
          plain-decimal term.1 (omega (arith, within)),
          plain-terms letter number (after bounds (number term.0, term.1)) terms weight plain fits.2,
        ),
      ),
    )

plain-leaf : (most paths : ℕ) (leaf : ProofLeaf) → FitsLeaf most paths leaf → ArePlain (leaf_words leaf)
plain-leaf most paths leaf fits = (
  plain-decimal leaf.scale fits.small,
  AllByRecursion-append IsPlain (flat_map path_words leaf.paths) (flat_map chain_words leaf.chains)
      (plain-terms (codes "p") path_number (record { least = 0; limit = paths; weight = leaf.scale }) leaf.paths fits.with_paths (plain-test (codes "p") refl) fits.of_paths)
      (plain-terms (codes "s") site_number (record { least = 0; limit = 4294967296; weight = fits.with_paths }) leaf.chains fits.with_chains (plain-test (codes "s") refl) fits.of_chains),
)

plain-one : ArePlain (codes "1" ∷ [])
plain-one = (plain-test (codes "1") refl, tt)

plain-word : (kind : Kind) → IsPlain (kind_word kind)
plain-word Head = plain-test (kind_word Head) refl
plain-word Repaired = plain-test (kind_word Repaired) refl
plain-word Infeasible = plain-test (kind_word Infeasible) refl
plain-word Count = plain-test (kind_word Count) refl
plain-word Path = plain-test (kind_word Path) refl
plain-word Split = plain-test (kind_word Split) refl
plain-word Leaf = plain-test (kind_word Leaf) refl
plain-word End = plain-test (kind_word End) refl

-- the head
step-head : step start head_line ≡ Some claim_start
step-head = step-line start Head (codes "1" ∷ []) plain-one

-- counts
abbrev at_counts : ℕ → List (VarNo × ℕ) → ℕ → SoFar
at_counts cost counts least = record { stage = AtCounts; cost = Some cost; counts = counts; least = least; paths = []; nodes = []; open_trees = 1 }

step-repaired : (cost : ℕ) → cost < 2 ^ 64 → step claim_start (spaced (codes "repaired" ∷ decimal cost ∷ [])) ≡ Some (at_counts cost [] 0)
step-repaired cost small =
    step-line claim_start Repaired (decimal cost ∷ []) (plain-decimal cost small, tt)
    ∙ ap (λ (o : Option ℕ). o >>= (λ c. Some (at_counts c [] 0))) (cost_in-words cost small)

step-count : (cost least : ℕ) (counts : List (VarNo × ℕ)) (counted : VarNo × ℕ) → FitsCount counted → least ≤ counted.0.0
    → step (at_counts cost counts least) (count_line counted) ≡ Some (at_counts cost (counts ++ counted ∷ []) (counted.0.0 + 1))
step-count cost least counts counted fits low =
    let test : nat_le least counted.0.0 ≡ true = grind (arith, nat_tests) in
    step-line (at_counts cost counts least) Count (decimal counted.0.0 ∷ decimal counted.1 ∷ []) (plain-count counted fits)
    ∙ ap (λ (o : Option (VarNo × ℕ)). o >>= add_count (at_counts cost counts least)) (count_in-words counted fits)
    ∙ guard-true (nat_le least counted.0.0) (at_counts cost (counts ++ counted ∷ []) (counted.0.0 + 1)) test

run-counts : (cost least next : ℕ) (counts more : List (VarNo × ℕ)) → CountedTo least more next
    → run step (at_counts cost counts least) (map count_line more) ≡ Some (at_counts cost (counts ++ more) next)
run-counts cost least next counts [] fits =
    ap (λ (n : ℕ). Some (at_counts cost counts n)) fits ∙ ap (λ (cs : List (VarNo × ℕ)). Some (at_counts cost cs next)) (sym (append-nil counts))
run-counts cost least next counts (counted ∷ more) fits =
    ap (option_and_then (λ (t : SoFar). run step t (map count_line more))) (step-count cost least counts counted fits.1 fits.0)
    ∙ run-counts cost (counted.0.0 + 1) next (counts ++ counted ∷ []) more fits.2
    ∙ ap (λ (cs : List (VarNo × ℕ)). Some (at_counts cost cs next)) (append_assoc counts (counted ∷ []) more)

-- from the paths on
abbrev at_tree : Stage → Option ℕ → List (VarNo × ℕ) → ℕ → List Listed → List Node → ℕ → SoFar
at_tree stage cost counts least paths nodes open_trees =
    record { stage = stage; cost = cost; counts = counts; least = least; paths = paths; nodes = nodes; open_trees = open_trees }

-- paths and nodes may stand
record IsOpen (stage : Stage) : Type 0 where
  path : next_stage stage Path ≡ Some AtPaths
  split : next_stage stage Split ≡ Some AtTree
  leaf : next_stage stage Leaf ≡ Some AtTree

record ClaimRun (claim : Claim) : Type 0 where
  stage : Stage
  cost : Option ℕ
  counts : List (VarNo × ℕ)
  least : ℕ
  runs : run step claim_start (claim_lines claim) ≡ Some (at_tree stage cost counts least [] [] 1)
  open_stage : IsOpen stage
  is : claim_by cost counts ≡ claim

run-claim : (claim : Claim) → IsSpellableClaim claim → IsClaimInRange claim → ClaimRun claim
run-claim (RepairedClaim cost counts) spellable range =
    let counted = spellable-counted counts spellable range.1 in
    record {
      stage = AtCounts;
      cost = Some cost;
      counts = counts;
      least = counted.0;
      runs = ap (option_and_then (λ (t : SoFar). run step t (map count_line counts))) (step-repaired cost range.0) ∙ run-counts cost 0 counted.0 [] counts counted.1;
      open_stage = record { path = refl; split = refl; leaf = refl };
      is = refl;
    }
run-claim InfeasibleClaim spellable range = record {
  stage = AtPaths;
  cost = None;
  counts = [];
  least = 0;
  runs = ap (option_and_then (λ (t : SoFar). run step t [])) (step-line claim_start Infeasible [] tt);
  open_stage = record { path = refl; split = refl; leaf = refl };
  is = refl;
}

step-path : (stage : Stage) (cost : Option ℕ) (counts : List (VarNo × ℕ)) (least : ℕ) (paths : List Listed) (path : Listed) → IsOpen stage → FitsPath path
    → step (at_tree stage cost counts least paths [] 1) (path_line path) ≡ Some (at_tree AtPaths cost counts least (paths ++ path ∷ []) [] 1)
step-path stage cost counts least paths path is fits =
    let words : Words = side_word path.side ∷ decimal path.corner.0 ∷ pin_words path.pins in
    step-line (at_tree stage cost counts least paths [] 1) Path words (plain-path path fits)
    ∙ ap (λ (o : Option Stage). o >>= (λ t. fill (at_tree t cost counts least paths [] 1) Path words)) is.path
    ∙ ap (λ (o : Option Listed). o >>= (λ p. Some (at_tree AtPaths cost counts least (paths ++ p ∷ []) [] 1))) (path_in-words path fits)

abbrev stage_behind : {X : Type 0} → Stage → List X → Stage → Stage
stage_behind stage [] to = stage
stage_behind stage (x ∷ xs) to = to

behind-same : {X : Type 0} (stage : Stage) (xs : List X) → stage_behind stage xs stage ≡ stage
behind-same stage [] = refl
behind-same stage (x ∷ xs) = refl

open-behind : {X : Type 0} (stage : Stage) (xs : List X) → IsOpen stage → IsOpen (stage_behind stage xs AtPaths)
open-behind stage [] h = h
open-behind stage (x ∷ xs) h = record { path = refl; split = refl; leaf = refl }

run-paths : (stage : Stage) (cost : Option ℕ) (counts : List (VarNo × ℕ)) (least : ℕ) (paths more : List Listed) → IsOpen stage → AllByRecursion FitsPath more
    → run step (at_tree stage cost counts least paths [] 1) (map path_line more) ≡ Some (at_tree (stage_behind stage more AtPaths) cost counts least (paths ++ more) [] 1)
run-paths stage cost counts least paths [] is fits = ap (λ (ps : List Listed). Some (at_tree stage cost counts least ps [] 1)) (sym (append-nil paths))
run-paths stage cost counts least paths (path ∷ more) is fits =
    ap (option_and_then (λ (t : SoFar). run step t (map path_line more))) (step-path stage cost counts least paths path is fits.0)
    ∙ run-paths AtPaths cost counts least (paths ++ path ∷ []) more (record { path = refl; split = refl; leaf = refl }) fits.1
    ∙ ap (λ (ps : List Listed). Some (at_tree (stage_behind AtPaths more AtPaths) cost counts least ps [] 1)) (append_assoc paths (path ∷ []) more)
    ∙ ap (λ (t : Stage). Some (at_tree t cost counts least (paths ++ path ∷ more) [] 1)) (behind-same AtPaths more)

-- nodes may stand
record IsNodeStage (stage : Stage) : Type 0 where
  split : next_stage stage Split ≡ Some AtTree
  leaf : next_stage stage Leaf ≡ Some AtTree

added : (cost : Option ℕ) (counts : List (VarNo × ℕ)) (least : ℕ) (paths : List Listed) (nodes : List Node) (open_trees : ℕ) (node : Node) → (open_trees == 0) ≡ false
    → add_node (at_tree AtTree cost counts least paths nodes open_trees) node ≡ Some (at_tree AtTree cost counts least paths (nodes ++ node ∷ []) (trees_after open_trees node))
added cost counts least paths nodes open_trees node some = rw some refl

step-node : (stage : Stage) (cost : Option ℕ) (counts : List (VarNo × ℕ)) (least : ℕ) (paths : List Listed) (nodes : List Node) (open_trees : ℕ) (node : Node) → IsNodeStage stage
    → FitsNode (most_scale cost) (length paths) node → (open_trees == 0) ≡ false
    → step (at_tree stage cost counts least paths nodes open_trees) (node_line node)
    ≡ Some (at_tree AtTree cost counts least paths (nodes ++ node ∷ []) (trees_after open_trees node))
step-node stage cost counts least paths nodes open_trees (SplitNode var at) is fits some =
    let words : Words = decimal var.0 ∷ decimal at ∷ [] in
    let below = fits.0 in let place = fits.1 in
    step-line (at_tree stage cost counts least paths nodes open_trees) Split words (plain-decimal var.0 (omega (arith, below)), (plain-decimal at (omega (arith, place)), tt))
    ∙ ap (λ (o : Option Stage). o >>= (λ t. fill (at_tree t cost counts least paths nodes open_trees) Split words)) is.split
    ∙ ap (λ (o : Option Node). o >>= add_node (at_tree AtTree cost counts least paths nodes open_trees)) (split_in-words var at below place)
    ∙ added cost counts least paths nodes open_trees (SplitNode var at) some
step-node stage cost counts least paths nodes open_trees (LeafNode leaf) is fits some =
    let words : Words = leaf_words leaf in
    step-line (at_tree stage cost counts least paths nodes open_trees) Leaf words (plain-leaf (most_scale cost) (length paths) leaf fits)
    ∙ ap (λ (o : Option Stage). o >>= (λ t. fill (at_tree t cost counts least paths nodes open_trees) Leaf words)) is.leaf
    ∙ ap (λ (o : Option ProofLeaf). o >>= (λ l. add_node (at_tree AtTree cost counts least paths nodes open_trees) (LeafNode l))) (leaf_in-words (most_scale cost) (length paths) leaf fits)
    ∙ added cost counts least paths nodes open_trees (LeafNode leaf) some

run-nodes : (stage : Stage) (cost : Option ℕ) (counts : List (VarNo × ℕ)) (least : ℕ) (paths : List Listed) (nodes more : List Node) (open_trees left : ℕ) → IsNodeStage stage
    → AllByRecursion (FitsNode (most_scale cost) (length paths)) more → wanted open_trees more ≡ Some left
    → run step (at_tree stage cost counts least paths nodes open_trees) (map node_line more) ≡ Some (at_tree (stage_behind stage more AtTree) cost counts least paths (nodes ++ more) left)
run-nodes stage cost counts least paths nodes [] open_trees left is fits want =
    ap (λ (n : ℕ). Some (at_tree stage cost counts least paths nodes n)) (same_Some open_trees left want)
    ∙ ap (λ (ns : List Node). Some (at_tree stage cost counts least paths ns left)) (sym (append-nil nodes))
run-nodes stage cost counts least paths nodes (node ∷ more) open_trees left is fits want =
    by (open_trees == 0) refl want
    (λ w. run-nodes AtTree cost counts least paths (nodes ++ node ∷ []) more (trees_after open_trees node) left (record { split = refl; leaf = refl }) fits.1 w)
  where
    by : (t : Bool) → (open_trees == 0) ≡ t → cond t None (wanted (trees_after open_trees node) more) ≡ Some left
        → (wanted (trees_after open_trees node) more ≡ Some left
        → run step (at_tree AtTree cost counts least paths (nodes ++ node ∷ []) (trees_after open_trees node)) (map node_line more)
        ≡ Some (at_tree (stage_behind AtTree more AtTree) cost counts least paths ((nodes ++ node ∷ []) ++ more) left))
        → run step (at_tree stage cost counts least paths nodes open_trees) (map node_line (node ∷ more)) ≡ Some (at_tree AtTree cost counts least paths (nodes ++ node ∷ more) left)
    by true is_zero e rest = absurd (none-some left e)
    by false some e rest =
        ap (option_and_then (λ (t : SoFar). run step t (map node_line more))) (step-node stage cost counts least paths nodes open_trees node is fits.0 some)
        ∙ rest e
        ∙ ap (λ (t : Stage). Some (at_tree t cost counts least paths ((nodes ++ node ∷ []) ++ more) left)) (behind-same AtTree more)
        ∙ ap (λ (ns : List Node). Some (at_tree AtTree cost counts least paths ns left)) (append_assoc nodes (node ∷ []) more)

tree-behind : (stage : Stage) (tree : ProofTree) → stage_behind stage (preorder tree) AtTree ≡ AtTree
tree-behind stage (Ends leaf) = refl
tree-behind stage (Splits var at lower upper) = refl

-- what all lines of a certificate are read as
pub record Finished (certificate : Certificate) (lines : Lines) : Type 0 where
  pub s : SoFar
  pub runs : run step start lines ≡ Some s
  pub done : s.stage ≡ Whole
  pub claim : claim_by s.cost s.counts ≡ certificate.claim
  pub paths : s.paths ≡ certificate.paths
  pub nodes : s.nodes ≡ preorder certificate.tree

run-joined : (s t : SoFar) (lines more : Lines) → run step s lines ≡ Some t → run step s (lines ++ more) ≡ run step t more
run-joined s t lines more h = run-append step s lines more ∙ ap (option_and_then (λ (x : SoFar). run step x more)) h

pub run-certificate : (certificate : Certificate) (lines : Lines) → IsLinesOf lines certificate → Finished certificate lines
run-certificate certificate lines h =
    let claim = run-claim certificate.claim h.spellable.claim h.in_range.claim in
    let nodes : List Node = preorder certificate.tree in
    let paths : List Listed = certificate.paths in
    let behind : Stage = stage_behind claim.stage paths AtPaths in
    let is_open : IsOpen behind = open-behind claim.stage paths claim.open_stage in
    let spelled = subst (λ (c : Claim). All (IsSpellableNode c (length paths)) nodes) (sym claim.is) h.spellable.nodes in
    let fit = nodes-fit claim.cost claim.counts (length paths) nodes spelled h.in_range.nodes in
    let one : wanted 1 nodes ≡ Some 0 = ap (wanted 1) (sym (append-nil nodes)) ∙ wanted-preorder certificate.tree 0 [] in
    let of_paths = run-joined claim_start (at_tree claim.stage claim.cost claim.counts claim.least [] [] 1) (claim_lines certificate.claim) (map path_line paths) claim.runs
    ∙ run-paths claim.stage claim.cost claim.counts claim.least [] paths claim.open_stage (paths-fit paths h.spellable.paths h.in_range.paths) in
    let of_nodes = run-joined claim_start (at_tree behind claim.cost claim.counts claim.least paths [] 1) (claim_lines certificate.claim ++ map path_line paths) (map node_line nodes) of_paths
    ∙ run-nodes behind claim.cost claim.counts claim.least paths [] nodes 1 0 (record { split = is_open.split; leaf = is_open.leaf }) fit one
    ∙ ap (λ (t : Stage). Some (at_tree t claim.cost claim.counts claim.least paths nodes 0)) (tree-behind behind certificate.tree) in
    let of_end = run-joined claim_start (at_tree AtTree claim.cost claim.counts claim.least paths nodes 0) (claim_lines certificate.claim ++ map path_line paths ++ map node_line nodes) (end_line ∷ []) of_nodes
    ∙ ap (option_and_then (λ (t : SoFar). run step t [])) (step-line (at_tree AtTree claim.cost claim.counts claim.least paths nodes 0) End [] tt) in
    let of_all : run step start (certificate_lines certificate) ≡ Some (at_tree Whole claim.cost claim.counts claim.least paths nodes 0) =
    ap (option_and_then (λ (t : SoFar). run step t (claim_lines certificate.claim ++ map path_line paths ++ map node_line nodes ++ end_line ∷ []))) step-head ∙ of_end in
    record {
      s = at_tree Whole claim.cost claim.counts claim.least paths nodes 0;
      runs = ap (run step start) (sym h.is) ∙ of_all;
      done = refl;
      claim = claim.is;
      paths = refl;
      nodes = refl;
    }

-- a certificate's lines are lines
count-lines : (least next : ℕ) (counts : List (VarNo × ℕ)) → CountedTo least counts next → AreLines (map count_line counts)
count-lines least next [] fits = tt
count-lines least next (counted ∷ counts) fits =
    (spaced-line (kind_word Count ∷ decimal counted.0.0 ∷ decimal counted.1 ∷ []) (plain-word Count, plain-count counted fits.1), count-lines (counted.0.0 + 1) next counts fits.2)

claim-are_lines : (claim : Claim) → IsSpellableClaim claim → IsClaimInRange claim → AreLines (claim_lines claim)
claim-are_lines (RepairedClaim cost counts) spellable range =
    let counted = spellable-counted counts spellable range.1 in
    (spaced-line (kind_word Repaired ∷ decimal cost ∷ []) (plain-word Repaired, (plain-decimal cost range.0, tt)), count-lines 0 counted.0 counts counted.1)
claim-are_lines InfeasibleClaim spellable range = (spaced-line (kind_word Infeasible ∷ []) (plain-word Infeasible, tt), tt)

node-is_line : (most paths : ℕ) (node : Node) → FitsNode most paths node → IsLine (node_line node)
node-is_line most paths (SplitNode var at) fits =
    let below = fits.0 in let place = fits.1 in
    spaced-line (kind_word Split ∷ decimal var.0 ∷ decimal at ∷ [])
    (plain-word Split, (plain-decimal var.0 (omega (arith, below)), (plain-decimal at (omega (arith, place)), tt)))
node-is_line most paths (LeafNode leaf) fits = spaced-line (kind_word Leaf ∷ leaf_words leaf) (plain-word Leaf, plain-leaf most paths leaf fits)

pub certificate-are_lines : (lines : Lines) → IsCertificate lines → AreLines lines
certificate-are_lines lines whole =
    let certificate : Certificate = whole.0 in
    let h : IsLinesOf lines certificate = whole.1 in
    let claim = run-claim certificate.claim h.spellable.claim h.in_range.claim in
    let nodes : List Node = preorder certificate.tree in
    let spelled = subst (λ (c : Claim). All (IsSpellableNode c (length certificate.paths)) nodes) (sym claim.is) h.spellable.nodes in
    let fit = nodes-fit claim.cost claim.counts (length certificate.paths) nodes spelled h.in_range.nodes in
    let path_lines = AllByRecursion-map IsLine path_line certificate.paths
    (AllByRecursion-weaken FitsPath (λ path. IsLine (path_line path))
    (λ path f. spaced-line (kind_word Path ∷ side_word path.side ∷ decimal path.corner.0 ∷ pin_words path.pins) (plain-word Path, plain-path path f))
    certificate.paths (paths-fit certificate.paths h.spellable.paths h.in_range.paths)) in
    let node_lines = AllByRecursion-map IsLine node_line nodes
    (AllByRecursion-weaken (FitsNode (most_scale claim.cost) (length certificate.paths)) (λ node. IsLine (node_line node))
    (λ node f. node-is_line (most_scale claim.cost) (length certificate.paths) node f) nodes fit) in
    let claims = claim-are_lines certificate.claim h.spellable.claim h.in_range.claim in
    let front = AllByRecursion-append IsLine (claim_lines certificate.claim) (map path_line certificate.paths) claims path_lines in
    let all = AllByRecursion-append IsLine (claim_lines certificate.claim ++ map path_line certificate.paths) (map node_line nodes) front node_lines in
    let ended_all = AllByRecursion-append IsLine (claim_lines certificate.claim ++ map path_line certificate.paths ++ map node_line nodes) (end_line ∷ []) all
    (spaced-line (kind_word End ∷ []) (plain-word End, tt), tt) in
    subst AreLines h.is (spaced-line (kind_word Head ∷ codes "1" ∷ []) (plain-word Head, plain-one), ended_all)

next-whole : (kind : Kind) → next_stage Whole kind ≡ None
next-whole Head = refl
next-whole Repaired = refl
next-whole Infeasible = refl
next-whole Count = refl
next-whole Path = refl
next-whole Split = refl
next-whole Leaf = refl
next-whole End = refl

-- nothing is taken behind the end
step-whole : (s : SoFar) (line : List ℕ) → s.stage ≡ Whole → step s line ≡ None
step-whole s line whole = by (kind_in (words_of line))
  where
    by : (found : Option (Kind × Words)) → (found >>= (λ kind. next_stage s.stage kind.0 >>= (λ stage. fill (record s { stage = stage }) kind.0 kind.1))) ≡ None
    by None = refl
    by (Some kind) =
        ap (λ (o : Option Stage). o >>= (λ stage. fill (record s { stage = stage }) kind.0 kind.1)) (ap (λ (t : Stage). next_stage t kind.0) whole ∙ next-whole kind.0)

abbrev pub IsWhole : SoFar → Type 0
IsWhole s = s.stage ≡ Whole

pub certificates-accepted : Accepts step start IsWhole IsCertificate
certificates-accepted = record {
  of_lines = certificate-are_lines;
  takes = λ all whole. let f = run-certificate whole.0 all whole.1 in (f.s, f.runs, f.done);
  ends = step-whole;
}
