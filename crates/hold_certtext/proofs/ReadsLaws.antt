-- What was read so far spells the lines that were taken, fits, and can be completed to a certificate.
use Rattle.std.proofs.Common.{◌≡◌, ℕ, ◌+◌, ◌<◌, ◌≤◌, List, [], ◌∷◌, ◌++◌, Bool, true, false, cond, length, map, refl, sym, ap, subst, ◌∙◌, arith, append_assoc, append-nil}
use Rattle.std.specs.Prelude.{◌^◌, ◌==◌, ◌&&◌, Option, None, Some, IsSome, IfSome, codes, decimal, nat_le}
use Rattle.std.specs.List.{AllByRecursion}
use Rattle.std.proofs.lemmas.Bool.{and_parts}
use Rattle.std.proofs.lemmas.Bool.Decides.{nat_tests}
use Rattle.std.proofs.lemmas.List.{map-append}
use Rattle.std.proofs.lemmas.Option.{none-some, same_Some}
use Rattle.hold_base.proofs.Lists.{AllByRecursion-append}
use Rattle.hold_base.proofs.Options.{option_and_then-Some}
use Rattle.hold_base.specs.declared.number.VarNo.{VarNo}
use Rattle.hold_graph.specs.declared.problem.Listed.{Listed}
use Rattle.hold_proof.specs.declared.node.Leaf.{Leaf as ProofLeaf}
use Rattle.hold_proof.specs.declared.node.Node.{Node}
use Rattle.hold_proof.specs.declared.node.Node.TheVariants.{Leaf as LeafNode, Split as SplitNode}
use Rattle.hold_certtext.specs.Lines.{spaced}
use Rattle.hold_certtext.specs.CertificateText.{head_line, end_line, claim_lines, count_line, path_line, node_line}
use Rattle.hold_certtext.specs.declared.kind.Kind.{Kind}
use Rattle.hold_certtext.specs.declared.kind.Kind.TheVariants.{Head, Repaired, Infeasible, Count, Path, Split, Leaf, End}
use Rattle.hold_certtext.specs.declared.stage.Stage.{Stage}
use Rattle.hold_certtext.specs.declared.stage.Stage.TheVariants.{Head as AtHead, Claim as AtClaim, Counts as AtCounts, Paths as AtPaths, Tree as AtTree, Whole}
use Rattle.hold_certtext.specs.inner.Words.{is_nil, is_word}
use Rattle.hold_certtext.specs.inner.Parsing.{cost_in, count_in, path_in, split_in, leaf_in}
use Rattle.hold_certtext.specs.inner.Reading.{SoFar, start, next_stage, fill, step, add_count, add_node, most_scale, trees_after, wanted, claim_by}
use Rattle.hold_certtext.proofs.GuardLemmas.{guard-Some}
use Rattle.hold_certtext.proofs.KindLaws.{kind_word, step-back}
use Rattle.hold_certtext.proofs.LeafLaws.{leaf_in-back}
use Rattle.hold_certtext.proofs.PartLaws.{is_word-back, Words, nil-is, cost_in-back, count_in-back, FitsPath, path_in-back, split_in-back}
use Rattle.hold_certtext.proofs.SpellableLaws.{CountedTo, CountedTo-push, FitsNode}
use Rattle.hold_certtext.proofs.TreeLemmas.{wanted-push}

abbrev Lines : Type 0
Lines = List (List ℕ)

-- the lines behind the head
abbrev pub body : Option ℕ → List (VarNo × ℕ) → List Listed → List Node → Lines
body cost counts paths nodes = claim_lines (claim_by cost counts) ++ map path_line paths ++ map node_line nodes

abbrev pub body_of : SoFar → Lines
body_of s = body s.cost s.counts s.paths s.nodes

-- the lines that were taken, by the stage
abbrev pub lines_at : Stage → SoFar → Lines
lines_at AtHead s = []
lines_at AtClaim s = head_line ∷ []
lines_at AtCounts s = head_line ∷ body_of s
lines_at AtPaths s = head_line ∷ body_of s
lines_at AtTree s = head_line ∷ body_of s
lines_at Whole s = head_line ∷ (body_of s ++ end_line ∷ [])

abbrev pub claim_start : SoFar
claim_start = record start { stage = AtClaim }

-- what holds of the parts, by the stage
abbrev pub IsAt : Stage → SoFar → Type 0
IsAt AtHead s = s ≡ start
IsAt AtClaim s = s ≡ claim_start
IsAt AtCounts s = IsSome s.cost × (s.paths ≡ []) × (s.nodes ≡ [])
IsAt AtPaths s = s.nodes ≡ []
IsAt AtTree s = Unit {0}
IsAt Whole s = s.open_trees ≡ 0

pub record IsSound (s : SoFar) : Type 0 where
  pub cost : IfSome s.cost (λ cost. cost < 2 ^ 64)
  pub counts : CountedTo 0 s.counts s.least
  pub paths : AllByRecursion FitsPath s.paths
  pub nodes : AllByRecursion (FitsNode (most_scale s.cost) (length s.paths)) s.nodes
  pub trees : wanted 1 s.nodes ≡ Some s.open_trees

pub record Reads (s : SoFar) (lines : Lines) : Type 0 where
  pub are : lines_at s.stage s ≡ lines
  pub at : IsAt s.stage s
  pub sound : IsSound s

-- one line more
abbrev with_line : Lines → List ℕ → Lines
with_line lines line = lines ++ line ∷ []

line-same : (whole before lines : Lines) (line spelled : List ℕ) → whole ≡ with_line before spelled → before ≡ lines → line ≡ spelled → whole ≡ with_line lines line
line-same whole before lines line spelled is same spell = is ∙ ap (λ (ls : Lines). with_line ls spelled) same ∙ ap (with_line lines) (sym spell)

body-count : (cost : Option ℕ) (counts : List (VarNo × ℕ)) (counted : VarNo × ℕ) (paths : List Listed) (nodes : List Node) → IsSome cost → paths ≡ [] → nodes ≡ []
    → body cost (counts ++ counted ∷ []) paths nodes ≡ with_line (body cost counts paths nodes) (count_line counted)
body-count None counts counted paths nodes some no_paths no_nodes = absurd cc
body-count (Some cost) counts counted (path ∷ paths) nodes some no_paths no_nodes = absurd cc
body-count (Some cost) counts counted [] (node ∷ nodes) some no_paths no_nodes = absurd cc
body-count (Some cost) counts counted [] [] some no_paths no_nodes =
    let before : Lines = claim_lines (claim_by (Some cost) counts) in
    let after : Lines = claim_lines (claim_by (Some cost) (counts ++ counted ∷ [])) in
    append-nil (after ++ []) ∙ append-nil after ∙ ap (λ (ls : Lines). spaced (codes "repaired" ∷ decimal cost ∷ []) ∷ ls) (map-append count_line counts (counted ∷ []))
    ∙ sym (ap (λ (ls : Lines). with_line ls (count_line counted)) (append-nil (before ++ []) ∙ append-nil before))

body-path : (cost : Option ℕ) (counts : List (VarNo × ℕ)) (paths : List Listed) (path : Listed) (nodes : List Node) → nodes ≡ []
    → body cost counts (paths ++ path ∷ []) nodes ≡ with_line (body cost counts paths nodes) (path_line path)
body-path cost counts paths path (node ∷ nodes) none = absurd cc
body-path cost counts paths path [] none =
    let claim : Lines = claim_lines (claim_by cost counts) in
    append-nil (claim ++ map path_line (paths ++ path ∷ []))
    ∙ ap (λ (ls : Lines). claim ++ ls) (map-append path_line paths (path ∷ []))
    ∙ sym (append_assoc claim (map path_line paths) (path_line path ∷ []))
    ∙ ap (λ (ls : Lines). with_line ls (path_line path)) (sym (append-nil (claim ++ map path_line paths)))

body-node : (cost : Option ℕ) (counts : List (VarNo × ℕ)) (paths : List Listed) (nodes : List Node) (node : Node) →
    body cost counts paths (nodes ++ node ∷ []) ≡ with_line (body cost counts paths nodes) (node_line node)
body-node cost counts paths nodes node =
    let front : Lines = claim_lines (claim_by cost counts) ++ map path_line paths in
    ap (λ (ls : Lines). front ++ ls) (map-append node_line nodes (node ∷ [])) ∙ sym (append_assoc front (map node_line nodes) (node_line node ∷ []))

-- the same of the state that a step gives
moved : (made next : SoFar) (lines : Lines) → made ≡ next → Reads made lines → Reads next lines
moved made next lines same h = subst (λ (s : SoFar). Reads s lines) same h

head-reads : (s next : SoFar) (words : Words) (lines : Lines) → s ≡ start → [] ≡ lines → fill (record s { stage = AtClaim }) Head words ≡ Some next
    → Reads next (with_line lines (spaced (kind_word Head ∷ words)))
head-reads s next words lines at are filled =
    let kept = guard-Some (is_word (codes "1") words) (record s { stage = AtClaim }) next filled in
    let words_are = is_word-back (codes "1") words kept.0 in
    moved claim_start next (with_line lines (spaced (kind_word Head ∷ words)))
    (sym (ap (λ (t : SoFar). record t { stage = AtClaim }) at) ∙ kept.1)
    (record {
      are = line-same (head_line ∷ []) [] lines (spaced (kind_word Head ∷ words)) head_line refl are (ap (λ (ws : Words). spaced (kind_word Head ∷ ws)) words_are);
      at = refl;
      sound = record { cost = tt; counts = refl; paths = tt; nodes = tt; trees = refl };
    })

cost-reads : (s next : SoFar) (words : Words) (lines : Lines) → s ≡ claim_start → head_line ∷ [] ≡ lines → fill (record s { stage = AtCounts }) Repaired words ≡ Some next
    → Reads next (with_line lines (spaced (kind_word Repaired ∷ words)))
cost-reads s next words lines at are filled =
    let here : fill (record claim_start { stage = AtCounts }) Repaired words ≡ Some next =
    ap (λ (t : SoFar). fill (record t { stage = AtCounts }) Repaired words) (sym at) ∙ filled in
    let cost = option_and_then-Some (λ (c : ℕ). Some (record claim_start { stage = AtCounts; cost = Some c })) (cost_in words) next here in
    let made : SoFar = record claim_start { stage = AtCounts; cost = Some cost.0 } in
    let back = cost_in-back words cost.0 cost.1 in
    let spelled : List ℕ = spaced (codes "repaired" ∷ decimal cost.0 ∷ []) in
    moved made next (with_line lines (spaced (kind_word Repaired ∷ words))) (same_Some made next cost.2)
    (record {
      are = line-same (head_line ∷ spelled ∷ []) (head_line ∷ []) lines (spaced (kind_word Repaired ∷ words)) spelled refl are
          (ap (λ (ws : Words). spaced (kind_word Repaired ∷ ws)) back.0);
      at = (refl, refl, refl);
      sound = record { cost = back.1; counts = refl; paths = tt; nodes = tt; trees = refl };
    })

infeasible-reads : (s next : SoFar) (words : Words) (lines : Lines) → s ≡ claim_start → head_line ∷ [] ≡ lines → fill (record s { stage = AtPaths }) Infeasible words ≡ Some next
    → Reads next (with_line lines (spaced (kind_word Infeasible ∷ words)))
infeasible-reads s next words lines at are filled =
    let kept = guard-Some (is_nil words) (record s { stage = AtPaths }) next filled in
    let spelled : List ℕ = spaced (codes "infeasible" ∷ []) in
    moved (record claim_start { stage = AtPaths }) next (with_line lines (spaced (kind_word Infeasible ∷ words)))
    (sym (ap (λ (t : SoFar). record t { stage = AtPaths }) at) ∙ kept.1)
    (record {
      are = line-same (head_line ∷ spelled ∷ []) (head_line ∷ []) lines (spaced (kind_word Infeasible ∷ words)) spelled refl are
          (ap (λ (ws : Words). spaced (kind_word Infeasible ∷ ws)) (nil-is words kept.0));
      at = refl;
      sound = record { cost = tt; counts = refl; paths = tt; nodes = tt; trees = refl };
    })

count-reads : (s next : SoFar) (words : Words) (lines : Lines) → IsAt AtCounts s → IsSound s → head_line ∷ body_of s ≡ lines
    → fill (record s { stage = AtCounts }) Count words ≡ Some next → Reads next (with_line lines (spaced (kind_word Count ∷ words)))
count-reads s next words lines at sound are filled =
    let counted = option_and_then-Some (add_count (record s { stage = AtCounts })) (count_in words) next filled in
    let made : SoFar = record s { stage = AtCounts; counts = s.counts ++ counted.0 ∷ []; least = counted.0.0.0 + 1 } in
    let kept = guard-Some (nat_le s.least counted.0.0.0) made next counted.2 in
    let back = count_in-back words counted.0 counted.1 in
    let test : nat_le s.least counted.0.0.0 ≡ true = kept.0 in
    let low : s.least ≤ counted.0.0.0 = grind (arith, nat_tests) in
    moved made next (with_line lines (spaced (kind_word Count ∷ words))) kept.1
    (record {
      are = line-same (head_line ∷ body_of made) (head_line ∷ body_of s) lines (spaced (kind_word Count ∷ words)) (count_line counted.0)
          (ap (λ (ls : Lines). head_line ∷ ls) (body-count s.cost s.counts counted.0 s.paths s.nodes at.0 at.1 at.2)) are
          (ap (λ (ws : Words). spaced (kind_word Count ∷ ws)) back.0);
      at = at;
      sound = record {
        cost = sound.cost;
        counts = CountedTo-push 0 s.least s.counts counted.0 sound.counts low back.1;
        paths = sound.paths;
        nodes = sound.nodes;
        trees = sound.trees;
      };
    })

no-nodes : (most paths : ℕ) (nodes : List Node) → nodes ≡ [] → AllByRecursion (FitsNode most paths) nodes
no-nodes most paths [] none = tt
no-nodes most paths (node ∷ nodes) none = absurd cc

path-reads : (s next : SoFar) (words : Words) (lines : Lines) → s.nodes ≡ [] → IsSound s → head_line ∷ body_of s ≡ lines
    → fill (record s { stage = AtPaths }) Path words ≡ Some next → Reads next (with_line lines (spaced (kind_word Path ∷ words)))
path-reads s next words lines none sound are filled =
    let path = option_and_then-Some (λ (p : Listed). Some (record s { stage = AtPaths; paths = s.paths ++ p ∷ [] })) (path_in words) next filled in
    let made : SoFar = record s { stage = AtPaths; paths = s.paths ++ path.0 ∷ [] } in
    let back = path_in-back words path.0 path.1 in
    moved made next (with_line lines (spaced (kind_word Path ∷ words))) (same_Some made next path.2)
    (record {
      are = line-same (head_line ∷ body_of made) (head_line ∷ body_of s) lines (spaced (kind_word Path ∷ words)) (path_line path.0)
          (ap (λ (ls : Lines). head_line ∷ ls) (body-path s.cost s.counts s.paths path.0 s.nodes none)) are
          (ap (λ (ws : Words). spaced (kind_word Path ∷ ws)) back.0);
      at = none;
      sound = record {
        cost = sound.cost;
        counts = sound.counts;
        paths = AllByRecursion-append FitsPath s.paths (path.0 ∷ []) sound.paths (back.1, tt);
        nodes = no-nodes (most_scale s.cost) (length (s.paths ++ path.0 ∷ [])) s.nodes none;
        trees = sound.trees;
      };
    })

node-reads : (s next : SoFar) (node : Node) (lines : Lines) (line : List ℕ) → IsSound s → head_line ∷ body_of s ≡ lines
    → FitsNode (most_scale s.cost) (length s.paths) node → line ≡ node_line node → add_node (record s { stage = AtTree }) node ≡ Some next → Reads next (with_line lines line)
node-reads s next node lines line sound are fits spelled added = by (s.open_trees == 0) refl added
  where
    by : (t : Bool) → (s.open_trees == 0) ≡ t
        → cond t None (Some (record s { stage = AtTree; nodes = s.nodes ++ node ∷ []; open_trees = trees_after s.open_trees node })) ≡ Some next → Reads next (with_line lines line)
    by true is e = absurd (none-some next e)
    by false is e =
        let now : SoFar = record s { stage = AtTree; nodes = s.nodes ++ node ∷ []; open_trees = trees_after s.open_trees node } in
        moved now next (with_line lines line) (same_Some now next e)
        (record {
          are = line-same (head_line ∷ body_of now) (head_line ∷ body_of s) lines line (node_line node)
              (ap (λ (ls : Lines). head_line ∷ ls) (body-node s.cost s.counts s.paths s.nodes node)) are spelled;
          at = tt;
          sound = record {
            cost = sound.cost;
            counts = sound.counts;
            paths = sound.paths;
            nodes = AllByRecursion-append (FitsNode (most_scale s.cost) (length s.paths)) s.nodes (node ∷ []) sound.nodes (fits, tt);
            trees = wanted-push 1 s.open_trees s.nodes node sound.trees is;
          };
        })

split-reads : (s next : SoFar) (words : Words) (lines : Lines) → IsSound s → head_line ∷ body_of s ≡ lines
    → fill (record s { stage = AtTree }) Split words ≡ Some next → Reads next (with_line lines (spaced (kind_word Split ∷ words)))
split-reads s next words lines sound are filled =
    let node = option_and_then-Some (add_node (record s { stage = AtTree })) (split_in words) next filled in
    let back = split_in-back words node.0 node.1 in
    let made : Node = SplitNode back.var back.at in
    node-reads s next made lines (spaced (kind_word Split ∷ words)) sound are (back.below, back.place) (ap (λ (ws : Words). spaced (kind_word Split ∷ ws)) back.words_are)
    (ap (add_node (record s { stage = AtTree })) (sym back.is) ∙ node.2)

leaf-reads : (s next : SoFar) (words : Words) (lines : Lines) → IsSound s → head_line ∷ body_of s ≡ lines
    → fill (record s { stage = AtTree }) Leaf words ≡ Some next → Reads next (with_line lines (spaced (kind_word Leaf ∷ words)))
leaf-reads s next words lines sound are filled =
    let leaf = option_and_then-Some (λ (l : ProofLeaf). add_node (record s { stage = AtTree }) (LeafNode l)) (leaf_in (length s.paths) (most_scale s.cost) words) next filled in
    let back = leaf_in-back (most_scale s.cost) (length s.paths) words leaf.0 leaf.1 in
    node-reads s next (LeafNode leaf.0) lines (spaced (kind_word Leaf ∷ words)) sound are back.1 (ap (λ (ws : Words). spaced (kind_word Leaf ∷ ws)) back.0) leaf.2

end-reads : (s next : SoFar) (words : Words) (lines : Lines) → IsSound s → head_line ∷ body_of s ≡ lines
    → fill (record s { stage = Whole }) End words ≡ Some next → Reads next (with_line lines (spaced (kind_word End ∷ words)))
end-reads s next words lines sound are filled =
    let made : SoFar = record s { stage = Whole } in
    let kept = guard-Some (is_nil words && s.open_trees == 0) made next filled in
    let tests = and_parts (is_nil words) (s.open_trees == 0) kept.0 in
    let none : (s.open_trees == 0) ≡ true = tests.1 in
    moved made next (with_line lines (spaced (kind_word End ∷ words))) kept.1
    (record {
      are = line-same (head_line ∷ (body_of s ++ end_line ∷ [])) (head_line ∷ body_of s) lines (spaced (kind_word End ∷ words)) end_line refl are
          (ap (λ (ws : Words). spaced (kind_word End ∷ ws)) (nil-is words tests.0));
      at = grind (arith, nat_tests);
      sound = record { cost = sound.cost; counts = sound.counts; paths = sound.paths; nodes = sound.nodes; trees = sound.trees };
    })

filled-reads : (stage : Stage) (kind : Kind) (to : Stage) (s next : SoFar) (words : Words) (lines : Lines) → lines_at stage s ≡ lines → IsAt stage s → IsSound s
    → next_stage stage kind ≡ Some to → fill (record s { stage = to }) kind words ≡ Some next → Reads next (with_line lines (spaced (kind_word kind ∷ words)))
filled-reads AtHead Head to s next words lines are at sound table filled =
    head-reads s next words lines at are (ap (λ (t : Stage). fill (record s { stage = t }) Head words) (same_Some AtClaim to table) ∙ filled)
filled-reads AtClaim Repaired to s next words lines are at sound table filled =
    cost-reads s next words lines at are (ap (λ (t : Stage). fill (record s { stage = t }) Repaired words) (same_Some AtCounts to table) ∙ filled)
filled-reads AtClaim Infeasible to s next words lines are at sound table filled =
    infeasible-reads s next words lines at are (ap (λ (t : Stage). fill (record s { stage = t }) Infeasible words) (same_Some AtPaths to table) ∙ filled)
filled-reads AtCounts Count to s next words lines are at sound table filled =
    count-reads s next words lines at sound are (ap (λ (t : Stage). fill (record s { stage = t }) Count words) (same_Some AtCounts to table) ∙ filled)
filled-reads AtCounts Path to s next words lines are at sound table filled =
    path-reads s next words lines at.2 sound are (ap (λ (t : Stage). fill (record s { stage = t }) Path words) (same_Some AtPaths to table) ∙ filled)
filled-reads AtPaths Path to s next words lines are at sound table filled =
    path-reads s next words lines at sound are (ap (λ (t : Stage). fill (record s { stage = t }) Path words) (same_Some AtPaths to table) ∙ filled)
filled-reads AtCounts Split to s next words lines are at sound table filled =
    split-reads s next words lines sound are (ap (λ (t : Stage). fill (record s { stage = t }) Split words) (same_Some AtTree to table) ∙ filled)
filled-reads AtPaths Split to s next words lines are at sound table filled =
    split-reads s next words lines sound are (ap (λ (t : Stage). fill (record s { stage = t }) Split words) (same_Some AtTree to table) ∙ filled)
filled-reads AtTree Split to s next words lines are at sound table filled =
    split-reads s next words lines sound are (ap (λ (t : Stage). fill (record s { stage = t }) Split words) (same_Some AtTree to table) ∙ filled)
filled-reads AtCounts Leaf to s next words lines are at sound table filled =
    leaf-reads s next words lines sound are (ap (λ (t : Stage). fill (record s { stage = t }) Leaf words) (same_Some AtTree to table) ∙ filled)
filled-reads AtPaths Leaf to s next words lines are at sound table filled =
    leaf-reads s next words lines sound are (ap (λ (t : Stage). fill (record s { stage = t }) Leaf words) (same_Some AtTree to table) ∙ filled)
filled-reads AtTree Leaf to s next words lines are at sound table filled =
    leaf-reads s next words lines sound are (ap (λ (t : Stage). fill (record s { stage = t }) Leaf words) (same_Some AtTree to table) ∙ filled)
filled-reads AtTree End to s next words lines are at sound table filled =
    end-reads s next words lines sound are (ap (λ (t : Stage). fill (record s { stage = t }) End words) (same_Some Whole to table) ∙ filled)
filled-reads _ _ to s next words lines are at sound table filled = absurd (none-some to table)

-- a line that is taken
pub reads-step : (s next : SoFar) (lines : Lines) (line : List ℕ) → Reads s lines → step s line ≡ Some next → Reads next (lines ++ line ∷ [])
reads-step s next lines line h taken =
    let t = step-back s next line taken in
    let reads = filled-reads s.stage t.kind t.stage s next t.words lines h.are h.at h.sound t.table t.filled in
    subst (λ (l : List ℕ). Reads next (lines ++ l ∷ [])) (sym t.is) reads
