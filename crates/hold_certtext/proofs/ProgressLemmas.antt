-- What holds between two lines of a certificate's text.
use Rattle.std.proofs.Common.{◌≡◌, ◌≢◌, ℕ, ◌+◌, ◌*◌, ◌≤◌, List, [], ◌∷◌, ◌++◌, Bool, true, false, cond, length, map, sym, ap, subst, ◌∙◌, arith, append_assoc, append-nil}
use Rattle.std.specs.Prelude.{◌==◌, Option, None, Some}
use Rattle.std.specs.List.{AllByRecursion}
use Rattle.std.proofs.lemmas.List.{length-append, length-map}
use Rattle.std.proofs.lemmas.Option.{none-some, same_Some}
use Rattle.hold_base.proofs.Lists.{AllByRecursion-append}
use Rattle.hold_base.specs.declared.number.VarNo.{VarNo}
use Rattle.hold_graph.specs.declared.problem.Listed.{Listed}
use Rattle.hold_proof.specs.declared.node.Node.{Node}
use Rattle.hold_proof.specs.declared.node.Node.TheVariants.{Leaf as LeafNode, Split as SplitNode}
use Rattle.hold_certtext.specs.Lines.{IsLine, ended, text_of, IsFirstBad}
use Rattle.hold_certtext.specs.CertificateText.{claim_lines, path_line, node_line, IsCertificate}
use Rattle.hold_certtext.specs.declared.draft.Draft.{Draft}
use Rattle.hold_certtext.specs.declared.stage.Stage.{Stage}
use Rattle.hold_certtext.specs.declared.stage.Stage.TheVariants.{Head as AtHead, Claim as AtClaim, Counts as AtCounts, Paths as AtPaths, Tree as AtTree, Whole}
use Rattle.hold_certtext.specs.inner.Reading.{SoFar, so_far, start, step, wanted, trees_after, claim_by, IsDraftOf}
use Rattle.hold_certtext.proofs.AcceptLaws.{certificates-accepted, IsWhole}
use Rattle.hold_certtext.proofs.CertificateLaws.{whole-text, whole-tree, reads-begins}
use Rattle.hold_certtext.proofs.KindLaws.{step-empty}
use Rattle.hold_certtext.proofs.MachineLemmas.{run, run-push, text_of-push, text_of-long, stuck-first_bad, IsStuck, stuck-line, stuck-unended, stuck-behind}
use Rattle.hold_certtext.proofs.ReadsLaws.{body, lines_at, IsAt, Reads, reads-step}

-- these lines were taken, the rest of the text wasn't yet, and the number is that of the next line
pub record Progress (text rest : List ℕ) (s : SoFar) (number : ℕ) : Type 0 where
  pub lines : List (List ℕ)
  pub split : text ≡ text_of lines ++ rest
  pub runs : run step start lines ≡ Some s
  pub reads : Reads s lines
  pub count : number ≡ length lines + 1
  pub some : AllByRecursion (λ (line : List ℕ). line ≢ []) lines

pub progress-step : (text rest line behind : List ℕ) (s next : SoFar) (number : ℕ) → Progress text rest s number → rest ≡ ended line ++ behind → step s line ≡ Some next
    → Progress text behind next (number + 1)
progress-step text rest line behind s next number h cut taken = record {
  lines = h.lines ++ line ∷ [];
  split = h.split ∙ ap (λ (r : List ℕ). text_of h.lines ++ r) cut ∙ sym (append_assoc (text_of h.lines) (ended line) behind) ∙ ap (λ (t : List ℕ). t ++ behind) (sym (text_of-push h.lines line));
  runs = run-push step start s next h.lines line h.runs taken;
  reads = reads-step s next h.lines line h.reads taken;
  count = let c = h.count in omega (arith, c, length-append h.lines (line ∷ []));
  some = AllByRecursion-append (λ (l : List ℕ). l ≢ []) h.lines (line ∷ []) h.some (step-empty s next line taken, tt);
}

-- the number is small, since no line is empty
pub progress-number : (text rest : List ℕ) (s : SoFar) (number : ℕ) → Progress text rest s number → 2 * number ≤ length text + 2
progress-number text rest s number h =
    let long = text_of-long h.lines h.some in
    let whole = length-append (text_of h.lines) rest in
    let count = h.count in
    omega (arith, long, whole, ap length h.split, count)

wanted-most : (open_trees left : ℕ) (nodes : List Node) → wanted open_trees nodes ≡ Some left → left ≤ open_trees + length nodes
wanted-most open_trees left [] h = omega (arith, same_Some open_trees left h)
wanted-most open_trees left (node ∷ nodes) h = by (open_trees == 0) h (λ e. wanted-most (trees_after open_trees node) left nodes e)
  where
    more : (n : Node) → trees_after open_trees n ≤ open_trees + 1
    more (SplitNode var at) = omega arith
    more (LeafNode leaf) = omega arith

    by : (t : Bool) → cond t None (wanted (trees_after open_trees node) nodes) ≡ Some left
        → (wanted (trees_after open_trees node) nodes ≡ Some left → left ≤ trees_after open_trees node + length nodes) → left ≤ open_trees + length (node ∷ nodes)
    by true e rest = absurd (none-some left e)
    by false e rest = let r = rest e in let m = more node in omega (arith, r, m)

body-long : (cost : Option ℕ) (counts : List (VarNo × ℕ)) (paths : List Listed) (nodes : List Node) → length nodes ≤ length (body cost counts paths nodes)
body-long cost counts paths nodes =
    let whole = length-append (claim_lines (claim_by cost counts) ++ map path_line paths) (map node_line nodes) in
    let nodes_long = length-map nodes node_line in
    omega (arith, whole, nodes_long)

nodes-short : (stage : Stage) (s : SoFar) (lines : List (List ℕ)) → lines_at stage s ≡ lines → IsAt stage s → length s.nodes ≤ length lines
nodes-short AtHead s lines are at = omega (arith, ap (λ (t : SoFar). length t.nodes) at)
nodes-short AtClaim s lines are at = omega (arith, ap (λ (t : SoFar). length t.nodes) at)
nodes-short AtCounts s lines are at = let long = body-long s.cost s.counts s.paths s.nodes in omega (arith, long, ap length are)
nodes-short AtPaths s lines are at = let long = body-long s.cost s.counts s.paths s.nodes in omega (arith, long, ap length are)
nodes-short AtTree s lines are at = let long = body-long s.cost s.counts s.paths s.nodes in omega (arith, long, ap length are)
nodes-short Whole s lines are at =
    let long = body-long s.cost s.counts s.paths s.nodes in
    let whole = length-append (body s.cost s.counts s.paths s.nodes) ((101 ∷ 110 ∷ 100 ∷ []) ∷ []) in
    omega (arith, long, whole, ap length are)

-- no more trees are wanted than there were lines
pub progress-trees : (text rest : List ℕ) (s : SoFar) (number : ℕ) → Progress text rest s number → s.open_trees ≤ number
progress-trees text rest s number h =
    let short = nodes-short s.stage s h.lines h.reads.are h.reads.at in
    let most = wanted-most 1 s.open_trees s.nodes h.reads.sound.trees in
    let count = h.count in
    omega (arith, short, most, count)

-- the reader is stuck at this line
pub progress-stuck : (text rest : List ℕ) (s : SoFar) (number : ℕ) → Progress text rest s number → IsStuck step IsWhole s rest → IsFirstBad IsCertificate text number
progress-stuck text rest s number h stuck =
    subst (IsFirstBad IsCertificate text) (sym h.count)
    (stuck-first_bad step start s IsWhole IsCertificate certificates-accepted text h.lines rest h.split h.runs (reads-begins s h.lines h.reads) stuck)

pub progress-unended : (text rest : List ℕ) (s : SoFar) (number : ℕ) → Progress text rest s number → IsLine rest → (s.stage ≡ Whole → ⊥) → IsFirstBad IsCertificate text number
progress-unended text rest s number h unended more = progress-stuck text rest s number h (stuck-unended step IsWhole s rest unended more)

pub progress-bad : (text rest line behind : List ℕ) (s : SoFar) (number : ℕ) → Progress text rest s number → IsLine line → rest ≡ ended line ++ behind → step s line ≡ None
    → IsFirstBad IsCertificate text number
progress-bad text rest line behind s number h is cut none = progress-stuck text rest s number h (stuck-line step IsWhole s rest line behind is cut none)

pub progress-behind : (text rest : List ℕ) (s : SoFar) (number : ℕ) → Progress text rest s number → s.stage ≡ Whole → rest ≢ [] → IsFirstBad IsCertificate text number
progress-behind text rest s number h whole some = progress-stuck text rest s number h (stuck-behind step start s IsWhole IsCertificate rest certificates-accepted whole some)

-- all was taken
pub progress-whole : (text rest : List ℕ) (draft : Draft) (number : ℕ) → Progress text rest (so_far draft) number → draft.stage ≡ Whole → rest ≡ [] → IsDraftOf text draft
progress-whole text rest draft number h whole none =
    let tree = whole-tree (so_far draft) h.lines h.reads whole in
    let split : text ≡ text_of h.lines = h.split ∙ ap (λ (r : List ℕ). text_of h.lines ++ r) none ∙ append-nil (text_of h.lines) in
    (tree.0, tree.1, whole-text (so_far draft) text h.lines tree.0 h.reads whole split tree.1)
