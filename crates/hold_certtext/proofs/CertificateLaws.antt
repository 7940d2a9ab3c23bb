-- The readings of a certificate's text: one certificate, or one first bad line.
use Rattle.std.proofs.Common.{◌≡◌, ℕ, zero, suc, ◌<◌, List, [], ◌∷◌, ◌++◌, length, map, refl, sym, ap, subst, ◌∙◌, arith, append_assoc, append-nil}
use Rattle.std.specs.Prelude.{◌^◌, Option, None, Some, IfSome, replicate}
use Rattle.std.specs.List.{AllByRecursion}
use Rattle.std.proofs.lemmas.List.{map-append}
use Rattle.std.proofs.lemmas.Option.{same_Some}
use Rattle.hold_base.proofs.Lists.{AllByRecursion-append}
use Rattle.hold_base.specs.declared.number.VarNo.{VarNo}
use Rattle.hold_proof.specs.declared.certificate.Certificate.{Certificate}
use Rattle.hold_proof.specs.declared.node.Node.{Node}
use Rattle.hold_proof.specs.Spellable.{IsSpellableClaim, IsSpellable}
use Rattle.hold_proof.specs.Tree.{ProofTree, Ends, preorder}
use Rattle.hold_proof.specs.inner.Forest.{tree_of, tree_of-preorder}
use Rattle.hold_certtext.specs.Lines.{text_of, Begins}
use Rattle.hold_certtext.specs.CertificateText.{head_line, end_line, claim_lines, path_line, node_line, certificate_lines, IsClaimInRange, IsInRange, IsTextOf, IsCertificate}
use Rattle.hold_certtext.specs.declared.stage.Stage.{Stage}
use Rattle.hold_certtext.specs.declared.stage.Stage.TheVariants.{Head as AtHead, Claim as AtClaim, Counts as AtCounts, Paths as AtPaths, Tree as AtTree, Whole}
use Rattle.hold_certtext.specs.inner.Reading.{SoFar, start, step, most_scale, claim_by, certificate_of}
use Rattle.hold_certtext.proofs.AcceptLaws.{run-certificate, certificate-are_lines}
use Rattle.hold_certtext.proofs.MachineLemmas.{run, text_of-same}
use Rattle.hold_certtext.proofs.ReadsLaws.{body_of, lines_at, IsAt, IsSound, Reads, claim_start}
use Rattle.hold_certtext.proofs.SpellableLaws.{CountedTo, FitsNode, counted-spellable, fit-paths, fit-nodes}
use Rattle.hold_certtext.proofs.TreeLemmas.{plain_leaf, tree-wanted, wanted-completed}

abbrev Lines : Type 0
Lines = List (List ℕ)

claim-spellable : (cost : Option ℕ) (counts : List (VarNo × ℕ)) (least : ℕ) → IfSome cost (λ c. c < 2 ^ 64) → CountedTo 0 counts least
    → IsSpellableClaim (claim_by cost counts) × IsClaimInRange (claim_by cost counts)
claim-spellable None counts least small counted = (tt, tt)
claim-spellable (Some cost) counts least small counted = let fit = counted-spellable least counts counted in (fit.0, (omega (arith, small), fit.1))

-- it is spellable where the nodes fit
pub sound-spellable : (s : SoFar) (tree : ProofTree) (nodes : List Node) → IsSound s → preorder tree ≡ nodes
    → AllByRecursion (FitsNode (most_scale s.cost) (length s.paths)) nodes → IsSpellable (certificate_of s tree) × IsInRange (certificate_of s tree)
sound-spellable s tree nodes sound is fits =
    let claim = claim-spellable s.cost s.counts s.least sound.cost sound.counts in
    let paths = fit-paths s.paths sound.paths in
    let all = fit-nodes s.cost s.counts (length s.paths) (preorder tree) (subst (AllByRecursion (FitsNode (most_scale s.cost) (length s.paths))) (sym is) fits) in
    (record { claim = claim.0; paths = paths.0; nodes = all.0 }, record { claim = claim.1; paths = paths.1; nodes = all.1 })

-- what a whole text is read as
pub whole-text : (s : SoFar) (text : List ℕ) (lines : Lines) (tree : ProofTree) → Reads s lines → s.stage ≡ Whole → text ≡ text_of lines → preorder tree ≡ s.nodes
    → IsTextOf text (certificate_of s tree)
whole-text s text lines tree reads whole split is =
    let fit = sound-spellable s tree s.nodes reads.sound is reads.sound.nodes in
    let are : certificate_lines (certificate_of s tree) ≡ lines =
    ap (λ (ns : List Node). head_line ∷ (claim_lines (claim_by s.cost s.counts) ++ map path_line s.paths ++ map node_line ns ++ end_line ∷ [])) is
    ∙ ap (λ (t : Stage). lines_at t s) (sym whole) ∙ reads.are in
    record { spellable = fit.0; in_range = fit.1; is = split ∙ ap text_of (sym are) }

-- the nodes of a whole text are a tree's
pub whole-tree : (s : SoFar) (lines : Lines) → Reads s lines → s.stage ≡ Whole → (tree : ProofTree) × (preorder tree ≡ s.nodes)
whole-tree s lines reads whole =
    let none : s.open_trees ≡ 0 = subst (λ (t : Stage). IsAt t s) whole reads.at in
    tree-wanted s.nodes (reads.sound.trees ∙ ap (λ (n : ℕ). Some n) none)

plain-fits : (most paths : ℕ) → FitsNode most paths plain_leaf
plain-fits most paths = record { scale = omega arith; small = omega arith; with_paths = 0; of_paths = refl; with_chains = 0; of_chains = refl }

plains-fit : (most paths open_trees : ℕ) → AllByRecursion (FitsNode most paths) (replicate open_trees plain_leaf)
plains-fit most paths zero = tt
plains-fit most paths (suc open_trees) = (plain-fits most paths, plains-fit most paths open_trees)

-- the lines that complete the nodes
abbrev rest_of : ℕ → Lines
rest_of open_trees = map node_line (replicate open_trees plain_leaf) ++ end_line ∷ []

regrouped : (front nodes plains : Lines) (last : List ℕ) → (front ++ nodes) ++ (plains ++ last ∷ []) ≡ front ++ (nodes ++ plains) ++ last ∷ []
regrouped front nodes plains last =
    sym (append_assoc (front ++ nodes) plains (last ∷ [])) ∙ ap (λ (ls : Lines). ls ++ last ∷ []) (append_assoc front nodes plains)

completed : (s : SoFar) (lines : Lines) → IsSound s → head_line ∷ body_of s ≡ lines → Begins IsCertificate lines
completed s lines sound are =
    let nodes : List Node = s.nodes ++ replicate s.open_trees plain_leaf in
    let tree = tree-wanted nodes (wanted-completed s.nodes s.open_trees sound.trees) in
    let fits = AllByRecursion-append (FitsNode (most_scale s.cost) (length s.paths)) s.nodes (replicate s.open_trees plain_leaf) sound.nodes
    (plains-fit (most_scale s.cost) (length s.paths) s.open_trees) in
    let fit = sound-spellable s tree.0 nodes sound tree.1 fits in
    let front : Lines = claim_lines (claim_by s.cost s.counts) ++ map path_line s.paths in
    let spelled : certificate_lines (certificate_of s tree.0) ≡ lines ++ rest_of s.open_trees =
    ap (λ (ns : List Node). head_line ∷ (front ++ map node_line ns ++ end_line ∷ [])) tree.1
    ∙ ap (λ (ls : Lines). head_line ∷ (front ++ ls ++ end_line ∷ [])) (map-append node_line s.nodes (replicate s.open_trees plain_leaf))
    ∙ ap (λ (ls : Lines). head_line ∷ ls) (sym (regrouped front (map node_line s.nodes) (map node_line (replicate s.open_trees plain_leaf)) end_line))
    ∙ ap (λ (ls : Lines). ls ++ rest_of s.open_trees) are in
    (rest_of s.open_trees, (certificate_of s tree.0, record { spellable = fit.0; in_range = fit.1; is = spelled }))

start-sound : IsSound claim_start
start-sound = record { cost = tt; counts = refl; paths = tt; nodes = tt; trees = refl }

-- the least certificate: nothing meets, by a leaf that shows nothing
least-certificate : IsCertificate (head_line ∷ (claim_lines (claim_by None []) ++ node_line plain_leaf ∷ end_line ∷ []))
least-certificate =
    let tree : ProofTree = Ends (record { scale = 0; paths = []; chains = [] }) in
    let fit = sound-spellable claim_start tree (plain_leaf ∷ []) start-sound refl (plain-fits 0 0, tt) in
    (certificate_of claim_start tree, record { spellable = fit.0; in_range = fit.1; is = refl })

whole-begins : (s : SoFar) (lines : Lines) → IsSound s → s.open_trees ≡ 0 → head_line ∷ (body_of s ++ end_line ∷ []) ≡ lines → Begins IsCertificate lines
whole-begins s lines sound none are =
    let tree = tree-wanted s.nodes (sound.trees ∙ ap (λ (n : ℕ). Some n) none) in
    let fit = sound-spellable s tree.0 s.nodes sound tree.1 sound.nodes in (
      [],
      (
        certificate_of s tree.0,
        record {
          spellable = fit.0;
          in_range = fit.1;
          is = ap (λ (ns : List Node). head_line ∷ (claim_lines (claim_by s.cost s.counts) ++ map path_line s.paths ++ map node_line ns ++ end_line ∷ [])) tree.1 ∙ are ∙ sym (append-nil lines);
        },
      ),
    )

begins-at : (stage : Stage) (s : SoFar) (lines : Lines) → lines_at stage s ≡ lines → IsAt stage s → IsSound s → Begins IsCertificate lines
begins-at AtHead s lines are at sound = (
  head_line ∷ (claim_lines (claim_by None []) ++ node_line plain_leaf ∷ end_line ∷ []),
  subst (λ (ls : Lines). IsCertificate (ls ++ head_line ∷ (claim_lines (claim_by None []) ++ node_line plain_leaf ∷ end_line ∷ []))) are least-certificate,
)
begins-at AtClaim s lines are at sound = (
  claim_lines (claim_by None []) ++ node_line plain_leaf ∷ end_line ∷ [],
  subst (λ (ls : Lines). IsCertificate (ls ++ (claim_lines (claim_by None []) ++ node_line plain_leaf ∷ end_line ∷ []))) are least-certificate,
)
begins-at AtCounts s lines are at sound = completed s lines sound are
begins-at AtPaths s lines are at sound = completed s lines sound are
begins-at AtTree s lines are at sound = completed s lines sound are
begins-at Whole s lines are at sound = whole-begins s lines sound at are

-- lines that were taken begin a certificate
pub reads-begins : (s : SoFar) (lines : Lines) → Reads s lines → Begins IsCertificate lines
reads-begins s lines h = begins-at s.stage s lines h.are h.at h.sound

same-lines : (text : List ℕ) (a b : Certificate) → IsTextOf text a → IsTextOf text b → certificate_lines a ≡ certificate_lines b
same-lines text a b one other =
    text_of-same (certificate_lines a) (certificate_lines b)
    (certificate-are_lines (certificate_lines a) (a, record { spellable = one.spellable; in_range = one.in_range; is = refl }))
    (certificate-are_lines (certificate_lines b) (b, record { spellable = other.spellable; in_range = other.in_range; is = refl }))
    (sym one.is ∙ other.is)

certificate-same : (x y : Certificate) → x.claim ≡ y.claim → x.paths ≡ y.paths → x.tree ≡ y.tree → x ≡ y
certificate-same x y claim paths tree =
    ap (λ c. record { claim = c; paths = x.paths; tree = x.tree }) claim ∙ ap (λ ps. record { claim = y.claim; paths = ps; tree = x.tree }) paths
    ∙ ap (λ t. record { claim = y.claim; paths = y.paths; tree = t }) tree

-- a text is that of one certificate
pub text-one : (text : List ℕ) (a b : Certificate) → IsTextOf text a → IsTextOf text b → a ≡ b
text-one text a b one other =
    let first = run-certificate a (certificate_lines a) (record { spellable = one.spellable; in_range = one.in_range; is = refl }) in
    let second = run-certificate b (certificate_lines b) (record { spellable = other.spellable; in_range = other.in_range; is = refl }) in
    let same : first.s ≡ second.s = same_Some first.s second.s (sym first.runs ∙ ap (run step start) (same-lines text a b one other) ∙ second.runs) in
    let claim = sym first.claim ∙ ap (λ (s : SoFar). claim_by s.cost s.counts) same ∙ second.claim in
    let paths = sym first.paths ∙ ap (λ (s : SoFar). s.paths) same ∙ second.paths in
    let nodes = sym first.nodes ∙ ap (λ (s : SoFar). s.nodes) same ∙ second.nodes in
    let tree = sym (tree_of-preorder a.tree) ∙ ap tree_of nodes ∙ tree_of-preorder b.tree in
    certificate-same a b claim paths tree
