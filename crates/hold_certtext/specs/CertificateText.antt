-- The one text of a certificate. Numbers are decimal, without leading zeros.
--
-- head_line: the line that every certificate begins with. end_line: the one that it ends with.
-- claim_lines claim: a repair's cost, and a line for each counted variable; or that nothing meets.
-- path_line path: the side, the corner and the pins of a listed path.
-- node_line node: a split's variable and place; or a leaf's scale, and for each path (p) and each chain limit (s) that it takes the
--   number and how often.
-- certificate_lines certificate: the head, the claim, the listed paths, the nodes of the tree in preorder, and the end.
-- certificate_text certificate: these lines, each ended.
-- IsInRange certificate: each number that nothing else bounds has the range of its type: those of variables, sites and pins are
--   below 2^32, corners and counts below 2^8, the cost and the numbers of paths below 2^64. Of a certificate that is held in memory
--   this always holds. A spellable one bounds places, scales and multiples more closely.
-- IsFaultOf text fault: the fault is at the first line that can't stand there.
-- IsTextOf text certificate: the certificate is spellable, and the text is its text.
-- IsLinesOf lines certificate: the certificate is spellable, and these are its lines.
-- IsCertificate lines: the lines are those of some certificate, all of them.
use Rattle.std.specs.Prelude.{◌≡◌, ℕ, ◌<◌, List, [], ◌∷◌, ◌++◌, map, flat_map, All, codes, decimal}
use Rattle.hold_base.specs.declared.number.PathNo.{PathNo}
use Rattle.hold_base.specs.declared.number.PinNo.{PinNo}
use Rattle.hold_base.specs.declared.number.SiteNo.{SiteNo}
use Rattle.hold_base.specs.declared.number.VarNo.{VarNo}
use Rattle.hold_base.specs.declared.time.Side.{Side}
use Rattle.hold_base.specs.declared.time.Side.TheVariants.{Early, Late}
use Rattle.hold_graph.specs.declared.problem.Listed.{Listed}
use Rattle.hold_proof.specs.declared.certificate.Certificate.{Certificate}
use Rattle.hold_proof.specs.declared.claim.Claim.{Claim}
use Rattle.hold_proof.specs.declared.claim.Claim.TheVariants.{Repaired, Infeasible}
use Rattle.hold_proof.specs.declared.node.Node.{Node}
use Rattle.hold_proof.specs.declared.node.Node.TheVariants.{Leaf as LeafNode, Split as SplitNode}
use Rattle.hold_proof.specs.Spellable.{IsSpellable}
use Rattle.hold_proof.specs.Tree.{preorder}
use Rattle.hold_certtext.specs.Lines.{spaced, text_of, IsFirstBad}
use Rattle.hold_certtext.specs.declared.fault.CertFault.{CertFault}
use Rattle.hold_certtext.specs.declared.fault.CertFault.TheVariants.{Line}

abbrev pub head_line : List ℕ
head_line = spaced (codes "hold-certificate" ∷ codes "1" ∷ [])

abbrev pub end_line : List ℕ
end_line = spaced (codes "end" ∷ [])

abbrev pub count_line : VarNo × ℕ → List ℕ
count_line counted = spaced (codes "count" ∷ decimal counted.0.0 ∷ decimal counted.1 ∷ [])

abbrev pub claim_lines : Claim → List (List ℕ)
claim_lines (Repaired cost counts) = spaced (codes "repaired" ∷ decimal cost ∷ []) ∷ map count_line counts
claim_lines Infeasible = spaced (codes "infeasible" ∷ []) ∷ []

abbrev pub side_word : Side → List ℕ
side_word Early = codes "early"
side_word Late = codes "late"

abbrev pub path_line : Listed → List ℕ
path_line path = spaced (codes "path" ∷ side_word path.side ∷ decimal path.corner.0 ∷ map (λ (pin : PinNo). decimal pin.0) path.pins)

abbrev pub path_words : PathNo × ℕ → List (List ℕ)
path_words term = codes "p" ∷ decimal term.0.0 ∷ decimal term.1 ∷ []

abbrev pub chain_words : SiteNo × ℕ → List (List ℕ)
chain_words term = codes "s" ∷ decimal term.0.0 ∷ decimal term.1 ∷ []

abbrev pub node_line : Node → List ℕ
node_line (SplitNode var at) = spaced (codes "split" ∷ decimal var.0 ∷ decimal at ∷ [])
node_line (LeafNode leaf) =
    spaced (codes "leaf" ∷ decimal leaf.scale ∷ (flat_map path_words leaf.paths ++ flat_map chain_words leaf.chains))

abbrev pub certificate_lines : Certificate → List (List ℕ)
certificate_lines certificate =
    head_line ∷ claim_lines certificate.claim ++ map path_line certificate.paths ++ map node_line (preorder certificate.tree)
    ++ end_line ∷ []

abbrev pub certificate_text : Certificate → List ℕ
certificate_text certificate = text_of (certificate_lines certificate)

abbrev pub IsCountInRange : VarNo × ℕ → Type 0
IsCountInRange counted = (counted.0.0 < 4294967296) × (counted.1 < 256)

abbrev pub IsClaimInRange : Claim → Type 0
IsClaimInRange (Repaired cost counts) = (cost < 18446744073709551616) × All IsCountInRange counts
IsClaimInRange Infeasible = Unit {0}

pub record IsPathInRange (path : Listed) : Type 0 where
  pub corner : path.corner.0 < 256
  pub pins : All (λ (pin : PinNo). pin.0 < 4294967296) path.pins

abbrev pub IsPathTermInRange : PathNo × ℕ → Type 0
IsPathTermInRange term = term.0.0 < 18446744073709551616

abbrev pub IsChainTermInRange : SiteNo × ℕ → Type 0
IsChainTermInRange term = term.0.0 < 4294967296

abbrev pub IsNodeInRange : Node → Type 0
IsNodeInRange (SplitNode var at) = var.0 < 4294967296
IsNodeInRange (LeafNode leaf) = All IsPathTermInRange leaf.paths × All IsChainTermInRange leaf.chains

pub record IsInRange (certificate : Certificate) : Type 0 where
  pub claim : IsClaimInRange certificate.claim
  pub paths : All IsPathInRange certificate.paths
  pub nodes : All IsNodeInRange (preorder certificate.tree)

pub record IsTextOf (text : List ℕ) (certificate : Certificate) : Type 0 where
  pub spellable : IsSpellable certificate
  pub in_range : IsInRange certificate
  pub is : text ≡ certificate_text certificate

pub record IsLinesOf (lines : List (List ℕ)) (certificate : Certificate) : Type 0 where
  pub spellable : IsSpellable certificate
  pub in_range : IsInRange certificate
  pub is : certificate_lines certificate ≡ lines

abbrev pub IsCertificate : List (List ℕ) → Type 0
IsCertificate lines = (certificate : Certificate) × IsLinesOf lines certificate

abbrev pub IsFaultOf : List ℕ → CertFault → Type 0
IsFaultOf text (Line number) = IsFirstBad IsCertificate text number
