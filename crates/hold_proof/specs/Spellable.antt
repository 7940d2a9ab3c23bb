-- What a certificate's text can spell.
--
-- AreSpellable counts: the counted variables rise, so each is counted once, and each count is at least 1. True of no counts.
-- IsSpellableClaim claim: the claim's counts are spellable. True of the claim that nothing meets.
-- IsSpellableScale claim scale: in a proof that nothing meets the scale is 0.
-- IsSpellableNode claim paths node: a split has a place of at most 254; a leaf is orderly, its path numbers are below `paths`,
--   and its scale is one that the claim lets stand. Its site numbers may be any.
-- IsSpellable certificate: the claim and each node of the tree are spellable, and each listed path has at least two pins.
use Rattle.std.specs.Prelude.{ℕ, ◌<◌, ◌≤◌, ◌≡◌, List, length, map, All}
use Rattle.std.specs.List.Sorted.{IsStrictlyIncreasing}
use Rattle.hold_base.specs.declared.number.PathNo.{PathNo}
use Rattle.hold_base.specs.declared.number.VarNo.{VarNo}
use Rattle.hold_graph.specs.declared.problem.Listed.{Listed}
use Rattle.hold_proof.specs.declared.certificate.Certificate.{Certificate}
use Rattle.hold_proof.specs.declared.claim.Claim.{Claim}
use Rattle.hold_proof.specs.declared.claim.Claim.TheVariants.{Repaired, Infeasible}
use Rattle.hold_proof.specs.declared.node.Node.{Node}
use Rattle.hold_proof.specs.declared.node.Node.TheVariants.{Leaf as LeafNode, Split as SplitNode}
use Rattle.hold_proof.specs.Tree.{preorder}
use Rattle.hold_proof.specs.Closing.{IsOrderly}

pub record AreSpellable (counts : List (VarNo × ℕ)) : Type 0 where
  pub rise : IsStrictlyIncreasing (map (λ (count : VarNo × ℕ). count.0.0) counts)
  pub some : All (λ (count : VarNo × ℕ). 1 ≤ count.1) counts

abbrev pub IsSpellableClaim : Claim → Type 0
IsSpellableClaim (Repaired cost counts) = AreSpellable counts
IsSpellableClaim Infeasible = Unit {0}

abbrev pub IsSpellableScale : Claim → ℕ → Type 0
IsSpellableScale (Repaired cost counts) scale = Unit {0}
IsSpellableScale Infeasible scale = scale ≡ 0

abbrev pub IsSpellableNode : Claim → ℕ → Node → Type 0
IsSpellableNode claim paths (SplitNode var at) = at ≤ 254
IsSpellableNode claim paths (LeafNode leaf) =
    IsOrderly leaf
    × All (λ (term : PathNo × ℕ). term.0.0 < paths) leaf.paths
    × IsSpellableScale claim leaf.scale

pub record IsSpellable (certificate : Certificate) : Type 0 where
  pub claim : IsSpellableClaim certificate.claim
  pub paths : All (λ (path : Listed). 2 ≤ length path.pins) certificate.paths
  pub nodes : All (IsSpellableNode certificate.claim (length certificate.paths)) (preorder certificate.tree)
