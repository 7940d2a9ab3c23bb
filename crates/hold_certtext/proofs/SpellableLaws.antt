-- What fits on a line is spellable and in range, and the other way round.
use Rattle.std.proofs.Common.{◌≡◌, ℕ, ◌+◌, ◌<◌, ◌≤◌, List, [], ◌∷◌, ◌++◌, length, map, refl, subst, arith, All}
use Rattle.std.specs.Prelude.{Option, None, Some, sum}
use Rattle.std.specs.List.{AllByRecursion}
use Rattle.std.proofs.lemmas.List.Elements.{All-from_recursion, recursion_from_All}
use Rattle.std.proofs.lemmas.List.Sums.{sum_by-cons}
use Rattle.hold_base.proofs.Lists.{AllByRecursion-weaken}
use Rattle.hold_base.specs.declared.number.PathNo.{PathNo}
use Rattle.hold_base.specs.declared.number.PinNo.{PinNo}
use Rattle.hold_base.specs.declared.number.SiteNo.{SiteNo}
use Rattle.hold_base.specs.declared.number.VarNo.{VarNo}
use Rattle.hold_graph.specs.declared.problem.Listed.{Listed}
use Rattle.hold_proof.specs.Closing.{weight_limit, IsOrderly}
use Rattle.hold_proof.specs.Spellable.{AreSpellable, IsSpellableScale, IsSpellableNode}
use Rattle.hold_proof.specs.declared.node.Leaf.{Leaf}
use Rattle.hold_proof.specs.declared.node.Node.{Node}
use Rattle.hold_proof.specs.declared.node.Node.TheVariants.{Leaf as LeafNode, Split as SplitNode}
use Rattle.hold_certtext.specs.CertificateText.{IsPathInRange, IsNodeInRange}
use Rattle.hold_certtext.specs.declared.terms.Bounds.{Bounds}
use Rattle.hold_certtext.specs.inner.Parsing.{after}
use Rattle.hold_certtext.specs.inner.Reading.{most_scale, claim_by}
use Rattle.hold_certtext.proofs.PartLaws.{FitsCount, FitsPath, AreTerms, within-parts, within-test}
use Rattle.hold_certtext.proofs.LeafLaws.{FitsLeaf, path_number, site_number, path_bounds, chain_bounds}
use Rattle.hold_certtext.proofs.RisingLemmas.{RisesFrom, rises-increasing, rises-zero}

-- the counts fit, their variables rise from `least` on, and `next` is the least that may follow
abbrev pub CountedTo : ℕ → List (VarNo × ℕ) → ℕ → Type 0
CountedTo least [] next = least ≡ next
CountedTo least (counted ∷ counts) next = (least ≤ counted.0.0) × FitsCount counted × CountedTo (counted.0.0 + 1) counts next

pub CountedTo-push : (least next : ℕ) (counts : List (VarNo × ℕ)) (counted : VarNo × ℕ) → CountedTo least counts next → next ≤ counted.0.0 → FitsCount counted
    → CountedTo least (counts ++ counted ∷ []) (counted.0.0 + 1)
CountedTo-push least next [] counted h low fits = (omega arith, fits, refl)
CountedTo-push least next (first ∷ counts) counted h low fits = (h.0, h.1, CountedTo-push (first.0.0 + 1) next counts counted h.2 low fits)

abbrev pub FitsNode : ℕ → ℕ → Node → Type 0
FitsNode most paths (SplitNode var at) = (var.0 < 4294967296) × (at ≤ 254)
FitsNode most paths (LeafNode leaf) = FitsLeaf most paths leaf

-- what is asked of terms, list by list
record OrderlyTerms {X : Type 0} (number : X → ℕ) (bounds : Bounds) (terms : List (X × ℕ)) (weight : ℕ) : Type 0 where
  rise : RisesFrom bounds.least (map (λ term. number term.0) terms)
  limit : AllByRecursion (λ (term : X × ℕ). number term.0 < bounds.limit) terms
  small : AllByRecursion (λ (term : X × ℕ). number term.0 < 18446744073709551616) terms
  some : AllByRecursion (λ (term : X × ℕ). 1 ≤ term.1) terms
  sum_is : bounds.weight + sum (map (λ term. term.1) terms) ≡ weight
  within : weight ≤ weight_limit

terms-orderly : {X : Type 0} (number : X → ℕ) (bounds : Bounds) (terms : List (X × ℕ)) (weight : ℕ) → bounds.weight ≤ weight_limit → AreTerms number bounds terms weight
    → OrderlyTerms number bounds terms weight
terms-orderly number bounds [] weight low h = record { rise = tt; limit = tt; small = tt; some = tt; sum_is = omega (arith, h); within = omega (arith, h) }
terms-orderly {X = X} number bounds (term ∷ terms) weight low h =
    let here = within-parts bounds (number term.0) term.1 h.0 in
    let first = here.weight in
    let rest = terms-orderly number (after bounds (number term.0, term.1)) terms weight (omega (arith, first)) h.2 in
    let whole = sum_by-cons (λ (n : ℕ). n) term.1 (map (λ (t : X × ℕ). t.1) terms) in
    record {
      rise = (here.least, rest.rise);
      limit = (here.limit, rest.limit);
      small = (h.1, rest.small);
      some = (here.some, rest.some);
      sum_is = let s = rest.sum_is in omega (arith, whole, s);
      within = rest.within;
    }

orderly-terms : {X : Type 0} (number : X → ℕ) (bounds : Bounds) (terms : List (X × ℕ)) → RisesFrom bounds.least (map (λ term. number term.0) terms)
    → AllByRecursion (λ (term : X × ℕ). number term.0 < bounds.limit) terms → AllByRecursion (λ (term : X × ℕ). number term.0 < 18446744073709551616) terms
    → AllByRecursion (λ (term : X × ℕ). 1 ≤ term.1) terms → bounds.weight + sum (map (λ term. term.1) terms) ≤ weight_limit
    → AreTerms number bounds terms (bounds.weight + sum (map (λ term. term.1) terms))
orderly-terms number bounds [] rise limit small some within = omega arith
orderly-terms {X = X} number bounds (term ∷ terms) rise limit small some within =
    let whole = sum_by-cons (λ (n : ℕ). n) term.1 (map (λ (t : X × ℕ). t.1) terms) in
    let same : (bounds.weight + term.1) + sum (map (λ (t : X × ℕ). t.1) terms) ≡ bounds.weight + sum (map (λ (t : X × ℕ). t.1) (term ∷ terms)) = omega (arith, whole) in (
      within-test bounds (number term.0) term.1 (record { least = rise.0; limit = limit.0; some = some.0; weight = omega (arith, whole, within) }),
      small.0,
      subst (AreTerms number (after bounds (number term.0, term.1)) terms) same
          (orderly-terms number (after bounds (number term.0, term.1)) terms rise.1 limit.1 small.1 some.1 (omega (arith, same, within))),
    )

pub leaf-orderly : (most paths : ℕ) (leaf : Leaf) → most ≤ weight_limit → FitsLeaf most paths leaf
    → IsOrderly leaf × All (λ (term : PathNo × ℕ). term.0.0 < paths) leaf.paths × IsNodeInRange (LeafNode leaf)
leaf-orderly most paths leaf limit fits =
    let scale = fits.scale in
    let ps = terms-orderly path_number (path_bounds paths leaf.scale) leaf.paths fits.with_paths (omega (arith, scale)) fits.of_paths in
    let cs = terms-orderly site_number (chain_bounds fits.with_paths) leaf.chains fits.with_chains ps.within fits.of_chains in (
      record {
        paths_rise = rises-increasing 0 (map (λ (term : PathNo × ℕ). term.0.0) leaf.paths) ps.rise;
        paths_times = All-from_recursion (λ (term : PathNo × ℕ). 1 ≤ term.1) leaf.paths ps.some;
        sites_rise = rises-increasing 0 (map (λ (term : SiteNo × ℕ). term.0.0) leaf.chains) cs.rise;
        sites_times = All-from_recursion (λ (term : SiteNo × ℕ). 1 ≤ term.1) leaf.chains cs.some;
        weight = let a = ps.sum_is in let b = cs.sum_is in let w = cs.within in omega (arith, a, b, w);
      },
      All-from_recursion (λ (term : PathNo × ℕ). term.0.0 < paths) leaf.paths ps.limit,
      (
        All-from_recursion (λ (term : PathNo × ℕ). term.0.0 < 18446744073709551616) leaf.paths ps.small,
        All-from_recursion (λ (term : SiteNo × ℕ). term.0.0 < 4294967296) leaf.chains cs.limit,
      ),
    )

pub orderly-leaf : (most paths : ℕ) (leaf : Leaf) → leaf.scale ≤ most → most ≤ weight_limit → IsOrderly leaf → All (λ (term : PathNo × ℕ). term.0.0 < paths) leaf.paths
    → IsNodeInRange (LeafNode leaf) → FitsLeaf most paths leaf
orderly-leaf most paths leaf scale limit orderly below range =
    let weight = orderly.weight in
    let with_paths : ℕ = leaf.scale + sum (map (λ (term : PathNo × ℕ). term.1) leaf.paths) in
    let with_chains : ℕ = with_paths + sum (map (λ (term : SiteNo × ℕ). term.1) leaf.chains) in
    let site_small : AllByRecursion (λ (term : SiteNo × ℕ). term.0.0 < 4294967296) leaf.chains = recursion_from_All (λ (term : SiteNo × ℕ). term.0.0 < 4294967296) leaf.chains range.1 in
    record {
      scale = scale;
      small = omega (arith, scale, limit);
      with_paths = with_paths;
      of_paths = orderly-terms path_number (path_bounds paths leaf.scale) leaf.paths (rises-zero (map (λ (term : PathNo × ℕ). term.0.0) leaf.paths) orderly.paths_rise)
          (recursion_from_All (λ (term : PathNo × ℕ). term.0.0 < paths) leaf.paths below)
          (recursion_from_All (λ (term : PathNo × ℕ). term.0.0 < 18446744073709551616) leaf.paths range.0)
          (recursion_from_All (λ (term : PathNo × ℕ). 1 ≤ term.1) leaf.paths orderly.paths_times) (omega (arith, weight));
      with_chains = with_chains;
      of_chains = orderly-terms site_number (chain_bounds with_paths) leaf.chains (rises-zero (map (λ (term : SiteNo × ℕ). term.0.0) leaf.chains) orderly.sites_rise)
          site_small
          (AllByRecursion-weaken (λ (term : SiteNo × ℕ). term.0.0 < 4294967296) (λ (term : SiteNo × ℕ). term.0.0 < 18446744073709551616) (λ term h. omega (arith, h)) leaf.chains site_small)
          (recursion_from_All (λ (term : SiteNo × ℕ). 1 ≤ term.1) leaf.chains orderly.sites_times) (omega (arith, weight));
    }

counted-rise : (least next : ℕ) (counts : List (VarNo × ℕ)) → CountedTo least counts next → RisesFrom least (map (λ (counted : VarNo × ℕ). counted.0.0) counts)
counted-rise least next [] h = tt
counted-rise least next (counted ∷ counts) h = (h.0, counted-rise (counted.0.0 + 1) next counts h.2)

counted-fit : (least next : ℕ) (counts : List (VarNo × ℕ)) → CountedTo least counts next → AllByRecursion FitsCount counts
counted-fit least next [] h = tt
counted-fit least next (counted ∷ counts) h = (h.1, counted-fit (counted.0.0 + 1) next counts h.2)

pub counted-spellable : (next : ℕ) (counts : List (VarNo × ℕ)) → CountedTo 0 counts next
    → AreSpellable counts × All (λ (counted : VarNo × ℕ). (counted.0.0 < 4294967296) × (counted.1 < 256)) counts
counted-spellable next counts h =
    let fit = counted-fit 0 next counts h in (
      record {
        rise = rises-increasing 0 (map (λ (counted : VarNo × ℕ). counted.0.0) counts) (counted-rise 0 next counts h);
        some = All-from_recursion (λ (counted : VarNo × ℕ). 1 ≤ counted.1) counts (AllByRecursion-weaken FitsCount (λ (counted : VarNo × ℕ). 1 ≤ counted.1) (λ counted f. f.some) counts fit);
      },
      All-from_recursion (λ (counted : VarNo × ℕ). (counted.0.0 < 4294967296) × (counted.1 < 256)) counts
          (AllByRecursion-weaken FitsCount (λ (counted : VarNo × ℕ). (counted.0.0 < 4294967296) × (counted.1 < 256)) (λ counted f. (f.var, let m = f.most in omega (arith, m))) counts fit),
    )

spelled-counted : (least : ℕ) (counts : List (VarNo × ℕ)) → RisesFrom least (map (λ (counted : VarNo × ℕ). counted.0.0) counts)
    → AllByRecursion (λ (counted : VarNo × ℕ). 1 ≤ counted.1) counts → AllByRecursion (λ (counted : VarNo × ℕ). (counted.0.0 < 4294967296) × (counted.1 < 256)) counts
    → (next : ℕ) × CountedTo least counts next
spelled-counted least [] rise some range = (least, refl)
spelled-counted least (counted ∷ counts) rise some range =
    let rest = spelled-counted (counted.0.0 + 1) counts rise.1 some.1 range.1 in
    let most = range.0.1 in
    (rest.0, (rise.0, record { var = range.0.0; some = some.0; most = omega (arith, most) }, rest.1))

pub spellable-counted : (counts : List (VarNo × ℕ)) → AreSpellable counts → All (λ (counted : VarNo × ℕ). (counted.0.0 < 4294967296) × (counted.1 < 256)) counts
    → (next : ℕ) × CountedTo 0 counts next
spellable-counted counts spellable range =
    spelled-counted 0 counts (rises-zero (map (λ (counted : VarNo × ℕ). counted.0.0) counts) spellable.rise)
    (recursion_from_All (λ (counted : VarNo × ℕ). 1 ≤ counted.1) counts spellable.some)
    (recursion_from_All (λ (counted : VarNo × ℕ). (counted.0.0 < 4294967296) × (counted.1 < 256)) counts range)

-- paths
path-fits : (path : Listed) → 2 ≤ length path.pins → IsPathInRange path → FitsPath path
path-fits path two range = record { corner = range.corner; pins = recursion_from_All (λ (pin : PinNo). pin.0 < 4294967296) path.pins range.pins; two = two }

pub paths-fit : (paths : List Listed) → All (λ (path : Listed). 2 ≤ length path.pins) paths → All IsPathInRange paths → AllByRecursion FitsPath paths
paths-fit paths two range = both paths (recursion_from_All (λ (path : Listed). 2 ≤ length path.pins) paths two) (recursion_from_All IsPathInRange paths range)
  where
    both : (ps : List Listed) → AllByRecursion (λ (path : Listed). 2 ≤ length path.pins) ps → AllByRecursion IsPathInRange ps → AllByRecursion FitsPath ps
    both [] t r = tt
    both (p ∷ ps) t r = (path-fits p t.0 r.0, both ps t.1 r.1)

pub fit-paths : (paths : List Listed) → AllByRecursion FitsPath paths → All (λ (path : Listed). 2 ≤ length path.pins) paths × All IsPathInRange paths
fit-paths paths fit = (
  All-from_recursion (λ (path : Listed). 2 ≤ length path.pins) paths (AllByRecursion-weaken FitsPath (λ (path : Listed). 2 ≤ length path.pins) (λ path f. f.two) paths fit),
  All-from_recursion IsPathInRange paths (AllByRecursion-weaken FitsPath IsPathInRange
      (λ path f. record { corner = f.corner; pins = All-from_recursion (λ (pin : PinNo). pin.0 < 4294967296) path.pins f.pins }) paths fit),
)

-- claims and nodes
pub most-within : (cost : Option ℕ) → most_scale cost ≤ weight_limit
most-within None = omega arith
most-within (Some cost) = omega arith

scale-spellable : (cost : Option ℕ) (counts : List (VarNo × ℕ)) (scale : ℕ) → scale ≤ most_scale cost → IsSpellableScale (claim_by cost counts) scale
scale-spellable None counts scale h = omega arith
scale-spellable (Some cost) counts scale h = tt

spellable-scale : (cost : Option ℕ) (counts : List (VarNo × ℕ)) (scale : ℕ) → scale ≤ weight_limit → IsSpellableScale (claim_by cost counts) scale → scale ≤ most_scale cost
spellable-scale None counts scale low h = omega (arith, h)
spellable-scale (Some cost) counts scale low h = low

node-fits : (cost : Option ℕ) (counts : List (VarNo × ℕ)) (paths : ℕ) (node : Node) → IsSpellableNode (claim_by cost counts) paths node → IsNodeInRange node
    → FitsNode (most_scale cost) paths node
node-fits cost counts paths (SplitNode var at) spellable range = (range, spellable)
node-fits cost counts paths (LeafNode leaf) spellable range =
    let weight = spellable.0.weight in
    orderly-leaf (most_scale cost) paths leaf (spellable-scale cost counts leaf.scale (omega (arith, weight)) spellable.2) (most-within cost) spellable.0 spellable.1 range

node-spellable : (cost : Option ℕ) (counts : List (VarNo × ℕ)) (paths : ℕ) (node : Node) → FitsNode (most_scale cost) paths node
    → IsSpellableNode (claim_by cost counts) paths node × IsNodeInRange node
node-spellable cost counts paths (SplitNode var at) fits = (fits.1, fits.0)
node-spellable cost counts paths (LeafNode leaf) fits =
    let orderly = leaf-orderly (most_scale cost) paths leaf (most-within cost) fits in
    ((orderly.0, orderly.1, scale-spellable cost counts leaf.scale fits.scale), orderly.2)

pub nodes-fit : (cost : Option ℕ) (counts : List (VarNo × ℕ)) (paths : ℕ) (nodes : List Node) → All (IsSpellableNode (claim_by cost counts) paths) nodes → All IsNodeInRange nodes
    → AllByRecursion (FitsNode (most_scale cost) paths) nodes
nodes-fit cost counts paths nodes spellable range =
    both nodes (recursion_from_All (IsSpellableNode (claim_by cost counts) paths) nodes spellable) (recursion_from_All IsNodeInRange nodes range)
  where
    both : (ns : List Node) → AllByRecursion (IsSpellableNode (claim_by cost counts) paths) ns → AllByRecursion IsNodeInRange ns
        → AllByRecursion (FitsNode (most_scale cost) paths) ns
    both [] s r = tt
    both (n ∷ ns) s r = (node-fits cost counts paths n s.0 r.0, both ns s.1 r.1)

pub fit-nodes : (cost : Option ℕ) (counts : List (VarNo × ℕ)) (paths : ℕ) (nodes : List Node) → AllByRecursion (FitsNode (most_scale cost) paths) nodes
    → All (IsSpellableNode (claim_by cost counts) paths) nodes × All IsNodeInRange nodes
fit-nodes cost counts paths nodes fit = (
  All-from_recursion (IsSpellableNode (claim_by cost counts) paths) nodes
      (AllByRecursion-weaken (FitsNode (most_scale cost) paths) (IsSpellableNode (claim_by cost counts) paths) (λ node f. (node-spellable cost counts paths node f).0) nodes fit),
  All-from_recursion IsNodeInRange nodes
      (AllByRecursion-weaken (FitsNode (most_scale cost) paths) IsNodeInRange (λ node f. (node-spellable cost counts paths node f).1) nodes fit),
)
