-- The work on a leaf: its terms are added to factors of 0, and settled again.
use Rattle.std.proofs.Common.{◌≡◌, ℕ, zero, suc, ◌*◌, ◌<◌, ◌≤◌, List, length, replicate, refl, sym, ap, ◌∙◌, subst, arith}
use Rattle.std.specs.Prelude.{ℤ, pos, ◌+ℤ◌, ◌-ℤ◌, All}
use Rattle.std.proofs.lemmas.Int.{ints}
use Rattle.std.proofs.lemmas.List.{length-replicate}
use Rattle.std.proofs.Math.Nat.{mul_comm, mul-le-mul_right}
use Rattle.std.proofs.lemmas.Slice.Zip.{AllZip-long}
use Rattle.hold_base.specs.Limits.{cost_limit, kinds_limit}
use Rattle.hold_base.specs.declared.number.PathNo.{PathNo}
use Rattle.hold_base.specs.declared.number.PinNo.{PinNo}
use Rattle.hold_base.specs.declared.number.SiteNo.{SiteNo}
use Rattle.hold_graph.specs.Boxes.{IsBox}
use Rattle.hold_graph.specs.Problem.{IsValid}
use Rattle.hold_graph.specs.Graph.{NamesItsPins}
use Rattle.hold_graph.specs.Sites.{AreSites, cost_of}
use Rattle.hold_graph.specs.declared.boxed.Boxed.{Boxed}
use Rattle.hold_graph.specs.declared.problem.Listed.{Listed}
use Rattle.hold_graph.specs.declared.problem.Problem.{Problem}
use Rattle.hold_proof.specs.declared.node.Leaf.{Leaf}
use Rattle.hold_proof.specs.declared.paths.Over.{Over}
use Rattle.hold_proof.specs.Closing.{weight_limit, IsFit}
use Rattle.hold_proof.specs.Values.{IsBeta}
use Rattle.hold_proof.specs.inner.Basis.{total}
use Rattle.hold_proof.specs.inner.Changes.{IsRaised, IsSettled, norm_limit, path_unit, vars_limit}
use Rattle.hold_proof.specs.inner.Forms.{added, cleared}
use Rattle.hold_proof.specs.inner.Gaps.{gaps}
use Rattle.hold_proof.specs.inner.LeafTerms.{chains_terms, chains_vars, leaf_free, leaf_terms, leaf_vars, paths_terms, paths_vars}
use Rattle.hold_proof.specs.inner.Over.{IsOver}
use Rattle.hold_proof.specs.inner.Walk.{box_at}
use Rattle.hold_proof.proofs.BetaLemmas.{leaf_beta, leaf_beta-is, leaf_factors}
use Rattle.hold_proof.proofs.ChangeLemmas.{raised-then, settled-then}
use Rattle.hold_proof.proofs.FormLemmas.{cleared-added, cleared-replicate}
use Rattle.hold_proof.proofs.GapLemmas.{gaps-none}
use Rattle.hold_proof.proofs.SiteLemmas.{sites-few}
use Rattle.hold_proof.proofs.VarLemmas.{term_vars, term_vars-leaf, terms-among}
use Rattle.hold_proof.proofs.WeighLemmas.{weight-totals}

-- the weight of a fit leaf bounds both totals
pub record AreLight (leaf : Leaf) : Type 0 where
  pub paths : total leaf.paths ≤ weight_limit
  pub chains : total leaf.chains ≤ weight_limit
  pub scale : leaf.scale ≤ weight_limit

pub fit-light : (problem : Problem) (sites : List PinNo) (paths : List Listed) (leaf : Leaf) → IsFit problem sites paths leaf → AreLight leaf
fit-light problem sites paths leaf fit =
    let whole = weight-totals leaf in
    let limit = fit.orderly.weight in
    record { paths = omega (arith, whole, limit); chains = omega (arith, whole, limit); scale = omega (arith, whole, limit) }

-- the norm of factors that were 0, once all terms are added, and what is free of buffers
pub leaf-raised : (problem : Problem) (sites : List PinNo) (paths : List Listed) (leaf : Leaf) (none one two : List ℤ) → IsFit problem sites paths leaf →
    IsRaised (paths_terms problem sites paths leaf.paths) (total leaf.paths * path_unit) none one → IsRaised (chains_terms (length problem.costs) leaf.chains) (total leaf.chains * kinds_limit) one two →
    IsRaised (leaf_terms problem sites paths leaf) norm_limit none two
leaf-raised problem sites paths leaf none one two fit first second =
    let light = fit-light problem sites paths leaf fit in
    let few = light.paths in
    let fewer = light.chains in
    raised-then (paths_terms problem sites paths leaf.paths) (chains_terms (length problem.costs) leaf.chains) (total leaf.paths * path_unit) (total leaf.chains * kinds_limit) norm_limit none one two first second
    (omega (arith, few, fewer))

-- what is added to factors of 0 is cleared again
pub leaf-clear : (problem : Problem) (sites : List PinNo) (paths : List Listed) (leaf : Leaf) (n scale : ℕ) (lows highs : List ℕ) (none two four : List ℤ) (gaps : ℤ) → IsValid problem → none ≡ replicate n (pos 0) →
    IsRaised (leaf_terms problem sites paths leaf) norm_limit none two → IsSettled problem.costs scale lows highs (leaf_vars problem sites paths leaf) two four gaps → four ≡ none
leaf-clear problem sites paths leaf n scale lows highs none two four gaps valid clear raised settled =
    let vars = term_vars-leaf problem sites paths leaf valid.corners in
    settled.factors
    ∙ ap (cleared (leaf_vars problem sites paths leaf)) raised.factors
    ∙ ap (λ v. cleared v (added (leaf_terms problem sites paths leaf) none)) (sym vars)
    ∙ cleared-added (leaf_terms problem sites paths leaf) (term_vars (leaf_terms problem sites paths leaf)) none (terms-among (leaf_terms problem sites paths leaf))
    ∙ ap (cleared (term_vars (leaf_terms problem sites paths leaf))) clear
    ∙ cleared-replicate (term_vars (leaf_terms problem sites paths leaf)) n
    ∙ sym clear

-- the gaps that were summed up are those of the leaf's factors
leaf-gaps : (problem : Problem) (sites : List PinNo) (paths : List Listed) (leaf : Leaf) (scale : ℕ) (lows highs : List ℕ) (none two four : List ℤ) (sum : ℤ) → IsValid problem →
    none ≡ replicate (length sites * length problem.costs) (pos 0) →
    IsRaised (leaf_terms problem sites paths leaf) norm_limit none two → IsSettled problem.costs scale lows highs (leaf_vars problem sites paths leaf) two four sum →
    sum ≡ gaps problem.costs scale 0 (leaf_factors problem sites paths leaf) lows highs
leaf-gaps problem sites paths leaf scale lows highs none two four sum valid clear raised settled =
    let whole = settled.gaps in
    let end = leaf-clear problem sites paths leaf _ scale lows highs none two four sum valid clear raised settled ∙ clear in
    let gone = ap (λ f. gaps problem.costs scale 0 f lows highs) end ∙ gaps-none problem.costs scale 0 (length sites * length problem.costs) lows highs in
    let begun = ap (λ f. gaps problem.costs scale 0 f lows highs) (raised.factors ∙ ap (added (leaf_terms problem sites paths leaf)) clear) in
    omega (arith, ints, whole, gone, begun)

over-box : (problem : Problem) (sites : List PinNo) (over : Over) (vars : ℕ) → IsOver vars over → vars ≡ length sites * length problem.costs → IsBox problem sites (box_at over.low.now over.high.now)
over-box problem sites over vars is same = record { each = is.low_each ∙ same; ordered = is.ordered; most = is.most }

-- so the work comes to beta
pub leaf-beta : (problem : Problem) (sites : List PinNo) (paths : List Listed) (leaf : Leaf) (over : Over) (none two four : List ℤ) (sum free result : ℤ) (cost : ℕ) →
    IsValid problem → IsFit problem sites paths leaf → IsOver (length none) over → over.costs.now ≡ problem.costs → over.scale ≡ leaf.scale → cost ≡ cost_of over.costs.now over.low.now →
    none ≡ replicate (length sites * length problem.costs) (pos 0) →
    IsRaised (leaf_terms problem sites paths leaf) norm_limit none two → IsSettled problem.costs over.scale over.low.now over.high.now (leaf_vars problem sites paths leaf) two four sum →
    free ≡ leaf_free problem paths leaf → result ≡ (pos (cost * over.scale) +ℤ sum) -ℤ free → IsBeta problem sites paths leaf (box_at over.low.now over.high.now) result
leaf-beta problem sites paths leaf over none two four sum free result cost valid fit is_over same scale_is cost_is clear raised settled free_is value =
    let vars = ap (λ l. length l) clear ∙ length-replicate (length sites * length problem.costs) (pos 0) in
    let beta = leaf_beta-is problem sites paths (box_at over.low.now over.high.now) leaf valid fit (over-box problem sites over (length none) is_over vars) in
    let gaps_are = leaf-gaps problem sites paths leaf over.scale over.low.now over.high.now none two four sum valid clear raised settled
    ∙ ap (λ s. gaps problem.costs s 0 (leaf_factors problem sites paths leaf) over.low.now over.high.now) scale_is in
    let costs : cost * over.scale ≡ leaf.scale * cost_of problem.costs over.low.now =
    mul_comm cost over.scale ∙ ap (λ n. n * cost) scale_is ∙ ap (λ n. leaf.scale * n) (cost_is ∙ ap (λ c. cost_of c over.low.now) same) in
    let is : result ≡ leaf_beta problem sites paths (box_at over.low.now over.high.now) leaf = omega (arith, ints, value, gaps_are, costs, free_is) in
    rw is beta

-- what is settled of a leaf's paths and limits
pub leaf-settled : (problem : Problem) (sites : List PinNo) (paths : List Listed) (leaf : Leaf) (over : Over) (terms : List (PathNo × ℕ)) (chains : List (SiteNo × ℕ)) (old now new : List ℤ) (a b : ℤ) →
    over.costs.now ≡ problem.costs → terms ≡ leaf.paths → chains ≡ leaf.chains →
    IsSettled over.costs.now over.scale over.low.now over.high.now (paths_vars problem sites paths terms) old now a →
    IsSettled over.costs.now over.scale over.low.now over.high.now (chains_vars (length over.costs.now) chains) now new b →
    IsSettled problem.costs over.scale over.low.now over.high.now (leaf_vars problem sites paths leaf) old new (a +ℤ b)
leaf-settled problem sites paths leaf over terms chains old now new a b same terms_are chains_are first second =
    settled-then problem.costs over.scale over.low.now over.high.now (paths_vars problem sites paths leaf.paths) (chains_vars (length problem.costs) leaf.chains) old now new a b
    (subst (λ costs. IsSettled costs over.scale over.low.now over.high.now (paths_vars problem sites paths leaf.paths) old now a) same
    (subst (λ t. IsSettled over.costs.now over.scale over.low.now over.high.now (paths_vars problem sites paths t) old now a) terms_are first))
    (subst (λ costs. IsSettled costs over.scale over.low.now over.high.now (chains_vars (length costs) leaf.chains) now new b) same
    (subst (λ t. IsSettled over.costs.now over.scale over.low.now over.high.now (chains_vars (length over.costs.now) t) now new b) chains_are second))

-- a box with the costs and the scale that it is worked over with
pub box-over : (problem : Problem) (sites : List PinNo) (over : Over) (vars : ℕ) → IsBox problem sites (box_at over.low.now over.high.now) → vars ≡ length sites * length problem.costs →
    over.scale ≤ weight_limit → All (λ cost. cost ≤ cost_limit) over.costs.now → IsOver vars over
box-over problem sites over vars box same scale costs =
    let long : length over.high.now ≡ length over.low.now = AllZip-long (λ low high. low ≤ high) over.low.now over.high.now box.ordered in
    let low : length over.low.now ≡ vars = box.each ∙ sym same in
    record { low_each = low; high_each = long ∙ low; ordered = box.ordered; most = box.most; scale = scale; costs = costs }

-- a box of a problem has no more variables than a problem may have
pub box-few : (problem : Problem) (sites : List PinNo) (box : Boxed) → IsValid problem → NamesItsPins problem.graph → AreSites problem.graph sites → IsBox problem sites box → length box.low ≤ vars_limit
box-few problem sites box valid names are is =
    let few = sites-few problem.graph sites names are in
    let pins = valid.pins in
    let short : length sites ≤ 1048576 = omega (arith, few, pins) in
    let wide = mul-le-mul_right (length problem.costs) short in
    let kinds = valid.kinds in
    let each = is.each in
    omega (arith, wide, kinds, each)

-- and where it has one there is a kind
pub box-kinds : (problem : Problem) (sites : List PinNo) (box : Boxed) → IsBox problem sites box → 0 < length box.low → 0 < length problem.costs
box-kinds problem sites box is some = by (length problem.costs) refl
  where
    by : (n : ℕ) → n ≡ length problem.costs → 0 < length problem.costs
    by zero none =
        let no_vars = ap (λ n. length sites * n) none in
        let each = is.each in
        absurd (omega (arith, no_vars, each))
    by (suc n) more = omega arith

pub same-box : (box : Boxed) (low high : List ℕ) → low ≡ box.low → high ≡ box.high → box_at low high ≡ box
same-box box low high low_is high_is = ap (λ l. box_at l high) low_is ∙ ap (λ h. box_at box.low h) high_is
