-- A tree that proves bounds each point of its box that is a buffering and meets. One induction over the tree, in which what
-- is in force is a parameter: each sort of node has a case of its own, which says what it makes of it.
use Rattle.std.proofs.Common.{◌≡◌, ℕ, zero, suc, ◌*◌, ◌<◌, ◌≤◌, List, [], ◌∷◌, length, refl, ap, subst, inl, inr, arith}
use Rattle.std.specs.Prelude.{Option, Some, None, slice_get, All, ℤ, pos, ◌-ℤ◌, ◌*ℤ◌, ◌≤ℤ◌, ◌<ℤ◌}
use Rattle.std.proofs.lemmas.Int.{ints}
use Rattle.std.proofs.lemmas.Bool.{cases_order}
use Rattle.std.proofs.lemmas.List.Elements.{All-head, All-tail}
use Rattle.std.proofs.Math.Nat.{mul-le-mul_left}
use Rattle.hold_base.specs.declared.number.PathNo.{PathNo}
use Rattle.hold_base.specs.declared.number.PinNo.{PinNo}
use Rattle.hold_base.specs.declared.number.SiteNo.{SiteNo}
use Rattle.hold_graph.specs.declared.problem.Spans.{Spans}
use Rattle.hold_graph.specs.declared.problem.Problem.{Problem}
use Rattle.hold_graph.specs.declared.problem.Listed.{Listed}
use Rattle.hold_graph.specs.Path.{IsCheckedPath}
use Rattle.hold_graph.specs.Met.{IsMet}
use Rattle.hold_graph.specs.Sites.{AreSites, IsBuffering, buffers_of, chain_sum, cost_of, Meets}
use Rattle.hold_proof.specs.declared.node.Leaf.{Leaf}
use Rattle.hold_proof.specs.Tree.{ProofTree, Ends, Splits}
use Rattle.hold_proof.specs.Values.{excess_in, listed_excess, chain_left, paths_value, chains_value}
use Rattle.hold_proof.specs.InForce.{InForce, Obeys, IsShown, at_root, in_lower, in_upper}
use Rattle.hold_proof.specs.Closing.{ListsChecked, IsAbove, Closes}
use Rattle.hold_proof.specs.Proving.{Proves}
use Rattle.hold_proof.specs.Least.{IsLeast, NoneMeets}
use Rattle.hold_proof.proofs.Products.{times-least}
use Rattle.hold_graph.proofs.BoxLemmas.{in_a_half, buffering-in_root}

-- the excess of a listed checked path of counts that meet is at least 0
excess_in-least : (problem : Problem) (sites : List PinNo) (counts : List ℕ) (path : Listed) (o : Option Spans) →
    IsMet problem (buffers_of (length problem.costs) sites counts) → IsCheckedPath problem.graph path.pins →
    slice_get problem.corners path.corner.0 ≡ o → pos 0 ≤ℤ excess_in problem sites counts path o
excess_in-least problem sites counts path None met checked is = omega (arith, ints)
excess_in-least problem sites counts path (Some spans) met checked is = met path.corner.0 spans is path.side path.pins checked

listed_excess-least : (problem : Problem) (sites : List PinNo) (paths : List Listed) (counts : List ℕ) (number : PathNo) →
    IsMet problem (buffers_of (length problem.costs) sites counts) → ListsChecked problem paths number →
    pos 0 ≤ℤ listed_excess problem sites counts (slice_get paths number.0)
listed_excess-least problem sites paths counts number met listed =
    rw listed.at (excess_in-least problem sites counts listed.path (slice_get problem.corners listed.path.corner.0) met listed.of_problem.checked refl)

paths_value-least : (problem : Problem) (sites : List PinNo) (paths : List Listed) (counts : List ℕ) (terms : List (PathNo × ℕ)) →
    IsMet problem (buffers_of (length problem.costs) sites counts) → All (λ (term : PathNo × ℕ). ListsChecked problem paths term.0) terms →
    pos 0 ≤ℤ paths_value problem sites paths counts terms
paths_value-least problem sites paths counts [] met listed = omega (arith, ints)
paths_value-least problem sites paths counts (term ∷ terms) met listed =
    let first = times-least term.1 (listed_excess problem sites counts (slice_get paths term.0.0))
    (listed_excess-least problem sites paths counts term.0 met (All-head (λ (t : PathNo × ℕ). ListsChecked problem paths t.0) term terms listed)) in
    let rest = paths_value-least problem sites paths counts terms met (All-tail (λ (t : PathNo × ℕ). ListsChecked problem paths t.0) term terms listed) in
    omega (arith, ints, first, rest)

chains_value-least : (problem : Problem) (sites : List PinNo) (counts : List ℕ) (terms : List (SiteNo × ℕ)) →
    IsBuffering problem sites counts → All (λ (term : SiteNo × ℕ). term.0.0 < length sites) terms →
    pos 0 ≤ℤ chains_value problem counts terms
chains_value-least problem sites counts [] buffering there = omega (arith, ints)
chains_value-least problem sites counts (term ∷ terms) buffering there =
    let within : chain_sum (length problem.costs) counts term.0.0 ≤ problem.max_chain =
    buffering.chains term.0.0 (All-head (λ (t : SiteNo × ℕ). t.0.0 < length sites) term terms there) in
    let some : pos 0 ≤ℤ chain_left problem counts term.0.0 = omega (arith, ints, within) in
    let first = times-least term.1 (chain_left problem counts term.0.0) some in
    let rest = chains_value-least problem sites counts terms buffering (All-tail (λ (t : SiteNo × ℕ). t.0.0 < length sites) term terms there) in
    omega (arith, ints, first, rest)

-- a bound that a scale's cost passes one less of
scaled-bound : (scale bound cost : ℕ) → (pos scale *ℤ (pos bound -ℤ pos 1)) <ℤ pos (scale * cost) → bound ≤ cost
scaled-bound scale zero cost h = omega arith
scaled-bound scale (suc bound) cost h = elim (cases_order cost bound) [
  | inl same ↦ absurd (omega (arith, ints, at_least (omega arith), above))
  | inr other ↦ elim other [ inl below ↦ absurd (omega (arith, ints, at_least (omega arith), above)) | inr more ↦ omega arith ]
]
  where
    one_less : pos (suc bound) -ℤ pos 1 ≡ pos bound
    one_less = omega (arith, ints)

    above : pos (scale * bound) <ℤ pos (scale * cost)
    above = subst (λ (z : ℤ). (pos scale *ℤ z) <ℤ pos (scale * cost)) one_less h

    at_least : cost ≤ bound → scale * cost ≤ scale * bound
    at_least = mul-le-mul_left scale

above-bounds : (scale : ℕ) (below : Option ℕ) (cost : ℕ) (beta : ℤ) → IsAbove scale below beta → beta ≤ℤ pos (scale * cost) → IsShown below cost
above-bounds scale (Some bound) cost beta above most = scaled-bound scale bound cost (omega (arith, ints, above, most))
above-bounds scale None cost beta above most =
    let none : scale * cost ≡ 0 * cost = ap (λ n. n * cost) above.0 in
    let some = above.1 in
    omega (arith, ints, none, some, most)

-- the case of a leaf
pub leaf-bounds : (problem : Problem) (sites : List PinNo) (paths : List Listed) (force : InForce) (leaf : Leaf) (counts : List ℕ) →
    Closes problem sites paths force leaf → Obeys force counts → Meets problem sites counts →
    IsShown force.below (cost_of problem.costs counts)
leaf-bounds problem sites paths force leaf counts closes point meets =
    let over_paths = paths_value-least problem sites paths counts leaf.paths meets.met closes.fit.paths_checked in
    let over_chains = chains_value-least problem sites counts leaf.chains meets.buffering closes.fit.sites_there in
    let least = closes.least.bound counts point in
    above-bounds leaf.scale force.below (cost_of problem.costs counts) closes.beta closes.above (omega (arith, ints, over_paths, over_chains, least))

-- a tree that proves bounds each point of its box that is a buffering and meets
pub tree-bounds : (problem : Problem) (sites : List PinNo) (paths : List Listed) (force : InForce) (tree : ProofTree) (counts : List ℕ) →
    Proves problem sites paths force tree → Obeys force counts → Meets problem sites counts →
    IsShown force.below (cost_of problem.costs counts)
tree-bounds problem sites paths force (Ends leaf) counts proves point meets = leaf-bounds problem sites paths force leaf counts proves point meets
tree-bounds problem sites paths force (Splits var at lower upper) counts proves point meets =
    elim (in_a_half force.within counts var at point) [
      | inl low ↦ tree-bounds problem sites paths (in_lower var at force) lower counts proves.1 low meets
      | inr high ↦ tree-bounds problem sites paths (in_upper var at force) upper counts proves.2 high meets
    ]

-- a proof over all counts of the counts' own cost: they are least
pub proved-least : (problem : Problem) (sites : List PinNo) (paths : List Listed) (tree : ProofTree) (counts : List ℕ) → Meets problem sites counts →
    Proves problem sites paths (at_root problem sites (Some (cost_of problem.costs counts))) tree → IsLeast problem sites counts
proved-least problem sites paths tree counts meets proves = record {
  meets = meets;
  least = λ others met. tree-bounds problem sites paths (at_root problem sites (Some (cost_of problem.costs counts))) tree others proves
      (buffering-in_root problem sites others met.buffering) met;
}

-- a proof over all counts without a bound: none meets
pub proved-none : (problem : Problem) (sites : List PinNo) (paths : List Listed) (tree : ProofTree) → AreSites problem.graph sites →
    Proves problem sites paths (at_root problem sites None) tree → NoneMeets problem sites
proved-none problem sites paths tree of_graph proves = record {
  of_graph = of_graph;
  none = λ counts met. tree-bounds problem sites paths (at_root problem sites None) tree counts proves
      (buffering-in_root problem sites counts met.buffering) met;
}
