-- The least value of a leaf over a box, from its factors.
use Rattle.std.proofs.Common.{◌≡◌, ℕ, zero, suc, ◌*◌, List, [], ◌∷◌, length, replicate, refl, sym, ◌∙◌, subst, ◌↔◌, arith}
use Rattle.std.specs.Prelude.{Bool, IsTrue, ℤ, pos, ◌+ℤ◌, ◌-ℤ◌, ◌≤ℤ◌}
use Rattle.std.proofs.lemmas.Int.{ints}
use Rattle.std.proofs.lemmas.List.{length-replicate}
use Rattle.hold_base.specs.declared.number.PinNo.{PinNo}
use Rattle.hold_graph.specs.declared.problem.Problem.{Problem}
use Rattle.hold_graph.specs.declared.problem.Listed.{Listed}
use Rattle.hold_graph.specs.Problem.{IsValid}
use Rattle.hold_graph.specs.Sites.{cost_of}
use Rattle.hold_graph.specs.declared.boxed.Boxed.{Boxed}
use Rattle.hold_proof.specs.declared.node.Leaf.{Leaf}
use Rattle.hold_graph.specs.Boxes.{IsBox, AreWithin, IsPoint}
use Rattle.hold_proof.specs.InForce.{InForce}
use Rattle.hold_proof.specs.Values.{leaf_value, IsBeta}
use Rattle.hold_proof.specs.Closing.{IsFit, IsAbove, Closes}
use Rattle.hold_proof.specs.inner.Forms.{form_value, added}
use Rattle.hold_proof.specs.inner.Gaps.{gaps}
use Rattle.hold_proof.specs.inner.LeafTerms.{leaf_free, leaf_terms}
use Rattle.hold_proof.proofs.FormLemmas.{AreBelow, form_value-added, length-added}
use Rattle.hold_proof.proofs.GapLemmas.{gaps-bound, gaps-attained}
use Rattle.hold_proof.proofs.TermLemmas.{leaf_value-terms}
use Rattle.hold_proof.proofs.VarLemmas.{leaf_terms-below}

form_value-none : (n : ℕ) (counts : List ℕ) → form_value (replicate n (pos 0)) counts ≡ pos 0
form_value-none zero counts = refl
form_value-none (suc n) [] = refl
form_value-none (suc n) (count ∷ counts) = let rest = form_value-none n counts in omega (arith, ints, rest)

within-long : (lows highs counts : List ℕ) → AreWithin lows highs counts → length counts ≡ length lows
within-long [] [] [] h = refl
within-long [] [] (count ∷ counts) h = absurd h
within-long [] (high ∷ highs) counts h = absurd h
within-long (low ∷ lows) [] counts h = absurd h
within-long (low ∷ lows) (high ∷ highs) [] h = absurd h
within-long (low ∷ lows) (high ∷ highs) (count ∷ counts) h = let rest = within-long lows highs counts h.2 in omega (arith, rest)

-- the factors of a leaf
abbrev pub leaf_factors : Problem → List PinNo → List Listed → Leaf → List ℤ
leaf_factors problem sites paths leaf = added (leaf_terms problem sites paths leaf) (replicate (length sites * length problem.costs) (pos 0))

-- a leaf's value at counts, from its factors
leaf_value-factors : (problem : Problem) (sites : List PinNo) (paths : List Listed) (leaf : Leaf) (counts : List ℕ) → IsValid problem → IsFit problem sites paths leaf →
    length counts ≡ length sites * length problem.costs →
    leaf_value problem sites paths leaf counts
    ≡ (pos (leaf.scale * cost_of problem.costs counts) +ℤ form_value (leaf_factors problem sites paths leaf) counts) -ℤ leaf_free problem paths leaf
leaf_value-factors problem sites paths leaf counts valid fit each =
    let value = leaf_value-terms problem sites paths leaf counts in
    let long = length-replicate (length sites * length problem.costs) (pos 0) in
    let below : AreBelow (length (replicate (length sites * length problem.costs) (pos 0))) (leaf_terms problem sites paths leaf) =
    subst (λ n. AreBelow n (leaf_terms problem sites paths leaf)) (sym long) (leaf_terms-below problem sites paths leaf valid.corners fit.sites_there) in
    let factors = form_value-added (leaf_terms problem sites paths leaf) (replicate (length sites * length problem.costs) (pos 0)) counts below (each ∙ sym long) in
    let none = form_value-none (length sites * length problem.costs) counts in
    omega (arith, ints, value, factors, none)

-- the least value of a leaf over a box
abbrev pub leaf_beta : Problem → List PinNo → List Listed → Boxed → Leaf → ℤ
leaf_beta problem sites paths box leaf =
    (pos (leaf.scale * cost_of problem.costs box.low) +ℤ gaps problem.costs leaf.scale 0 (leaf_factors problem sites paths leaf) box.low box.high)
    -ℤ leaf_free problem paths leaf

length-leaf_factors : (problem : Problem) (sites : List PinNo) (paths : List Listed) (leaf : Leaf) → length (leaf_factors problem sites paths leaf) ≡ length sites * length problem.costs
length-leaf_factors problem sites paths leaf =
    length-added (leaf_terms problem sites paths leaf) (replicate (length sites * length problem.costs) (pos 0)) ∙ length-replicate (length sites * length problem.costs) (pos 0)

leaf_beta-bound : (problem : Problem) (sites : List PinNo) (paths : List Listed) (box : Boxed) (leaf : Leaf) → IsValid problem → IsFit problem sites paths leaf → IsBox problem sites box →
    (counts : List ℕ) → IsPoint box counts → leaf_beta problem sites paths box leaf ≤ℤ leaf_value problem sites paths leaf counts
leaf_beta-bound problem sites paths box leaf valid fit is_box counts point =
    let long = within-long box.low box.high counts point in
    let value = leaf_value-factors problem sites paths leaf counts valid fit (long ∙ is_box.each) in
    let least = gaps-bound problem.costs leaf.scale 0 (leaf_factors problem sites paths leaf) box.low box.high counts
    (length-leaf_factors problem sites paths leaf ∙ sym is_box.each) point in
    omega (arith, ints, value, least)

pub leaf_beta-is : (problem : Problem) (sites : List PinNo) (paths : List Listed) (box : Boxed) (leaf : Leaf) → IsValid problem → IsFit problem sites paths leaf → IsBox problem sites box →
    IsBeta problem sites paths leaf box (leaf_beta problem sites paths box leaf)
leaf_beta-is problem sites paths box leaf valid fit is_box =
    let found = gaps-attained problem.costs leaf.scale 0 (leaf_factors problem sites paths leaf) box.low box.high
    (length-leaf_factors problem sites paths leaf ∙ sym is_box.each) is_box.ordered in
    let value = leaf_value-factors problem sites paths leaf found.0 valid fit (within-long box.low box.high found.0 found.1 ∙ is_box.each) in
    let comes = found.2 in
    record {
      attained = (found.0, found.1, omega (arith, ints, value, comes));
      bound = leaf_beta-bound problem sites paths box leaf valid fit is_box;
    }

-- a leaf has one least value over a box
beta-one : (problem : Problem) (sites : List PinNo) (paths : List Listed) (leaf : Leaf) (box : Boxed) (a b : ℤ) → IsBeta problem sites paths leaf box a → IsBeta problem sites paths leaf box b → a ≡ b
beta-one problem sites paths leaf box a b first second =
    let at_b = second.attained in
    let at_a = first.attained in
    let less = first.bound at_b.0 at_b.1 in
    let more = second.bound at_a.0 at_a.1 in
    let b_is = at_b.2 in
    let a_is = at_a.2 in
    omega (arith, ints, less, more, a_is, b_is)

-- so a fit leaf closes exactly where that value is above what is asked
pub closes-above : (problem : Problem) (sites given : List PinNo) (paths : List Listed) (force : InForce) (leaf : Leaf) (beta : ℤ) (test : Bool) → sites ≡ given → IsFit problem sites paths leaf →
    IsBeta problem sites paths leaf force.within beta → IsTrue test ↔ IsAbove leaf.scale force.below beta → IsTrue test ↔ Closes problem given paths force leaf
closes-above problem sites given paths force leaf beta test same fit is tested =
    subst (λ s. IsTrue test ↔ Closes problem s paths force leaf) same (
      λ true. record { fit = fit; beta = beta; least = is; above = tested.0 true },
      λ closes. tested.1 (subst (IsAbove leaf.scale force.below) (beta-one problem sites paths leaf force.within closes.beta beta closes.least is) closes.above),
    )
