-- The spans of a step, found by the arcs into its pin.
use Rattle.std.proofs.Common.{◌≡◌, ℕ, ◌+◌, ◌<◌, ◌≤◌, ◌==◌, ◌&&◌, Bool, true, false, cond, List, [], ◌∷◌, length, get_or, drop, refl, sym, ap, ◌∙◌, subst, arith}
use Rattle.std.specs.Prelude.{Option, None, All}
use Rattle.std.proofs.lemmas.List.{get_or-drop, at_drop_all}
use Rattle.hold_graph.proofs.PlacesOf.{places_of-below}
use Rattle.hold_base.proofs.Lists.{drop-next}
use Rattle.hold_base.specs.Interval.{hull_of}
use Rattle.hold_base.specs.declared.number.PinNo.{PinNo}
use Rattle.hold_base.specs.declared.time.Interval.{Interval}
use Rattle.hold_graph.specs.declared.graph.Arc.{Arc}
use Rattle.hold_graph.specs.Adjacency.{places_of, places_into}
use Rattle.hold_graph.specs.Sums.{spans_between}
use Rattle.hold_proof.specs.inner.Places.{joined_to, joined_when, hull_or_none, hull_after, hull_over, no_arc, no_span}
use Rattle.hold_proof.proofs.PlaceLemmas.{hull_or_none-hull}

item-at : {A : Type 0} (all : List A) (first : ℕ) (item : A) (items : List A) (none : A) → drop first all ≡ item ∷ items → get_or all first none ≡ item
item-at all first item items none e =
    ap (λ k. get_or all k none) (omega arith) ∙ sym (get_or-drop first all 0 none) ∙ ap (λ xs. get_or xs 0 none) e

-- one arc: it ends at the pin or not, and comes from the other or not
one_arc : (into from : Bool) (before : Option Interval) (span : Interval) (spans : List Interval) (first : ℕ) (places : List ℕ) (over : Option Interval → List ℕ → Option Interval) →
    ((b : Option Interval) → over b (first ∷ places) ≡ over (joined_when from b span) places) → ((b : Option Interval) → over b places ≡ hull_after b spans) →
    over before (cond into (first ∷ places) places) ≡ hull_after before (cond (from && into) (span ∷ spans) spans)
one_arc true true before span spans first places over here rest = here before ∙ rest (joined_to before span)
one_arc true false before span spans first places over here rest = here before ∙ rest before
one_arc false true before span spans first places over here rest = rest before
one_arc false false before span spans first places over here rest = rest before

hull_over-places : (all : List Arc) (all_spans : List Interval) (from to : PinNo) (first : ℕ) (arcs : List Arc) (spans : List Interval) (before : Option Interval) →
    drop first all ≡ arcs → drop first all_spans ≡ spans → length spans ≡ length arcs →
    hull_over all all_spans from before (places_of (λ arc. arc.to.0 == to.0) first arcs) ≡ hull_after before (spans_between arcs spans from to)
hull_over-places all all_spans from to first [] spans before arcs_are spans_are each = refl
hull_over-places all all_spans from to first (arc ∷ arcs) [] before arcs_are spans_are each = absurd (omega arith)
hull_over-places all all_spans from to first (arc ∷ arcs) (span ∷ spans) before arcs_are spans_are each =
    one_arc (arc.to.0 == to.0) (arc.from.0 == from.0) before span (spans_between arcs spans from to) first (places_of (λ a. a.to.0 == to.0) (first + 1) arcs) (hull_over all all_spans from)
    (λ b. ap (λ a. hull_over all all_spans from (joined_when (a.from.0 == from.0) b (get_or all_spans first no_span)) (places_of (λ a. a.to.0 == to.0) (first + 1) arcs)) (item-at all first arc arcs no_arc arcs_are)
    ∙ ap (λ s. hull_over all all_spans from (joined_when (arc.from.0 == from.0) b s) (places_of (λ a. a.to.0 == to.0) (first + 1) arcs)) (item-at all_spans first span spans no_span spans_are))
    (λ b. hull_over-places all all_spans from to (first + 1) arcs spans b (drop-next all first arc arcs arcs_are) (drop-next all_spans first span spans spans_are) (omega arith))

-- the hull of a step
pub step-hull : (arcs : List Arc) (spans : List Interval) (from to : PinNo) → length spans ≡ length arcs →
    hull_or_none (hull_over arcs spans from None (places_into arcs to)) ≡ hull_of (spans_between arcs spans from to)
step-hull arcs spans from to each =
    ap hull_or_none (hull_over-places arcs spans from to 0 arcs spans None refl refl each) ∙ hull_or_none-hull (spans_between arcs spans from to)

-- each place among those of the arcs into a pin is there
pub place-there : (arcs lent : List Arc) (places : List ℕ) (to : PinNo) (i : ℕ) → places ≡ places_into arcs to → lent ≡ arcs → i < length places → get_or places i 0 < length lent
place-there arcs lent places to i are same below =
    let whole : All (λ place. place < 0 + length arcs) places = subst (All (λ place. place < 0 + length arcs)) (sym are) (places_of-below (λ arc. arc.to.0 == to.0) 0 arcs) in
    let here : get_or places i 0 < 0 + length arcs = whole i 0 below in
    let long = ap length same in
    omega (arith, here, long)

pub step-end : (arcs lent : List Arc) (spans : List Interval) (from to : PinNo) (places : List ℕ) (i : ℕ) (hull : Option Interval) → places ≡ places_into arcs to → lent ≡ arcs → length spans ≡ length arcs → length places ≤ i →
    hull_over lent spans from hull (drop i places) ≡ hull_over lent spans from None places → hull_or_none hull ≡ hull_of (spans_between arcs spans from to)
step-end arcs lent spans from to places i hull are same each end so_far =
    let last : hull ≡ hull_over lent spans from None places = sym (at_drop_all (hull_over lent spans from hull) places i end) ∙ so_far in
    ap hull_or_none (last ∙ ap (hull_over lent spans from None) are ∙ ap (λ l. hull_over l spans from None (places_into arcs to)) same) ∙ step-hull arcs spans from to each
