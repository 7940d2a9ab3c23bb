-- Where at most one arc ends at each pin, the step between two pins is that of the one arc.
use Rattle.std.proofs.Common.{◌≡◌, ℕ, zero, suc, ◌+◌, ◌<◌, ◌==◌, ◌&&◌, List, [], ◌∷◌, map, length, cond, Bool, true, false, refl, ap, sym, ◌∙◌, arith, get_or, eq-eqb}
use Rattle.std.specs.Prelude.{Some, ℤ, pos, ◌+ℤ◌, ◌*ℤ◌, slice_get}
use Rattle.std.proofs.lemmas.Int.{ints}
use Rattle.std.proofs.lemmas.List.{get_or-map}
use Rattle.std.proofs.lemmas.Option.{slice_get_within}
use Rattle.std.proofs.Math.IntN.{zero-*ℤ, neg_ℤ-+ℤ}
use Rattle.hold_base.specs.declared.number.PinNo.{PinNo}
use Rattle.hold_base.specs.declared.time.Interval.{Interval}
use Rattle.hold_base.specs.declared.time.Side.{Side}
use Rattle.hold_base.specs.declared.time.Side.TheVariants.{Early, Late}
use Rattle.hold_graph.specs.declared.graph.Arc.{Arc}
use Rattle.hold_graph.specs.declared.problem.Spans.{Spans}
use Rattle.hold_graph.specs.Graph.{EndsOnce}
use Rattle.hold_graph.specs.Sums.{end_of, spans_between, added_from}
use Rattle.hold_base.specs.Interval.{hull_of}
use Rattle.hold_graph.specs.inner.Arrival.{signed, weight}
use Rattle.hold_graph.proofs.Places.{same_pin}

-- no arc of these ends at the pin
abbrev pub NoneEnds : List Arc → PinNo → Type 0
NoneEnds arcs b = (k : ℕ) (arc : Arc) → slice_get arcs k ≡ Some arc → arc.to.0 ≡ b.0 → ⊥

pub spans_between-none : (arcs : List Arc) (spans : List Interval) (a b : PinNo) → NoneEnds arcs b → spans_between arcs spans a b ≡ []
spans_between-none [] spans a b none = refl
spans_between-none (arc ∷ arcs) [] a b none = refl
spans_between-none (arc ∷ arcs) (span ∷ spans) a b none =
    skipped (arc.from.0 == a.0) (arc.to.0 == b.0) (λ e. none 0 arc refl (grind arith)) span (spans_between arcs spans a b)
    (spans_between-none arcs spans a b (λ k c at e. none (suc k) c at e))
  where
    skipped : (from to : Bool) → (to ≡ true → ⊥) → (span : Interval) (rest : List Interval) → rest ≡ [] →
        cond (from && to) (span ∷ rest) rest ≡ []
    skipped true true never span rest e = absurd (never refl)
    skipped true false never span rest e = e
    skipped false to never span rest e = e

EndsOnce-tail : (arc : Arc) (arcs : List Arc) → EndsOnce (arc ∷ arcs) → EndsOnce arcs
EndsOnce-tail arc arcs once = λ i j a b at_i at_j e. let s : suc i ≡ suc j = once (suc i) (suc j) a b at_i at_j e in omega arith

pub spans_between-one : (arcs : List Arc) (spans : List Interval) (k : ℕ) (arc : Arc) (d : Interval) →
    EndsOnce arcs → length spans ≡ length arcs → slice_get arcs k ≡ Some arc →
    spans_between arcs spans arc.from arc.to ≡ get_or spans k d ∷ []
spans_between-one [] spans k arc d once len at = cc
spans_between-one (x ∷ arcs) [] k arc d once len at = absurd (omega arith)
spans_between-one (x ∷ arcs) (span ∷ spans) zero arc d once len at =
    let same : x ≡ arc = grind arith in
    let from : (x.from.0 == arc.from.0) ≡ true = eq-eqb x.from.0 arc.from.0 (ap (λ (y : Arc). y.from.0) same) in
    let to : (x.to.0 == arc.to.0) ≡ true = eq-eqb x.to.0 arc.to.0 (ap (λ (y : Arc). y.to.0) same) in
    taken (x.from.0 == arc.from.0) (x.to.0 == arc.to.0) from to span (spans_between arcs spans arc.from arc.to)
    (spans_between-none arcs spans arc.from arc.to
    (λ k c at_k e. let s : 0 ≡ suc k = once 0 (suc k) x c refl at_k (same_pin x.to c.to (ap (λ (y : Arc). y.to.0) same ∙ sym e)) in omega arith))
  where
    taken : (from to : Bool) → from ≡ true → to ≡ true → (span : Interval) (rest : List Interval) → rest ≡ [] →
        cond (from && to) (span ∷ rest) rest ≡ span ∷ []
    taken true true e f span rest h = ap (λ (xs : List Interval). span ∷ xs) h
    taken true false e f span rest h = cc
    taken false to e f span rest h = cc
spans_between-one (x ∷ arcs) (span ∷ spans) (suc k) arc d once len at =
    passed (x.from.0 == arc.from.0) (x.to.0 == arc.to.0)
    (λ e. let s : 0 ≡ suc k = once 0 (suc k) x arc refl at (same_pin x.to arc.to (grind arith)) in omega arith)
    span (spans_between arcs spans arc.from arc.to) (get_or spans k d ∷ [])
    (spans_between-one arcs spans k arc d (EndsOnce-tail x arcs once) (omega arith) at)
  where
    passed : (from to : Bool) → (to ≡ true → ⊥) → (span : Interval) (rest one : List Interval) → rest ≡ one →
        cond (from && to) (span ∷ rest) rest ≡ one
    passed true true never span rest one e = absurd (never refl)
    passed true false never span rest one e = e
    passed false to never span rest one e = e

-- where no buffer stands nothing is added
pub added_from-none : (side : Side) (place : ℕ) (kinds : List Interval) → added_from side place kinds (λ kind. 0) ≡ pos 0
added_from-none side place [] = refl
added_from-none side place (kind ∷ kinds) =
    let rest : added_from side (place + 1) kinds (λ kind. 0) ≡ pos 0 = added_from-none side (place + 1) kinds in
    let none : pos 0 *ℤ end_of side kind ≡ pos 0 = zero-*ℤ (end_of side kind) in
    omega (arith, ints)

pub signed-add : (side : Side) (x y : ℤ) → signed side (x +ℤ y) ≡ signed side x +ℤ signed side y
signed-add Early x y = refl
signed-add Late x y = neg_ℤ-+ℤ x y

-- what one step adds to a path's sum, as the pass adds it
abbrev pub step_of : Side → List Arc → Spans → PinNo → PinNo → ℤ
step_of side arcs spans a b = signed side (end_of side (hull_of (spans_between arcs spans.arcs a b)) +ℤ added_from side 0 spans.kinds (λ kind. 0))

signed-with_none : (side : Side) (x y : ℤ) → y ≡ pos 0 → signed side (x +ℤ y) ≡ signed side x
signed-with_none Early x y e = omega (arith, ints)
signed-with_none Late x y e = omega (arith, ints)

pub step_of-arc : (side : Side) (arcs : List Arc) (spans : Spans) (k : ℕ) (arc : Arc) →
    EndsOnce arcs → length spans.arcs ≡ length arcs → slice_get arcs k ≡ Some arc →
    step_of side arcs spans arc.from arc.to ≡ get_or (map (weight side) spans.arcs) k (pos 0)
step_of-arc side arcs spans k arc once len at =
    let none : Interval = record { least = pos 0; greatest = pos 0 } in
    let below : k < length arcs = slice_get_within arcs k arc at in
    let span : Interval = get_or spans.arcs k none in
    let one : spans_between arcs spans.arcs arc.from arc.to ≡ span ∷ [] = spans_between-one arcs spans.arcs k arc none once len at in
    let hulled : end_of side (hull_of (spans_between arcs spans.arcs arc.from arc.to)) ≡ end_of side span = ap (λ (xs : List Interval). end_of side (hull_of xs)) one in
    signed-with_none side (end_of side (hull_of (spans_between arcs spans.arcs arc.from arc.to))) (added_from side 0 spans.kinds (λ kind. 0)) (added_from-none side 0 spans.kinds)
    ∙ ap (signed side) hulled ∙ sym (get_or-map (weight side) spans.arcs k none (pos 0) (omega arith))
