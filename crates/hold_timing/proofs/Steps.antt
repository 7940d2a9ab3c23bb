-- The hull of the spans of parallel arcs: one arc has its worst end, and none a worse one.
use Rattle.std.proofs.Common.{◌≡◌, ℕ, zero, suc, ◌<◌, ◌==◌, ◌&&◌, List, [], ◌∷◌, map, length, Bool, true, false, cond, refl, ap, sym, ◌∙◌, arith, get_or, eq-eqb, ◌⊎◌, inl, inr, subst}
use Rattle.std.specs.Prelude.{Option, Some, None, ℤ, slice_get, fold, Contains, pos, option_map}
use Rattle.std.proofs.lemmas.Option.{same_Some, none-some, slice_get-map, slice_get_within, slice_get_read, slice_get-get_or, get_or_from_slice_get}
use Rattle.hold_base.specs.declared.number.PinNo.{PinNo}
use Rattle.hold_base.specs.declared.time.Interval.{Interval}
use Rattle.hold_base.specs.declared.time.Side.{Side}
use Rattle.hold_base.specs.declared.time.Side.TheVariants.{Early, Late}
use Rattle.hold_base.specs.Interval.{hull, hull_of}
use Rattle.hold_graph.specs.declared.graph.Arc.{Arc}
use Rattle.hold_graph.specs.Path.{HasArc}
use Rattle.hold_graph.specs.Sums.{end_of, items_at, spans_between}
use Rattle.hold_timing.specs.Worst.{AsBad, IsAsBad}
use Rattle.hold_timing.specs.inner.Pass.{worst_from, worse_of, step_at}
use Rattle.hold_timing.proofs.WorstOf.{AsBad-same, IsAsBad-own, worst_from-each, worst_from-one, IsTimeOf}

-- the ends that the side looks at
abbrev pub ends : Side → List Interval → List (Option ℤ)
ends side spans = map (λ (span : Interval). Some (end_of side span)) spans

end_of-hull : (side : Side) (a b : Interval) → worse_of side (end_of side a) (end_of side b) ≡ end_of side (hull a b)
end_of-hull Early a b = refl
end_of-hull Late a b = refl

worst_from-fold : (side : Side) (first : Interval) (spans : List Interval) →
    worst_from side (Some (end_of side first)) (ends side spans) ≡ Some (end_of side (fold hull first spans))
worst_from-fold side first [] = refl
worst_from-fold side first (span ∷ spans) =
    ap (λ (t : ℤ). worst_from side (Some t) (ends side spans)) (end_of-hull side first span)
    ∙ worst_from-fold side (hull first span) spans

-- an item of a list
pub record IsItem {X : Type 0} (xs : List X) (x : X) : Type 0 where
  pub place : ℕ
  pub at : slice_get xs place ≡ Some x

-- the worst of the ends is that of the hull, where there is a span
pub worst_from-hull : (side : Side) (spans : List Interval) (span : Interval) → IsItem spans span →
    worst_from side None (ends side spans) ≡ Some (end_of side (hull_of spans))
worst_from-hull side [] span h = absurd (none-some span h.at)
worst_from-hull side (first ∷ spans) span h = worst_from-fold side first spans

slice_get-ends : (side : Side) (spans : List Interval) (k : ℕ) (span : Interval) → slice_get spans k ≡ Some span →
    slice_get (ends side spans) k ≡ Some (Some (end_of side span))
slice_get-ends side spans k span at =
    slice_get-map (λ (s : Interval). Some (end_of side s)) spans k
    ∙ ap (λ (o : Option Interval). option_map (λ (s : Interval). Some (end_of side s)) o) at

pub hull-bound : (side : Side) (spans : List Interval) (span : Interval) → IsItem spans span → AsBad side (end_of side (hull_of spans)) (end_of side span)
hull-bound side spans span h =
    subst (λ (o : Option ℤ). IsAsBad side o (end_of side span)) (worst_from-hull side spans span h)
    (worst_from-each side None (ends side spans) h.place (Some (end_of side span)) (end_of side span)
    (slice_get-ends side spans h.place span h.at) (AsBad-same side (end_of side span)))

-- the hull's end is that of one of the spans
pub record IsEndOf (side : Side) (spans : List Interval) (time : ℤ) : Type 0 where
  pub span : Interval
  pub item : IsItem spans span
  pub is : end_of side span ≡ time

end_from : (side : Side) (spans : List Interval) (k : ℕ) (time : ℤ) → slice_get (ends side spans) k ≡ Some (Some time) → IsEndOf side spans time
end_from side [] k time at = absurd (none-some (Some time) at)
end_from side (span ∷ spans) zero time at =
    record { span = span; item = record { place = 0; at = refl }; is = same_Some _ _ (same_Some (Some (end_of side span)) (Some time) at) }
end_from side (span ∷ spans) (suc k) time at =
    let later = end_from side spans k time at in
    record { span = later.span; item = record { place = suc later.item.place; at = later.item.at }; is = later.is }

pub hull-attained : (side : Side) (spans : List Interval) (span : Interval) → IsItem spans span → IsEndOf side spans (end_of side (hull_of spans))
hull-attained side spans span h = by_case (worst_from-one side None (ends side spans))
  where
    worst : worst_from side None (ends side spans) ≡ Some (end_of side (hull_of spans))
    worst = worst_from-hull side spans span h

    by_case : ((worst_from side None (ends side spans) ≡ None) ⊎ IsTimeOf (ends side spans) (worst_from side None (ends side spans))) → IsEndOf side spans (end_of side (hull_of spans))
    by_case (inl none) = absurd (none-some _ (sym none ∙ worst))
    by_case (inr one) = end_from side spans one.place (end_of side (hull_of spans)) (one.at ∙ ap (λ (o : Option ℤ). Some o) worst)

-- a span of an arc from a to b
pub record IsBetween (arcs : List Arc) (spans : List Interval) (a b : PinNo) (span : Interval) : Type 0 where
  pub place : ℕ
  pub arc : Arc
  pub at : slice_get arcs place ≡ Some arc
  pub from : arc.from.0 ≡ a.0
  pub to : arc.to.0 ≡ b.0
  pub span_at : slice_get spans place ≡ Some span

between_more : (x : Arc) (arcs : List Arc) (s : Interval) (spans : List Interval) (a b : PinNo) (span : Interval) → IsBetween arcs spans a b span → IsBetween (x ∷ arcs) (s ∷ spans) a b span
between_more x arcs s spans a b span h =
    record { place = suc h.place; arc = h.arc; at = h.at; from = h.from; to = h.to; span_at = h.span_at }

pub between_from : (arcs : List Arc) (spans : List Interval) (a b : PinNo) (k : ℕ) (span : Interval) →
    slice_get (spans_between arcs spans a b) k ≡ Some span → IsBetween arcs spans a b span
between_from [] spans a b k span at = absurd (none-some span at)
between_from (x ∷ arcs) [] a b k span at = absurd (none-some span at)
between_from (x ∷ arcs) (s ∷ spans) a b k span at =
    by_test (x.from.0 == a.0) (x.to.0 == b.0) (λ e. grind arith) (λ e. grind arith)
    (λ j at_j. between_more x arcs s spans a b span (between_from arcs spans a b j span at_j)) k at
  where
    by_test : (f t : Bool) → (f ≡ true → x.from.0 ≡ a.0) → (t ≡ true → x.to.0 ≡ b.0) →
        ((j : ℕ) → slice_get (spans_between arcs spans a b) j ≡ Some span → IsBetween (x ∷ arcs) (s ∷ spans) a b span) →
        (k : ℕ) → slice_get (cond (f && t) (s ∷ spans_between arcs spans a b) (spans_between arcs spans a b)) k ≡ Some span →
        IsBetween (x ∷ arcs) (s ∷ spans) a b span
    by_test true true from to later zero at = record { place = 0; arc = x; at = refl; from = from refl; to = to refl; span_at = at }
    by_test true true from to later (suc k) at = later k at
    by_test true false from to later k at = later k at
    by_test false t from to later k at = later k at

item_cond : {X : Type 0} (c : Bool) (x y : X) (ys : List X) → IsItem ys x → IsItem (cond c (y ∷ ys) ys) x
item_cond true x y ys h = record { place = suc h.place; at = h.at }
item_cond false x y ys h = h

pub item_between : (arcs : List Arc) (spans : List Interval) (a b : PinNo) (place : ℕ) (arc : Arc) (span : Interval) →
    slice_get arcs place ≡ Some arc → arc.from.0 ≡ a.0 → arc.to.0 ≡ b.0 → slice_get spans place ≡ Some span → IsItem (spans_between arcs spans a b) span
item_between [] spans a b place arc span at from to span_at = absurd (none-some arc at)
item_between (x ∷ arcs) [] a b place arc span at from to span_at = absurd (none-some span span_at)
item_between (x ∷ arcs) (s ∷ spans) a b zero arc span at from to span_at =
    by_test (x.from.0 == a.0) (x.to.0 == b.0)
    (eq-eqb x.from.0 a.0 (ap (λ (y : Arc). y.from.0) (same_Some x arc at) ∙ from)) (eq-eqb x.to.0 b.0 (ap (λ (y : Arc). y.to.0) (same_Some x arc at) ∙ to))
  where
    by_test : (f t : Bool) → f ≡ true → t ≡ true → IsItem (cond (f && t) (s ∷ spans_between arcs spans a b) (spans_between arcs spans a b)) span
    by_test true true e g = record { place = 0; at = span_at }
    by_test true false e g = cc
    by_test false t e g = cc
item_between (x ∷ arcs) (s ∷ spans) a b (suc place) arc span at from to span_at =
    item_cond ((x.from.0 == a.0) && (x.to.0 == b.0)) span s (spans_between arcs spans a b)
    (item_between arcs spans a b place arc span at from to span_at)

pub step_at-span : (side : Side) (spans : List Interval) (place : ℕ) (span : Interval) → slice_get spans place ≡ Some span → step_at side spans place ≡ end_of side span
step_at-span side spans place span at =
    ap (end_of side) (get_or_from_slice_get spans place span (record { least = pos 0; greatest = pos 0 }) at)

span_there : (arcs : List Arc) (spans : List Interval) (place : ℕ) (arc : Arc) → length spans ≡ length arcs → slice_get arcs place ≡ Some arc →
    slice_get spans place ≡ Some (get_or spans place (record { least = pos 0; greatest = pos 0 }))
span_there arcs spans place arc each at =
    slice_get-get_or spans place (record { least = pos 0; greatest = pos 0 }) (let below = slice_get_within arcs place arc at in omega arith)

-- the end of the hull is at least as bad as the step of each arc
pub step-bound : (side : Side) (arcs : List Arc) (spans : List Interval) (place : ℕ) (arc : Arc) (b : PinNo) → length spans ≡ length arcs →
    slice_get arcs place ≡ Some arc → arc.to.0 ≡ b.0 → AsBad side (end_of side (hull_of (spans_between arcs spans arc.from b))) (step_at side spans place)
step-bound side arcs spans place arc b each at to =
    hull-bound side (spans_between arcs spans arc.from b) (get_or spans place (record { least = pos 0; greatest = pos 0 }))
    (item_between arcs spans arc.from b place arc _ at refl to (span_there arcs spans place arc each at))

-- an arc that has the end of the hull
pub record IsWorstArc (side : Side) (arcs : List Arc) (spans : List Interval) (a b : PinNo) : Type 0 where
  pub place : ℕ
  pub arc : Arc
  pub at : slice_get arcs place ≡ Some arc
  pub from : arc.from.0 ≡ a.0
  pub to : arc.to.0 ≡ b.0
  pub step : step_at side spans place ≡ end_of side (hull_of (spans_between arcs spans a b))

pub step-attained : (side : Side) (arcs : List Arc) (spans : List Interval) (a b : PinNo) → length spans ≡ length arcs → HasArc arcs a b → IsWorstArc side arcs spans a b
step-attained side arcs spans a b each h =
    let at : slice_get arcs h.listed.0 ≡ Some h.arc = slice_get_read arcs (length arcs) h.listed.0 h.arc refl h.listed.1 (sym h.listed.2) in
    let one = hull-attained side (spans_between arcs spans a b) _
    (item_between arcs spans a b h.listed.0 h.arc _ at (ap (λ (p : PinNo). p.0) h.from) (ap (λ (p : PinNo). p.0) h.to) (span_there arcs spans h.listed.0 h.arc each at)) in
    let there = between_from arcs spans a b one.item.place one.span one.item.at in
    record {
      place = there.place;
      arc = there.arc;
      at = there.at;
      from = there.from;
      to = there.to;
      step = step_at-span side spans there.place one.span there.span_at ∙ one.is;
    }
