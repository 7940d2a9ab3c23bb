-- What signed ends and their least numbers have to do with hulls and greatest times.
use Rattle.std.proofs.Common.{◌≡◌, ◌==◌, List, [], ◌∷◌, map, refl, ap, sym, ◌∙◌}
use Rattle.std.specs.Prelude.{Some, ℤ, neg_ℤ, fold}
use Rattle.std.specs.Int.{int_min, int_max}
use Rattle.hold_base.proofs.Bools.{cond-same, map-cond}
use Rattle.hold_base.proofs.Orders.{int_min-neg}
use Rattle.hold_base.specs.declared.number.PinNo.{PinNo}
use Rattle.hold_base.specs.declared.time.Interval.{Interval}
use Rattle.hold_base.specs.declared.time.Side.{Side}
use Rattle.hold_base.specs.declared.time.Side.TheVariants.{Early, Late}
use Rattle.hold_base.specs.Interval.{hull}
use Rattle.hold_graph.specs.Sums.{items_at}
use Rattle.hold_graph.specs.inner.Arrival.{weight, least_from}

pub weight-hull : (side : Side) (a b : Interval) → int_min (weight side a) (weight side b) ≡ weight side (hull a b)
weight-hull Early a b = refl
weight-hull Late a b = int_min-neg a.greatest b.greatest

pub least_from-weights : (side : Side) (first : Interval) (spans : List Interval) →
    least_from (Some (weight side first)) (map (weight side) spans) ≡ Some (weight side (fold hull first spans))
least_from-weights side first [] = refl
least_from-weights side first (span ∷ spans) =
    ap (λ (w : ℤ). least_from (Some w) (map (weight side) spans)) (weight-hull side first span)
    ∙ least_from-weights side (hull first span) spans

pub least_from-negated : (first : ℤ) (times : List ℤ) →
    least_from (Some (neg_ℤ first)) (map neg_ℤ times) ≡ Some (neg_ℤ (fold int_max first times))
least_from-negated first [] = refl
least_from-negated first (time ∷ times) =
    ap (λ (w : ℤ). least_from (Some w) (map neg_ℤ times)) (int_min-neg first time)
    ∙ least_from-negated (int_max first time) times

pub items_at-map : {A B : Type 0} (f : A → B) (pins : List PinNo) (items : List A) (pin : PinNo) →
    items_at pins (map f items) pin ≡ map f (items_at pins items pin)
items_at-map f [] items pin = refl
items_at-map f (p ∷ pins) [] pin = refl
items_at-map f (p ∷ pins) (item ∷ items) pin =
    let rest = items_at-map f pins items pin in
    cond-same (p.0 == pin.0) (f item ∷ items_at pins (map f items) pin) (f item ∷ map f (items_at pins items pin))
    (items_at pins (map f items) pin) (map f (items_at pins items pin)) (ap (λ xs. f item ∷ xs) rest) rest
    ∙ sym (map-cond f (p.0 == pin.0) (item ∷ items_at pins items pin) (items_at pins items pin))
