-- The times spread over the pins that a list names (spread): the worst of the items that stand at a pin.
use Rattle.std.proofs.Common.{◌≡◌, ℕ, zero, suc, ◌<◌, ◌==◌, List, [], ◌∷◌, map, length, Bool, true, false, cond, refl, ap, sym, ◌∙◌, arith, get_or, eq-eqb, ◌⊎◌, inl, inr, subst}
use Rattle.std.specs.Prelude.{Option, Some, None, ℤ, fold, slice_get, Contains, All}
use Rattle.std.specs.Int.{int_max}
use Rattle.std.proofs.lemmas.List.Elements.{All-head, All-tail, All-weaker}
use Rattle.std.proofs.lemmas.Option.{same_Some, none-some, slice_get_within, slice_get_read, get_or_from_slice_get}
use Rattle.hold_base.proofs.Bools.{cond-cases}
use Rattle.hold_base.specs.declared.number.PinNo.{PinNo}
use Rattle.hold_base.specs.declared.time.Interval.{Interval}
use Rattle.hold_base.specs.declared.time.Side.{Side}
use Rattle.hold_base.specs.declared.time.Side.TheVariants.{Early, Late}
use Rattle.hold_base.specs.Interval.{hull_of}
use Rattle.hold_graph.specs.declared.graph.Parts.{Parts}
use Rattle.hold_graph.specs.declared.problem.Spans.{Spans}
use Rattle.hold_graph.specs.Problem.{IsSpan, IsWithin}
use Rattle.hold_base.specs.Limits.{launch_limit}
use Rattle.hold_graph.specs.Sums.{end_of, greatest_of, items_at}
use Rattle.hold_timing.specs.inner.Pass.{worse, worst_from, spread, start_of, IsStart, AreWithin, step_limit}
use Rattle.hold_timing.proofs.Steps.{IsItem, worst_from-hull}
use Rattle.hold_timing.proofs.Turns.{same_pin}
use Rattle.hold_timing.proofs.Bounds.{IsWithinIfThere, worse-within, within-weaker, end_of-within}

spread-worst : {A : Type 0} (side : Side) (time_of : A → ℤ) (so_far : Option ℤ) (pins : List PinNo) (items : List A) (pin : PinNo) →
    spread side time_of so_far pins items pin ≡ worst_from side so_far (map (λ (x : A). Some (time_of x)) (items_at pins items pin))
spread-worst side time_of so_far [] items pin = refl
spread-worst side time_of so_far (p ∷ pins) [] pin = refl
spread-worst {A} side time_of so_far (p ∷ pins) (item ∷ items) pin =
    by_test (p.0 == pin.0) (λ s. spread-worst side time_of s pins items pin)
  where
    by_test : (b : Bool) → ((s : Option ℤ) → spread side time_of s pins items pin ≡ worst_from side s (map (λ (x : A). Some (time_of x)) (items_at pins items pin))) →
        spread side time_of (cond b (worse side so_far (Some (time_of item))) so_far) pins items pin
        ≡ worst_from side so_far (map (λ (x : A). Some (time_of x)) (cond b (item ∷ items_at pins items pin) (items_at pins items pin)))
    by_test true later = later (worse side so_far (Some (time_of item)))
    by_test false later = later so_far

-- a list that names the pin has an item for it
pub record IsSome {A : Type 0} (xs : List A) : Type 0 where
  pub first : A
  pub rest : List A
  pub split : xs ≡ first ∷ rest

some_cond : {A : Type 0} (b : Bool) (x : A) (xs : List A) → ((b ≡ true) ⊎ IsSome xs) → IsSome (cond b (x ∷ xs) xs)
some_cond true x xs h = record { first = x; rest = xs; split = refl }
some_cond false x xs (inl e) = cc
some_cond false x xs (inr s) = s

pub items_at-some : {A : Type 0} (pins : List PinNo) (items : List A) (pin : PinNo) (k : ℕ) → length items ≡ length pins → slice_get pins k ≡ Some pin → IsSome (items_at pins items pin)
items_at-some [] items pin k each at = absurd (none-some pin at)
items_at-some (p ∷ pins) [] pin k each at = absurd (omega arith)
items_at-some (p ∷ pins) (item ∷ items) pin zero each at =
    some_cond (p.0 == pin.0) item (items_at pins items pin) (inl (eq-eqb p.0 pin.0 (ap (λ (q : PinNo). q.0) (same_Some p pin at))))
items_at-some (p ∷ pins) (item ∷ items) pin (suc k) each at =
    some_cond (p.0 == pin.0) item (items_at pins items pin) (inr (items_at-some pins items pin k (omega arith) at))

pub items_at-listed : {A : Type 0} (pins : List PinNo) (items : List A) (pin : PinNo) → length items ≡ length pins → Contains pins pin → IsSome (items_at pins items pin)
items_at-listed pins items pin each has =
    items_at-some pins items pin has.0 each (slice_get_read pins (length pins) has.0 pin refl has.1 (sym has.2))

-- only a pin that the list names has an item
listed_more : (p : PinNo) (pins : List PinNo) (pin : PinNo) → Contains pins pin → Contains (p ∷ pins) pin
listed_more p pins pin has = (suc has.0, (let lt = has.1 in omega arith), has.2)

pub listed_from : {A : Type 0} (pins : List PinNo) (items : List A) (pin : PinNo) (first : A) (rest : List A) → items_at pins items pin ≡ first ∷ rest → Contains pins pin
listed_from [] items pin first rest e = cc
listed_from (p ∷ pins) [] pin first rest e = cc
listed_from {A} (p ∷ pins) (item ∷ items) pin first rest e =
    by_case (cond-cases (p.0 == pin.0) (item ∷ items_at pins items pin) (items_at pins items pin) (first ∷ rest) e) (λ h. listed_from pins items pin first rest h)
  where
    by_case : {P Q : Type 0} → (((p.0 == pin.0) ≡ true) × P) ⊎ (((p.0 == pin.0) ≡ false) × Q) → (Q → Contains pins pin) → Contains (p ∷ pins) pin
    by_case (inl here) later = (0, omega arith, same_pin p pin (let h = here.0 in grind arith))
    by_case (inr there) later = listed_more p pins pin (later there.1)

-- the spread ends of spans are the end of their hull
pub spread-hull : (side : Side) (pins : List PinNo) (spans : List Interval) (pin : PinNo) → length spans ≡ length pins → Contains pins pin →
    spread side (end_of side) None pins spans pin ≡ Some (end_of side (hull_of (items_at pins spans pin)))
spread-hull side pins spans pin each has =
    let some : IsSome (items_at pins spans pin) = items_at-listed pins spans pin each has in
    spread-worst side (end_of side) None pins spans pin
    ∙ worst_from-hull side (items_at pins spans pin) some.first (record { place = 0; at = ap (λ (xs : List Interval). slice_get xs 0) some.split })

worst_from-greatest : (first : ℤ) (times : List ℤ) → worst_from Late (Some first) (map (λ (t : ℤ). Some t) times) ≡ Some (fold int_max first times)
worst_from-greatest first [] = refl
worst_from-greatest first (time ∷ times) = worst_from-greatest (int_max first time) times

some-greatest : (times : List ℤ) → IsSome times → worst_from Late None (map (λ (t : ℤ). Some t) times) ≡ Some (greatest_of times)
some-greatest [] h = let e = h.split in cc
some-greatest (time ∷ times) h = worst_from-greatest time times

pub spread-greatest : (pins : List PinNo) (times : List ℤ) (pin : PinNo) → length times ≡ length pins → Contains pins pin →
    spread Late (λ (t : ℤ). t) None pins times pin ≡ Some (greatest_of (items_at pins times pin))
spread-greatest pins times pin each has =
    spread-worst Late (λ (t : ℤ). t) None pins times pin ∙ some-greatest (items_at pins times pin) (items_at-listed pins times pin each has)

-- what is spread over a pin that a list doesn't name
spread_listed : {A : Type 0} (side : Side) (time_of : A → ℤ) (pins : List PinNo) (items : List A) (pin : PinNo) (xs : List A) (time : ℤ) → items_at pins items pin ≡ xs →
    worst_from side None (map (λ (x : A). Some (time_of x)) xs) ≡ Some time → Contains pins pin
spread_listed side time_of pins items pin [] time e is = absurd (none-some time is)
spread_listed side time_of pins items pin (x ∷ xs) time e is = listed_from pins items pin x xs e

pub start-spread : (side : Side) (parts : Parts) (spans : Spans) (pin : PinNo) (own : Option ℤ) → length spans.launch ≡ length parts.launches →
    own ≡ spread side (end_of side) None parts.launches spans.launch pin → IsStart side parts spans pin own
start-spread side parts spans pin own each is = record {
  listed = λ time e. spread_listed side (end_of side) parts.launches spans.launch pin (items_at parts.launches spans.launch pin) time refl
      (sym (spread-worst side (end_of side) None parts.launches spans.launch pin) ∙ sym is ∙ e);
  is = λ has. is ∙ spread-hull side parts.launches spans.launch pin each has;
}

-- the spread times are within the limit of the items
pub spread-within : {A : Type 0} (side : Side) (time_of : A → ℤ) (limit : ℕ) (so_far : Option ℤ) (pins : List PinNo) (items : List A) (pin : PinNo) →
    All (λ x. IsWithin limit (time_of x)) items → IsWithinIfThere limit so_far → IsWithinIfThere limit (spread side time_of so_far pins items pin)
spread-within side time_of limit so_far [] items pin h k = k
spread-within side time_of limit so_far (p ∷ pins) [] pin h k = k
spread-within {A} side time_of limit so_far (p ∷ pins) (item ∷ items) pin h k =
    by_test (p.0 == pin.0) (λ s w. spread-within side time_of limit s pins items pin (All-tail (λ (x : A). IsWithin limit (time_of x)) item items h) w)
  where
    by_test : (b : Bool) → ((s : Option ℤ) → IsWithinIfThere limit s → IsWithinIfThere limit (spread side time_of s pins items pin)) →
        IsWithinIfThere limit (spread side time_of (cond b (worse side so_far (Some (time_of item))) so_far) pins items pin)
    by_test true later =
        later (worse side so_far (Some (time_of item))) (worse-within side limit so_far (Some (time_of item)) k
        (λ t e. subst (IsWithin limit) (same_Some (time_of item) t e) (All-head (λ (x : A). IsWithin limit (time_of x)) item items h)))
    by_test false later = later so_far k

pub read_below : (table : List (Option ℤ)) (place : ℕ) (time : ℤ) → get_or table place None ≡ Some time → place < length table
read_below [] place time is = absurd (none-some time is)
read_below (o ∷ table) zero time is = omega arith
read_below (o ∷ table) (suc place) time is = let rest = read_below table place time is in omega arith

-- a table in which nothing stood, once the spans are spread over it
pub spread_table-within : (side : Side) (old new : List (Option ℤ)) (pins : List PinNo) (spans : List Interval) → length new ≡ length old →
    ((place : ℕ) → get_or old place None ≡ None) →
    ((pin : PinNo) → pin.0 < length old → get_or new pin.0 None ≡ spread side (end_of side) (get_or old pin.0 None) pins spans pin) →
    All (IsSpan launch_limit) spans → AreWithin step_limit new
spread_table-within side old new pins spans len none each h = λ place time is.
    let pin : PinNo = record { 0 = place } in
    let below : place < length new = read_below new place time is in
    let e : spread side (end_of side) (get_or old place None) pins spans (record { 0 = place }) ≡ Some time = sym (each (record { 0 = place }) (omega arith)) ∙ is in
    within-weaker launch_limit step_limit time (omega arith)
    (spread-within side (end_of side) launch_limit (get_or old place None) pins spans (record { 0 = place })
    (All-weaker (IsSpan launch_limit) (λ (span : Interval). IsWithin launch_limit (end_of side span)) (λ span s. end_of-within side launch_limit span s) spans h)
    (λ t i. absurd (none-some t (sym (none place) ∙ i))) time e)

pub spread_table-start : (side : Side) (parts : Parts) (spans : Spans) (pin : PinNo) (old : Option ℤ) (new : Option ℤ) (listed : List PinNo) (given : List Interval) →
    listed ≡ parts.launches → given ≡ spans.launch → length spans.launch ≡ length parts.launches → old ≡ None →
    new ≡ spread side (end_of side) old listed given pin → IsStart side parts spans pin new
spread_table-start side parts spans pin old new listed given is_listed is_given each none is =
    start-spread side parts spans pin new each
    (is ∙ ap (λ (o : Option ℤ). spread side (end_of side) o listed given pin) none
    ∙ ap (λ (xs : List PinNo). spread side (end_of side) None xs given pin) is_listed
    ∙ ap (λ (xs : List Interval). spread side (end_of side) None parts.launches xs pin) is_given)
