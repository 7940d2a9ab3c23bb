-- How large the numbers of the tables get.
use Rattle.std.proofs.Common.{◌≡◌, ℕ, zero, suc, ◌+◌, ◌<◌, ◌≤◌, ◌==◌, List, [], ◌∷◌, map, length, Bool, true, false, cond, refl, ap, sym, ◌∙◌, arith, get_or, subst}
use Rattle.std.specs.Prelude.{Option, Some, None, ℤ, neg_ℤ, ◌+ℤ◌, ◌^◌, All}
use Rattle.std.proofs.lemmas.Int.{ints}
use Rattle.std.proofs.lemmas.List.{get_or_default}
use Rattle.std.proofs.lemmas.List.Elements.{All-head, All-tail, All-nil, All-cons, All-map, All-weaker}
use Rattle.std.proofs.lemmas.Option.{same_Some, none-some}
use Rattle.hold_base.specs.declared.number.PinNo.{PinNo}
use Rattle.hold_base.specs.declared.time.Interval.{Interval}
use Rattle.hold_base.specs.declared.time.Side.{Side}
use Rattle.hold_base.specs.declared.time.Side.TheVariants.{Early, Late}
use Rattle.hold_graph.specs.declared.problem.Spans.{Spans}
use Rattle.hold_graph.specs.declared.problem.Problem.{Problem}
use Rattle.hold_graph.specs.Problem.{IsWithin, IsSpan, IsValidCorner}
use Rattle.hold_base.specs.Limits.{launch_limit, time_limit}
use Rattle.hold_graph.specs.declared.graph.Arc.{Arc}
use Rattle.hold_graph.specs.inner.Order.{IsInto}
use Rattle.hold_graph.specs.Sums.{items_at}
use Rattle.hold_graph.specs.inner.Arrival.{weight, lesser, least_from, IsLeastByPin, AreWithin, checks_of, left, offer, sum_limit}
use Rattle.hold_graph.proofs.Pass.{OptionWithin, lesser-within, offer-within, place_below, within_weaker}

within-neg : (limit : ℕ) (time : ℤ) → IsWithin limit time → IsWithin limit (neg_ℤ time)
within-neg limit time h = record { low = omega (arith, ints); high = omega (arith, ints) }

weight-within : (side : Side) (limit : ℕ) (span : Interval) → IsSpan limit span → IsWithin limit (weight side span)
weight-within Early limit span h = h.least
weight-within Late limit span h = within-neg limit span.greatest h.greatest

-- the weights of spans are within the limit of the spans, and within any greater one
pub weights-within : (side : Side) (low high : ℕ) (spans : List Interval) → low ≤ high → All (IsSpan low) spans → All (IsWithin high) (map (weight side) spans)
weights-within side low high spans le h =
    All-map (IsWithin high) (weight side) spans
    (All-weaker (IsSpan low) (λ (span : Interval). IsWithin high (weight side span))
    (λ span s. within_weaker low high (weight side span) le (weight-within side low span s)) spans h)

pub negated-within : (low high : ℕ) (times : List ℤ) → low ≤ high → All (IsWithin low) times → All (IsWithin high) (map neg_ℤ times)
negated-within low high times le h =
    All-map (IsWithin high) neg_ℤ times
    (All-weaker (IsWithin low) (λ (time : ℤ). IsWithin high (neg_ℤ time)) (λ time s. within_weaker low high (neg_ℤ time) le (within-neg low time s)) times h)

items_at-within : (limit : ℕ) (pins : List PinNo) (times : List ℤ) (pin : PinNo) → All (IsWithin limit) times → All (IsWithin limit) (items_at pins times pin)
items_at-within limit [] times pin h = All-nil (IsWithin limit)
items_at-within limit (p ∷ pins) [] pin h = All-nil (IsWithin limit)
items_at-within limit (p ∷ pins) (time ∷ times) pin h =
    by_test (p.0 == pin.0) (All-head (IsWithin limit) time times h) (items_at-within limit pins times pin (All-tail (IsWithin limit) time times h))
  where
    by_test : (b : Bool) → IsWithin limit time → All (IsWithin limit) (items_at pins times pin) →
        All (IsWithin limit) (cond b (time ∷ items_at pins times pin) (items_at pins times pin))
    by_test true first rest = All-cons (IsWithin limit) time (items_at pins times pin) first rest
    by_test false first rest = rest

least_from-within : (limit : ℕ) (a : Option ℤ) (times : List ℤ) → OptionWithin limit a → All (IsWithin limit) times → OptionWithin limit (least_from a times)
least_from-within limit a [] h k = h
least_from-within limit a (time ∷ times) h k =
    least_from-within limit (lesser a (Some time)) times
    (lesser-within limit a (Some time) h (λ t is. subst (IsWithin limit) (same_Some time t is) (All-head (IsWithin limit) time times k)))
    (All-tail (IsWithin limit) time times k)

-- a number stands inside its table
pub read_within : (table : List (Option ℤ)) (pin : ℕ) (time : ℤ) → get_or table pin None ≡ Some time → pin < length table
read_within [] pin time is = absurd (none-some time is)
read_within (o ∷ table) zero time is = omega arith
read_within (o ∷ table) (suc pin) time is = let rest = read_within table pin time is in omega arith

-- a table of least numbers is within the limit of the numbers
pub table-within : (limit pins : ℕ) (listed : List PinNo) (numbers : List ℤ) (table : List (Option ℤ)) →
    length table ≡ pins → IsLeastByPin pins listed numbers table → All (IsWithin limit) numbers → AreWithin limit table
table-within limit pins listed numbers table len least h = λ pin time is.
    let at : PinNo = record { 0 = pin } in
    let below : pin < pins = inside pin time is in
    least_from-within limit None (items_at listed numbers at) (λ t e. absurd (none-some t e)) (items_at-within limit listed numbers at h) time
    (sym (least at below) ∙ is)
  where
    inside : (pin : ℕ) (time : ℤ) → get_or table pin None ≡ Some time → pin < pins
    inside pin time is = let within = read_within table pin time is in omega arith

pub checks-within : (side : Side) (problem : Problem) (spans : Spans) → IsValidCorner problem spans → All (IsWithin time_limit) (checks_of side spans)
checks-within Early problem spans valid = valid.hold
checks-within Late problem spans valid = valid.setup

-- what is left stays in its limit
pub left-within : (comes end check : Option ℤ) (base : ℤ) → OptionWithin (sum_limit + launch_limit) comes → OptionWithin launch_limit end →
    OptionWithin launch_limit check → IsWithin time_limit base → OptionWithin (2 ^ 57) (left comes end check base)
left-within None end check base h e k b = λ time is. absurd (none-some time is)
left-within (Some s) None check base h e k b = λ time is. absurd (none-some time is)
left-within (Some s) (Some end) None base h e k b = λ time is. absurd (none-some time is)
left-within (Some s) (Some end) (Some check) base h e k b = λ time is.
    let same : (((s +ℤ end) +ℤ check) +ℤ base) ≡ time = same_Some _ time is in
    let f : IsWithin (sum_limit + launch_limit) s = h s refl in
    let g : IsWithin launch_limit end = e end refl in
    let i : IsWithin launch_limit check = k check refl in
    record { low = omega (arith, ints); high = omega (arith, ints) }

-- what comes to a pin stays in its limit
pub coming-within : (arcs : List Arc) (steps given : List ℤ) (best lent : List (Option ℤ)) (into : List (Option ℕ)) (pin : ℕ) (comes : Option ℤ) →
    IsInto arcs into → length steps ≡ length arcs → All (IsWithin launch_limit) steps → AreWithin sum_limit best → given ≡ steps → lent ≡ best →
    comes ≡ offer arcs given lent (get_or into pin None) → OptionWithin (sum_limit + launch_limit) comes
coming-within arcs steps given best lent into pin comes places each steps_within best_within is_given is_lent is =
    subst (OptionWithin (sum_limit + launch_limit))
    (sym (is ∙ ap (λ (xs : List ℤ). offer arcs xs lent (get_or into pin None)) is_given ∙ ap (λ (table : List (Option ℤ)). offer arcs steps table (get_or into pin None)) is_lent))
    (offer-within arcs steps best sum_limit (get_or into pin None)
    (λ k e. let lt : k < length arcs = place_below arcs into places pin k e in omega arith) steps_within best_within)

-- what was read of a table is in its limit
pub read-within : (table : List (Option ℤ)) (pin : ℕ) (o : Option ℤ) → pin < length table → o ≡ get_or table pin o → AreWithin launch_limit table → OptionWithin launch_limit o
read-within table pin o below is h = λ time e. h pin time (get_or_default table pin None o below ∙ sym is ∙ e)
