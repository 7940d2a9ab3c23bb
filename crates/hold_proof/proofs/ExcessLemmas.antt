-- The excess of a checked path without buffers: how its parts are bounded, and a step more of its sum.
use Rattle.std.proofs.Common.{◌≡◌, ℕ, ◌+◌, ◌-◌, ◌*◌, ◌<◌, ◌≤◌, ◌==◌, ◌&&◌, Bool, true, false, cond, List, [], ◌∷◌, length, get_or, take, drop, refl, sym, ap, ◌∙◌, arith}
use Rattle.std.specs.Prelude.{All, fold, ℤ, pos, ◌+ℤ◌, ◌-ℤ◌}
use Rattle.std.specs.Int.{int_min, int_max}
use Rattle.std.specs.List.{AllByRecursion}
use Rattle.std.proofs.lemmas.Int.{ints, clamps}
use Rattle.std.proofs.lemmas.List.{drop_more, take_all}
use Rattle.std.proofs.lemmas.List.Elements.{recursion_from_All}
use Rattle.hold_base.specs.Interval.{hull, hull_of}
use Rattle.hold_base.specs.Limits.{time_limit}
use Rattle.hold_base.specs.declared.number.PinNo.{PinNo}
use Rattle.hold_base.specs.declared.time.Interval.{Interval}
use Rattle.hold_base.specs.declared.time.Side.{Side}
use Rattle.hold_base.specs.declared.time.Side.TheVariants.{Early, Late}
use Rattle.hold_graph.specs.declared.graph.Arc.{Arc}
use Rattle.hold_graph.specs.declared.problem.Spans.{Spans}
use Rattle.hold_graph.specs.declared.problem.Problem.{Problem}
use Rattle.hold_graph.specs.Path.{last_pin}
use Rattle.hold_graph.specs.Met.{excess}
use Rattle.hold_graph.specs.Problem.{IsSpan, IsWithin}
use Rattle.hold_graph.specs.Sums.{end_of, greatest_of, items_at, spans_between, no_buffers, path_sum, steps_sum}
use Rattle.hold_proof.proofs.TermLemmas.{added_from-none}

-- both ends of a span are within the limit
pub record AreEnds (limit : ℕ) (span : Interval) : Type 0 where
  pub least : IsWithin limit span.least
  pub greatest : IsWithin limit span.greatest

pub ends-span : (limit : ℕ) (span : Interval) → IsSpan limit span → AreEnds limit span
ends-span limit span h = record { least = h.least; greatest = h.greatest }

pub ends-within : (side : Side) (limit : ℕ) (span : Interval) → AreEnds limit span → IsWithin limit (end_of side span)
ends-within Early limit span h = h.least
ends-within Late limit span h = h.greatest

within-min : (limit : ℕ) (a b : ℤ) → IsWithin limit a → IsWithin limit b → IsWithin limit (int_min a b)
within-min limit a b one two =
    let low = one.low in let high = one.high in let bottom = two.low in let top = two.high in
    record { low = omega (arith, ints, clamps, low, bottom); high = omega (arith, ints, clamps, high, top) }

within-max : (limit : ℕ) (a b : ℤ) → IsWithin limit a → IsWithin limit b → IsWithin limit (int_max a b)
within-max limit a b one two =
    let low = one.low in let high = one.high in let bottom = two.low in let top = two.high in
    record { low = omega (arith, ints, clamps, low, bottom); high = omega (arith, ints, clamps, high, top) }

within-none : (limit : ℕ) → IsWithin limit (pos 0)
within-none limit = record { low = omega (arith, ints); high = omega (arith, ints) }

ends-hull : (limit : ℕ) (a b : Interval) → AreEnds limit a → AreEnds limit b → AreEnds limit (hull a b)
ends-hull limit a b one two = record { least = within-min limit a.least b.least one.least two.least; greatest = within-max limit a.greatest b.greatest one.greatest two.greatest }

ends-fold : (limit : ℕ) (before : Interval) (spans : List Interval) → AreEnds limit before → AllByRecursion (AreEnds limit) spans → AreEnds limit (fold hull before spans)
ends-fold limit before [] h each = h
ends-fold limit before (span ∷ spans) h each = ends-fold limit (hull before span) spans (ends-hull limit before span h each.0) each.1

ends-hull_of : (limit : ℕ) (spans : List Interval) → AllByRecursion (AreEnds limit) spans → AreEnds limit (hull_of spans)
ends-hull_of limit [] each = record { least = within-none limit; greatest = within-none limit }
ends-hull_of limit (span ∷ spans) each = ends-fold limit span spans each.0 each.1

within-fold : (limit : ℕ) (before : ℤ) (times : List ℤ) → IsWithin limit before → AllByRecursion (IsWithin limit) times → IsWithin limit (fold int_max before times)
within-fold limit before [] h each = h
within-fold limit before (time ∷ times) h each = within-fold limit (int_max before time) times (within-max limit before time h each.0) each.1

within-greatest_of : (limit : ℕ) (times : List ℤ) → AllByRecursion (IsWithin limit) times → IsWithin limit (greatest_of times)
within-greatest_of limit [] each = within-none limit
within-greatest_of limit (time ∷ times) each = within-fold limit time times each.0 each.1

each-kept : {A : Type 0} (P : A → Type 0) (b : Bool) (item : A) (kept : List A) → P item → AllByRecursion P kept → AllByRecursion P (cond b (item ∷ kept) kept)
each-kept P true item kept here rest = (here, rest)
each-kept P false item kept here rest = rest

items_at-each : {A : Type 0} (P : A → Type 0) (pins : List PinNo) (items : List A) (pin : PinNo) → AllByRecursion P items → AllByRecursion P (items_at pins items pin)
items_at-each P [] items pin each = tt
items_at-each P (p ∷ pins) [] pin each = tt
items_at-each P (p ∷ pins) (item ∷ items) pin each = each-kept P (p.0 == pin.0) item (items_at pins items pin) each.0 (items_at-each P pins items pin each.1)

spans_between-each : (P : Interval → Type 0) (arcs : List Arc) (spans : List Interval) (a b : PinNo) → AllByRecursion P spans → AllByRecursion P (spans_between arcs spans a b)
spans_between-each P [] spans a b each = tt
spans_between-each P (arc ∷ arcs) [] a b each = tt
spans_between-each P (arc ∷ arcs) (span ∷ spans) a b each =
    each-kept P ((arc.from.0 == a.0) && (arc.to.0 == b.0)) span (spans_between arcs spans a b) each.0 (spans_between-each P arcs spans a b each.1)

ends-each : (limit : ℕ) (spans : List Interval) → All (IsSpan limit) spans → AllByRecursion (AreEnds limit) spans
ends-each limit spans h = recursion_from_All (AreEnds limit) spans (λ k d below. ends-span limit (get_or spans k d) (h k d below))

pub hull_at-ends : (limit : ℕ) (pins : List PinNo) (spans : List Interval) (pin : PinNo) → All (IsSpan limit) spans → AreEnds limit (hull_of (items_at pins spans pin))
hull_at-ends limit pins spans pin h = ends-hull_of limit (items_at pins spans pin) (items_at-each (AreEnds limit) pins spans pin (ends-each limit spans h))

pub greatest_at-within : (limit : ℕ) (pins : List PinNo) (times : List ℤ) (pin : PinNo) → All (IsWithin limit) times → IsWithin limit (greatest_of (items_at pins times pin))
greatest_at-within limit pins times pin h = within-greatest_of limit (items_at pins times pin) (items_at-each (IsWithin limit) pins times pin (recursion_from_All (IsWithin limit) times h))

pub step-ends : (limit : ℕ) (arcs : List Arc) (spans : List Interval) (a b : PinNo) → All (IsSpan limit) spans → AreEnds limit (hull_of (spans_between arcs spans a b))
step-ends limit arcs spans a b h = ends-hull_of limit (spans_between arcs spans a b) (spans_between-each (AreEnds limit) arcs spans a b (ends-each limit spans h))

-- one step more
pub record IsSummed (side : Side) (arcs : List Arc) (spans : Spans) (first : PinNo) (pins : List PinNo) (done : ℕ) (sum : ℤ) (from : PinNo) : Type 0 where
  pub left : sum +ℤ steps_sum side arcs spans no_buffers from (drop done pins) ≡ steps_sum side arcs spans no_buffers first pins
  pub size : IsWithin (done * time_limit) sum
  pub end : last_pin from (drop done pins) ≡ last_pin first pins

pub summed-none : (side : Side) (arcs : List Arc) (spans : Spans) (first : PinNo) (pins : List PinNo) → IsSummed side arcs spans first pins 0 (pos 0) first
summed-none side arcs spans first pins = record { left = omega (arith, ints); size = record { low = omega (arith, ints); high = omega (arith, ints) }; end = refl }

pub summed-more : (side : Side) (arcs : List Arc) (spans : Spans) (first : PinNo) (pins : List PinNo) (done : ℕ) (sum now step : ℤ) (from to none : PinNo) (span : Interval) →
    IsSummed side arcs spans first pins done sum from → done < length pins → to ≡ get_or pins done none → All (IsSpan time_limit) spans.arcs →
    step ≡ end_of side span → span ≡ hull_of (spans_between arcs spans.arcs from to) → now ≡ sum +ℤ step → IsSummed side arcs spans first pins (done + 1) now to
summed-more side arcs spans first pins done sum now step from to none span h below is within step_is span_is now_is =
    let here : drop done pins ≡ to ∷ drop (done + 1) pins = drop_more pins done none below ∙ ap (λ p. p ∷ drop (done + 1) pins) (sym is) in
    let left = h.left in
    let parts = ap (steps_sum side arcs spans no_buffers from) here in
    let none_added = added_from-none side 0 spans.kinds in
    let value = step_is ∙ ap (end_of side) span_is in
    let ends = ends-within side time_limit (hull_of (spans_between arcs spans.arcs from to)) (step-ends time_limit arcs spans.arcs from to within) in
    let low = ends.low in
    let high = ends.high in
    let bottom = (h.size).low in
    let top = (h.size).high in
    record {
      left = omega (arith, ints, left, parts, none_added, value, now_is);
      size = record { low = omega (arith, ints, low, bottom, value, now_is); high = omega (arith, ints, high, top, value, now_is) };
      end = sym (ap (last_pin from) here) ∙ h.end;
    }

pub summed-same : (side : Side) (arcs : List Arc) (spans : Spans) (first : PinNo) (pins : List PinNo) (done : ℕ) (sum now : ℤ) (from : PinNo) → IsSummed side arcs spans first pins done sum from → now ≡ sum →
    IsSummed side arcs spans first pins done now from
summed-same side arcs spans first pins done sum now from h same = rw same h

-- the late excess of a path, by its parts
pub excess-late : (problem : Problem) (spans : Spans) (side : Side) (pins launches captures : List PinNo) (none end : PinNo) (sum given period result : ℤ) → side ≡ Late → 1 ≤ length pins →
    launches ≡ problem.graph.launches → captures ≡ problem.graph.captures →
    sum ≡ end_of side (hull_of (items_at launches spans.launch (get_or pins 0 none))) +ℤ steps_sum side problem.graph.arcs spans no_buffers (get_or pins 0 none) (take (length pins - 1) (drop 1 pins)) →
    end ≡ last_pin (get_or pins 0 none) (take (length pins - 1) (drop 1 pins)) →
    result ≡ ((period +ℤ (hull_of (items_at captures spans.capture end)).least) -ℤ greatest_of (items_at captures spans.setup end)) -ℤ given → period ≡ problem.period → given ≡ sum →
    result ≡ excess side problem spans no_buffers pins
excess-late problem spans side [] launches captures none end sum given period result is some launches_are captures_are sum_is end_is result_is period_is given_is = absurd (omega arith)
excess-late problem spans side (a ∷ rest) launches captures none end sum given period result is some launches_are captures_are sum_is end_is result_is period_is given_is =
    let whole : take (length (a ∷ rest) - 1) rest ≡ rest = take_all (length (a ∷ rest) - 1) rest (omega arith) in
    let last : end ≡ last_pin a rest = end_is ∙ ap (last_pin a) whole in
    let late_sum : sum ≡ path_sum Late problem.graph spans no_buffers (a ∷ rest) =
    sum_is ∙ ap (λ l. end_of side (hull_of (items_at launches spans.launch a)) +ℤ steps_sum side problem.graph.arcs spans no_buffers a l) whole
    ∙ ap (λ s. end_of s (hull_of (items_at launches spans.launch a)) +ℤ steps_sum s problem.graph.arcs spans no_buffers a rest) is
    ∙ ap (λ l. end_of Late (hull_of (items_at l spans.launch a)) +ℤ steps_sum Late problem.graph.arcs spans no_buffers a rest) launches_are in
    let arrival = ap (λ l. (hull_of (items_at l spans.capture end)).least) captures_are ∙ ap (λ e. (hull_of (items_at problem.graph.captures spans.capture e)).least) last in
    let setup = ap (λ l. greatest_of (items_at l spans.setup end)) captures_are ∙ ap (λ e. greatest_of (items_at problem.graph.captures spans.setup e)) last in
    let value : result ≡ excess Late problem spans no_buffers (a ∷ rest) = omega (arith, ints, late_sum, arrival, setup, result_is, period_is, given_is) in
    value ∙ ap (λ s. excess s problem spans no_buffers (a ∷ rest)) (sym is)
