-- end_of side span: the end that the side looks at, the least of an early span and the greatest of a late one.
-- greatest_of times: the greatest of these times, and 0 where there is none.
-- items_at pins items pin: the items that stand at those places where `pins` names the pin. An item without a pin,
--   or a pin without an item, counts for nothing.
-- spans_between arcs spans a b: the spans of the arcs from a to b, none where no arc leads there. An arc without a
--   span, or a span without an arc, counts for nothing.
-- Buffers: how many buffers of a kind, told by its place, stand in front of a pin. `no_buffers` has none anywhere.
-- added_from side place kinds counts: what the buffers of these kinds add, of which the first has that place: of each
--   kind its count times the end of its span that the side looks at. 0 where there is no kind.
-- steps_sum side arcs spans buffers a pins: what the steps from a to these pins, one after another, sum up to: of each
--   step its span, and what the buffers in front of the pin that it comes to add. 0 where there is no step.
-- path_sum side parts spans buffers path: what the first pin's launch has, plus the span of each step, plus what the
--   buffers in front of each pin after the first add; of each the end that the side looks at. Two pins that several
--   arcs join, and a launch that is listed more than once, count with the hull of their spans. A pin that is no
--   launch, and two pins that no arc joins, count 0. The sum of no pins is 0, of one pin its launch. Ends below 0 are
--   added as they are.
-- early_sum, late_sum: that sum of the least ends, and of the greatest.
use Rattle.std.specs.Prelude.{ℕ, ◌+◌, ◌==◌, ◌&&◌, if◌then◌else◌, List, [], ◌∷◌, fold, ℤ, pos, ◌+ℤ◌, ◌*ℤ◌}
use Rattle.std.specs.Int.{int_max}
use Rattle.hold_base.specs.Interval.{hull_of}
use Rattle.hold_base.specs.declared.number.PinNo.{PinNo}
use Rattle.hold_base.specs.declared.time.Interval.{Interval}
use Rattle.hold_base.specs.declared.time.Side.{Side}
use Rattle.hold_base.specs.declared.time.Side.TheVariants.{Early, Late}
use Rattle.hold_graph.specs.declared.graph.Arc.{Arc}
use Rattle.hold_graph.specs.declared.graph.Parts.{Parts}
use Rattle.hold_graph.specs.declared.problem.Spans.{Spans}

abbrev pub end_of : Side → Interval → ℤ
end_of Early span = span.least
end_of Late span = span.greatest

abbrev pub greatest_of : List ℤ → ℤ
greatest_of [] = pos 0
greatest_of (time ∷ times) = fold int_max time times

abbrev pub items_at : {A : Type 0} → List PinNo → List A → PinNo → List A
items_at [] items pin = []
items_at (p ∷ pins) [] pin = []
items_at (p ∷ pins) (item ∷ items) pin =
    if p.0 == pin.0 then item ∷ items_at pins items pin else items_at pins items pin

abbrev pub spans_between : List Arc → List Interval → PinNo → PinNo → List Interval
spans_between [] spans a b = []
spans_between (arc ∷ arcs) [] a b = []
spans_between (arc ∷ arcs) (span ∷ spans) a b =
    if (arc.from.0 == a.0) && (arc.to.0 == b.0) then span ∷ spans_between arcs spans a b else spans_between arcs spans a b

abbrev pub Buffers : Type 0
Buffers = PinNo → ℕ → ℕ

abbrev pub no_buffers : Buffers
no_buffers = λ pin kind. 0

-- what these counts of the kinds from this place on add
abbrev pub added_from : Side → ℕ → List Interval → (ℕ → ℕ) → ℤ
added_from side place [] counts = pos 0
added_from side place (kind ∷ kinds) counts =
    (pos (counts place) *ℤ end_of side kind) +ℤ added_from side (place + 1) kinds counts

-- the steps from a on: each step's span, and what stands in front of the pin that it comes to
abbrev pub steps_sum : Side → List Arc → Spans → Buffers → PinNo → List PinNo → ℤ
steps_sum side arcs spans buffers a [] = pos 0
steps_sum side arcs spans buffers a (b ∷ rest) =
    (end_of side (hull_of (spans_between arcs spans.arcs a b)) +ℤ added_from side 0 spans.kinds (buffers b))
    +ℤ steps_sum side arcs spans buffers b rest

abbrev pub path_sum : Side → Parts → Spans → Buffers → List PinNo → ℤ
path_sum side parts spans buffers [] = pos 0
path_sum side parts spans buffers (a ∷ rest) =
    end_of side (hull_of (items_at parts.launches spans.launch a)) +ℤ steps_sum side parts.arcs spans buffers a rest

abbrev pub early_sum : Parts → Spans → Buffers → List PinNo → ℤ
early_sum = path_sum Early

abbrev pub late_sum : Parts → Spans → Buffers → List PinNo → ℤ
late_sum = path_sum Late
