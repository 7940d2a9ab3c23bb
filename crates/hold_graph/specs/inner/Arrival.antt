-- The words of the one pass that finds least sums. Nothing here is part of what a problem means.
--
-- signed side time: a time as the pass adds it, as it is at the early side and negated at the late one; so the
--   greatest sum of a late side is the least of its signed sums, negated.
-- weight side span: the signed end of a span that the side looks at. opposite: the other side.
-- lesser a b: the lesser of two numbers, either of which may be missing. least_from a xs: the lesser of a and of all xs.
-- least_at pins numbers pin: the least of the numbers at those places where `pins` names the pin, none where there is
--   no such place.
-- AreWithin limit table: every number of the table is within the limit.
-- sum_limit: the greatest magnitude of a sum over a path, 2^55.
-- AtMost a x: there is a number a, and it is at most x.
-- extended a w: a plus w, where there is an a.
-- origin arc: the number of the pin that an arc leads from; 0 where there is no arc.
-- offer arcs weights best place: what the arc at that place brings to the pin that it ends at: the best of the pin that
--   it leads from, and its weight; none without a place, or where there is no best. A place past the arcs counts as an
--   arc from pin 0, and one past the weights weighs 0.
-- IsRight arcs weights starts into best pin: the best at a pin is the lesser of its own start and of what comes there.
-- CameBy best own place by: a walk goes back along the arc at `by`, which is the place. It begins here, and `by` is none,
--   where the best is the pin's own start.
-- coming side arcs spans into best pin: what the arc that ends at a pin brings there, none where no arc does.
-- signed_steps side arcs spans a rest: the steps of a path from a on with no buffers, as the pass adds them.
-- IsSettled: the tables of one side after the pass: each pin's best is right. Each arc has its span and ends at a pin that
--   is there, and `into` tells the place of the one arc that ends at a pin.
-- checks_of side spans: the times that the side's check takes away, hold at the early side and setup at the late one.
-- base_of side period: what the side adds to every path, the period at the late side and 0 at the early one.
-- left coming end check base: what is left at a capture, the sum of these; none where a part is missing.
-- IsLeastByPin pins listed numbers table: the table has for each of so many pins the least of the numbers at those places
--   where `listed` names it, none where there is no such place.
-- AreTables: what the tables of one side of a corner have, by pin: they are settled, where a pin's own start is the least
--   weight of its launches; and of captures they have the least weight of the arrivals at the other side, and the least
--   of the negated checks.
-- left_at: what is left at a capture by these tables.
-- left_by: the same, by the steps' weights. IsEnough rest: where something is left, it is at least 0.
-- IsShort side problem spans path short: the path is a checked path whose excess with no buffers is below 0 by `short`.
-- IsMetAt side problem spans: each checked path meets the side's check with no buffers.
-- IsFound path capture sum: the path has at least two pins, each next by an arc, ends at the capture, and what its first
--   pin has by itself and its steps add up to the sum.
use Rattle.std.specs.Prelude.{◌≡◌, ◌≢◌, ◌⊎◌, ℕ, ◌<◌, List, [], ◌∷◌, map, length, ◌^◌, Option, Some, None, slice_get, slice_index_or, ℤ, pos, neg_ℤ, ◌+ℤ◌, ◌≤ℤ◌, ◌<ℤ◌, All}
use Rattle.std.specs.Int.{int_min}
use Rattle.hold_base.specs.declared.number.PinNo.{PinNo}
use Rattle.hold_base.specs.declared.time.Interval.{Interval}
use Rattle.hold_base.specs.declared.time.Side.{Side}
use Rattle.hold_base.specs.declared.time.Side.TheVariants.{Early, Late}
use Rattle.hold_graph.specs.declared.graph.Arc.{Arc}
use Rattle.hold_graph.specs.declared.graph.Parts.{Parts}
use Rattle.hold_graph.specs.declared.problem.Spans.{Spans}
use Rattle.hold_graph.specs.declared.problem.Problem.{Problem}
use Rattle.hold_graph.specs.Met.{excess}
use Rattle.hold_graph.specs.inner.Order.{IsInto}
use Rattle.hold_graph.specs.Problem.{IsWithin}
use Rattle.hold_graph.specs.Path.{EachNext, last_pin, IsCheckedPath}
use Rattle.hold_graph.specs.Sums.{end_of, items_at, steps_sum, no_buffers}

abbrev pub signed : Side → ℤ → ℤ
signed Early time = time
signed Late time = neg_ℤ time

abbrev pub weight : Side → Interval → ℤ
weight side span = signed side (end_of side span)

abbrev pub opposite : Side → Side
opposite Early = Late
opposite Late = Early

abbrev pub lesser : Option ℤ → Option ℤ → Option ℤ
lesser None b = b
lesser (Some x) None = Some x
lesser (Some x) (Some y) = Some (int_min x y)

abbrev pub least_from : Option ℤ → List ℤ → Option ℤ
least_from a [] = a
least_from a (x ∷ xs) = least_from (lesser a (Some x)) xs

abbrev pub least_at : List PinNo → List ℤ → PinNo → Option ℤ
least_at pins numbers pin = least_from None (items_at pins numbers pin)

abbrev pub AtMost : Option ℤ → ℤ → Type 0
AtMost (Some a) x = a ≤ℤ x
AtMost None x = ⊥

abbrev pub extended : Option ℤ → ℤ → Option ℤ
extended None w = None
extended (Some a) w = Some (a +ℤ w)

-- the number of the pin that an arc, if any, leads from
abbrev pub origin : Option Arc → ℕ
origin None = 0
origin (Some arc) = arc.from.0

abbrev pub offer : List Arc → List ℤ → List (Option ℤ) → Option ℕ → Option ℤ
offer arcs weights best None = None
offer arcs weights best (Some place) =
    extended (slice_index_or best (origin (slice_get arcs place)) None) (slice_index_or weights place (pos 0))

pub record IsRight (arcs : List Arc) (weights : List ℤ) (starts : List (Option ℤ)) (into : List (Option ℕ)) (best : List (Option ℤ)) (pin : ℕ) : Type 0 where
  pub is : slice_index_or best pin None ≡ lesser (slice_index_or starts pin None) (offer arcs weights best (slice_index_or into pin None))

abbrev pub coming : Side → List Arc → Spans → List (Option ℕ) → List (Option ℤ) → PinNo → Option ℤ
coming side arcs spans into best pin = offer arcs (map (weight side) spans.arcs) best (slice_index_or into pin.0 None)

abbrev pub signed_steps : Side → List Arc → Spans → PinNo → List PinNo → ℤ
signed_steps side arcs spans a rest = signed side (steps_sum side arcs spans no_buffers a rest)

pub record IsSettled (side : Side) (pins : ℕ) (arcs : List Arc) (spans : Spans) (starts : List (Option ℤ)) (into : List (Option ℕ)) (best : List (Option ℤ)) : Type 0 where
  pub each : length spans.arcs ≡ length arcs
  pub to : All (λ arc. arc.to.0 < pins) arcs
  pub places : IsInto arcs into
  pub right : (pin : ℕ) → pin < pins → IsRight arcs (map (weight side) spans.arcs) starts into best pin

pub record IsFound (side : Side) (arcs : List Arc) (spans : Spans) (starts : List (Option ℤ)) (path : List PinNo) (capture : PinNo) (sum : ℤ) : Type 0 where
  pub first : PinNo
  pub second : PinNo
  pub rest : List PinNo
  pub split : path ≡ first ∷ second ∷ rest
  pub next : EachNext arcs first (second ∷ rest)
  pub last : last_pin second rest ≡ capture
  pub start : ℤ
  pub begins : slice_index_or starts first.0 None ≡ Some start
  pub value : start +ℤ signed_steps side arcs spans first (second ∷ rest) ≡ sum

abbrev pub CameBy : Option ℤ → Option ℤ → Option ℕ → Option ℕ → Type 0
CameBy best own place by = ((best ≡ own) × (by ≡ None)) ⊎ ((best ≢ own) × (by ≡ place))

abbrev pub checks_of : Side → Spans → List ℤ
checks_of Early spans = spans.hold
checks_of Late spans = spans.setup

abbrev pub base_of : Side → ℤ → ℤ
base_of Early period = pos 0
base_of Late period = period

abbrev pub left : Option ℤ → Option ℤ → Option ℤ → ℤ → Option ℤ
left None end check base = None
left (Some sum) None check base = None
left (Some sum) (Some end) None base = None
left (Some sum) (Some end) (Some check) base = Some (((sum +ℤ end) +ℤ check) +ℤ base)

-- each pin has the least of its numbers
abbrev pub IsLeastByPin : ℕ → List PinNo → List ℤ → List (Option ℤ) → Type 0
IsLeastByPin pins listed numbers table =
    (pin : PinNo) → pin.0 < pins → slice_index_or table pin.0 None ≡ least_at listed numbers pin

pub record AreTables (side : Side) (parts : Parts) (spans : Spans) (into : List (Option ℕ)) (starts best ends checks : List (Option ℤ)) : Type 0 where
  pub settled : IsSettled side parts.pins parts.arcs spans starts into best
  pub begins : IsLeastByPin parts.pins parts.launches (map (weight side) spans.launch) starts
  pub arrives : IsLeastByPin parts.pins parts.captures (map (weight (opposite side)) spans.capture) ends
  pub needs : IsLeastByPin parts.pins parts.captures (map neg_ℤ (checks_of side spans)) checks

abbrev pub left_at : Side → Parts → Spans → ℤ → List (Option ℕ) → List (Option ℤ) → List (Option ℤ) → List (Option ℤ) → PinNo → Option ℤ
left_at side parts spans period into best ends checks capture =
    left (coming side parts.arcs spans into best capture) (slice_index_or ends capture.0 None) (slice_index_or checks capture.0 None) (base_of side period)

abbrev pub AreWithin : ℕ → List (Option ℤ) → Type 0
AreWithin limit table = (pin : ℕ) (time : ℤ) → slice_index_or table pin None ≡ Some time → IsWithin limit time

-- the greatest magnitude of a sum over a path
abbrev pub sum_limit : ℕ
sum_limit = 2 ^ 55

abbrev pub left_by : List Arc → List ℤ → ℤ → List (Option ℕ) → List (Option ℤ) → List (Option ℤ) → List (Option ℤ) → PinNo → Option ℤ
left_by arcs steps base into best ends checks capture =
    left (offer arcs steps best (slice_index_or into capture.0 None)) (slice_index_or ends capture.0 None) (slice_index_or checks capture.0 None) base

abbrev pub IsEnough : Option ℤ → Type 0
IsEnough rest = (time : ℤ) → rest ≡ Some time → pos 0 ≤ℤ time

pub record IsShort (side : Side) (problem : Problem) (spans : Spans) (path : List PinNo) (short : ℤ) : Type 0 where
  pub checked : IsCheckedPath problem.graph path
  pub above : pos 0 <ℤ short
  pub by : excess side problem spans no_buffers path ≡ neg_ℤ short

abbrev pub IsMetAt : Side → Problem → Spans → Type 0
IsMetAt side problem spans = (path : List PinNo) → IsCheckedPath problem.graph path → pos 0 ≤ℤ excess side problem spans no_buffers path
