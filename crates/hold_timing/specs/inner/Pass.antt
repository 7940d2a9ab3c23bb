-- Words of the pass that finds arrivals. Nothing here is part of what an arrival means.
--
-- worse side a b: the worse of two times, either of which may be missing.
-- worst_from side so_far times: the worst of a time and of all these.
-- extended time step: a time and one step more, none where there is none.
-- origin arc: the number of the pin that an arc leads from, 0 where there is no arc.
-- step_at side spans place: the end of the span at that place that the side looks at, 0 where there is none.
-- offer side arcs spans arrivals pad place: what the arc at that place brings to the pin that it ends at: the arrival at the pin
--   that it leads from, its step, and what the buffers in front of the pin add.
-- offers_from .. so_far places: the worst of a time and of what the arcs at these places bring.
-- coming side parts spans buffers arrivals pin: the worst that the arcs into a pin bring, where these are the arrivals at all pins.
-- start_of side parts spans pin: what the launch at a pin has. IsStart side parts spans pin own: that time where the pin is a
--   launch, none where it is none.
-- spread side time_of so_far pins items pin: the worst of a time and of those of the items that stand at the places where `pins`
--   names the pin. An item without a pin, or a pin without an item, counts for nothing.
-- pad_limit: the magnitude of what the buffers of one site add, of 8 kinds 16 buffers each.
-- step_limit: the magnitude of one step with its buffers, 2^41. sum_limit: that of a sum over a path, 2^61 + 2^41.
-- AreWithin limit times: each time that is there is within the limit.
-- slack_of side time required: what is left between the time that comes and the time that the side's check asks for. slack_from:
--   the same, none where nothing comes.
-- required_limit: the magnitude of what a check asks for, of three times.
use Rattle.std.specs.Prelude.{◌≡◌, ℕ, ◌+◌, ◌*◌, ◌^◌, ◌==◌, if◌then◌else◌, List, [], ◌∷◌, length, map, Option, Some, None, slice_get, slice_index_or, Contains, ℤ, pos, ◌+ℤ◌, ◌-ℤ◌}
use Rattle.std.specs.Int.{int_min, int_max}
use Rattle.hold_base.specs.Limits.{chain_limit, kinds_limit, time_limit}
use Rattle.hold_base.specs.declared.number.PinNo.{PinNo}
use Rattle.hold_base.specs.declared.time.Interval.{Interval}
use Rattle.hold_base.specs.declared.time.Side.{Side}
use Rattle.hold_base.specs.declared.time.Side.TheVariants.{Early, Late}
use Rattle.hold_graph.specs.declared.graph.Arc.{Arc}
use Rattle.hold_graph.specs.Problem.{IsWithin}
use Rattle.hold_base.specs.Interval.{hull_of}
use Rattle.hold_graph.specs.declared.graph.Parts.{Parts}
use Rattle.hold_graph.specs.declared.problem.Spans.{Spans}
use Rattle.hold_graph.specs.declared.problem.Problem.{Problem}
use Rattle.hold_graph.specs.Adjacency.{places_into}
use Rattle.hold_graph.specs.Sums.{Buffers, end_of, added_from, items_at}

abbrev pub worse_of : Side → ℤ → ℤ → ℤ
worse_of Early x y = int_min x y
worse_of Late x y = int_max x y

abbrev pub worse : Side → Option ℤ → Option ℤ → Option ℤ
worse side None b = b
worse side (Some x) None = Some x
worse side (Some x) (Some y) = Some (worse_of side x y)

abbrev pub worst_from : Side → Option ℤ → List (Option ℤ) → Option ℤ
worst_from side so_far [] = so_far
worst_from side so_far (time ∷ times) = worst_from side (worse side so_far time) times

abbrev pub extended : Option ℤ → ℤ → Option ℤ
extended None step = None
extended (Some time) step = Some (time +ℤ step)

abbrev pub origin : Option Arc → ℕ
origin None = 0
origin (Some arc) = arc.from.0

abbrev pub step_at : Side → List Interval → ℕ → ℤ
step_at side spans place = end_of side (slice_index_or spans place (record { least = pos 0; greatest = pos 0 }))

abbrev pub offer : Side → List Arc → List Interval → List (Option ℤ) → ℤ → ℕ → Option ℤ
offer side arcs spans arrivals pad place =
    extended (slice_index_or arrivals (origin (slice_get arcs place)) None) (step_at side spans place +ℤ pad)

abbrev pub offers_from : Side → List Arc → List Interval → List (Option ℤ) → ℤ → Option ℤ → List ℕ → Option ℤ
offers_from side arcs spans arrivals pad so_far [] = so_far
offers_from side arcs spans arrivals pad so_far (place ∷ places) =
    offers_from side arcs spans arrivals pad (worse side so_far (offer side arcs spans arrivals pad place)) places

abbrev pub coming : Side → Parts → Spans → Buffers → List (Option ℤ) → PinNo → Option ℤ
coming side parts spans buffers arrivals pin =
    offers_from side parts.arcs spans.arcs arrivals (added_from side 0 spans.kinds (buffers pin)) None (places_into parts.arcs pin)

abbrev pub start_of : Side → Parts → Spans → PinNo → ℤ
start_of side parts spans pin = end_of side (hull_of (items_at parts.launches spans.launch pin))

pub record IsStart (side : Side) (parts : Parts) (spans : Spans) (pin : PinNo) (own : Option ℤ) : Type 0 where
  pub listed : (time : ℤ) → own ≡ Some time → Contains parts.launches pin
  pub is : Contains parts.launches pin → own ≡ Some (start_of side parts spans pin)

abbrev pub spread : {A : Type 0} → Side → (A → ℤ) → Option ℤ → List PinNo → List A → PinNo → Option ℤ
spread side time_of so_far [] items pin = so_far
spread side time_of so_far (p ∷ pins) [] pin = so_far
spread side time_of so_far (p ∷ pins) (item ∷ items) pin =
    spread side time_of (if p.0 == pin.0 then worse side so_far (Some (time_of item)) else so_far) pins items pin

abbrev pub pad_limit : ℕ
pad_limit = kinds_limit * (chain_limit * time_limit)

abbrev pub step_limit : ℕ
step_limit = 2 ^ 41

abbrev pub sum_limit : ℕ
sum_limit = 2 ^ 61 + 2 ^ 41

abbrev pub AreWithin : ℕ → List (Option ℤ) → Type 0
AreWithin limit times = (place : ℕ) (time : ℤ) → slice_index_or times place None ≡ Some time → IsWithin limit time

abbrev pub slack_of : Side → ℤ → ℤ → ℤ
slack_of Early time required = time -ℤ required
slack_of Late time required = required -ℤ time

abbrev pub slack_from : Side → Option ℤ → ℤ → Option ℤ
slack_from side None required = None
slack_from side (Some time) required = Some (slack_of side time required)

abbrev pub required_limit : ℕ
required_limit = 3 * time_limit
