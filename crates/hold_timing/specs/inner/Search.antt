-- Words of the search for the worst end and for the path to it. Nothing here is part of what an end means.
--
-- end_at capture slack: the end at a capture with that slack, none where there is no slack.
-- times_of arrivals required: the times of one side of a corner. table_of counts early late: the table of these.
-- IsWorstAmong side problem spans buffers k found: found is the end of a checked path, and goes before the end of each that ends
--   at one of the first k captures.
-- AreRoomFor side problem all: by corner, there are as many arrivals as pins, and the times that the side's check asks.
-- IsMetAt side problem spans buffers: at that side of a corner every checked path meets its check. IsMissedAt: one doesn't.
-- CameBy side parts spans buffers arrivals pin time by: the arc at this place, of those that end at the pin, brings the pin that
--   time. None where no arc brings it, or where there is no time.
-- IsWorstTo side parts spans buffers capture path: where some path leads to the capture, this one does, and its sum is the worst
--   of all of them.
use Rattle.std.specs.Prelude.{◌≡◌, ℕ, ◌<◌, List, length, map, Option, Some, None, ℤ, pos, ◌≤ℤ◌, ◌<ℤ◌, slice_get, Contains}
use Rattle.hold_base.specs.declared.number.PinNo.{PinNo}
use Rattle.hold_base.specs.declared.time.Side.{Side}
use Rattle.hold_graph.specs.declared.problem.Spans.{Spans}
use Rattle.hold_graph.specs.declared.problem.Problem.{Problem}
use Rattle.hold_graph.specs.Path.{IsCheckedPath, end_pin}
use Rattle.hold_graph.specs.declared.graph.Parts.{Parts}
use Rattle.hold_graph.specs.Adjacency.{places_into}
use Rattle.hold_graph.specs.Met.{excess}
use Rattle.hold_graph.specs.Sums.{Buffers, added_from, path_sum}
use Rattle.hold_timing.specs.Worst.{required_at, IsPathTo, IsWorstOf}
use Rattle.hold_timing.specs.inner.Pass.{offer}
use Rattle.hold_timing.specs.declared.end.End.{End}
use Rattle.hold_timing.specs.Arrivals.{Times, Table}
use Rattle.hold_timing.specs.Ends.{IsBefore, end_of_path}

abbrev pub end_at : PinNo → Option ℤ → Option End
end_at capture None = None
end_at capture (Some slack) = Some (record { capture = capture; slack = slack })

abbrev pub times_of : List (Option ℤ) → List ℤ → Times
times_of arrivals required = record { arrivals = arrivals; required = required }

abbrev pub table_of : List ℕ → List Times → List Times → Table
table_of counts early late = record { counts = counts; early = early; late = late }

pub record IsWorstAmong (side : Side) (problem : Problem) (spans : Spans) (buffers : Buffers) (k : ℕ) (found : Option End) : Type 0 where
  pub attained : (end : End) → found ≡ Some end → (path : List PinNo) × IsCheckedPath problem.graph path × (end_of_path side problem spans buffers path ≡ end)
  pub bound : (path : List PinNo) → IsCheckedPath problem.graph path → (j : ℕ) → j < k → slice_get problem.graph.captures j ≡ Some (end_pin path) →
      IsBefore found (end_of_path side problem spans buffers path)

pub record AreRoomFor (side : Side) (problem : Problem) (all : List Times) : Type 0 where
  pub corners : length all ≡ length problem.corners
  pub each : (corner : ℕ) (times : Times) → slice_get all corner ≡ Some times → length times.arrivals ≡ problem.graph.pins
  pub asked : (corner : ℕ) (times : Times) (spans : Spans) → slice_get all corner ≡ Some times → slice_get problem.corners corner ≡ Some spans →
      times.required ≡ map (required_at side problem spans) problem.graph.captures

abbrev pub IsMetAt : Side → Problem → Spans → Buffers → Type 0
IsMetAt side problem spans buffers = (path : List PinNo) → IsCheckedPath problem.graph path → pos 0 ≤ℤ excess side problem spans buffers path

abbrev pub IsMissedAt : Side → Problem → Spans → Buffers → Type 0
IsMissedAt side problem spans buffers = (path : List PinNo) × IsCheckedPath problem.graph path × (excess side problem spans buffers path <ℤ pos 0)

pub record CameBy (side : Side) (parts : Parts) (spans : Spans) (buffers : Buffers) (arrivals : List (Option ℤ)) (pin : PinNo) (time : Option ℤ) (by : Option ℕ) : Type 0 where
  pub listed : (place : ℕ) → by ≡ Some place → Contains (places_into parts.arcs pin) place
  pub brings : (place : ℕ) → by ≡ Some place → offer side parts.arcs spans.arcs arrivals (added_from side 0 spans.kinds (buffers pin)) place ≡ time
  pub some : (place : ℕ) → by ≡ Some place → time ≡ None → ⊥
  pub none : by ≡ None → (place : ℕ) → Contains (places_into parts.arcs pin) place → (t : ℤ) → time ≡ Some t →
      offer side parts.arcs spans.arcs arrivals (added_from side 0 spans.kinds (buffers pin)) place ≡ Some t → ⊥

abbrev pub IsWorstTo : Side → Parts → Spans → Buffers → PinNo → List PinNo → Type 0
IsWorstTo side parts spans buffers capture path = (some : List PinNo) → IsPathTo parts capture some →
    IsPathTo parts capture path × IsWorstOf side (IsPathTo parts capture) (path_sum side parts spans buffers) (Some (path_sum side parts spans buffers path))
