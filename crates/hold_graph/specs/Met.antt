-- capture_at parts spans pin: when the clock arrives at a capture; the hull where the pin is listed more than once, and
--   0 to 0 where it is none. setup_at and hold_at: its greatest setup and hold, and 0 where it is none.
-- early_excess problem spans buffers path: how much later than hold asks the path's earliest signal comes. Below 0 by
--   as much as it comes too early.
-- late_excess problem spans buffers path: how much earlier than setup asks the path's latest signal comes. Below 0 by as
--   much as it comes too late.
-- excess side: the one or the other. It speaks of any list of pins, but means something of a checked path alone.
-- IsMet problem buffers: in each corner and at both sides the excess of each checked path is at least 0; an excess of 0
--   is met. Nothing is asked of a corner that the problem hasn't. True where no path is checked.
-- Misses problem buffers listed short: the listed path is a checked path, its corner is one of the problem's, and at its
--   side its excess is below 0 by exactly `short`.
use Rattle.std.specs.Prelude.{◌≡◌, ℕ, List, Some, slice_get, ℤ, pos, neg_ℤ, ◌+ℤ◌, ◌-ℤ◌, ◌≤ℤ◌, ◌<ℤ◌}
use Rattle.hold_base.specs.declared.number.PinNo.{PinNo}
use Rattle.hold_base.specs.declared.time.Interval.{Interval}
use Rattle.hold_base.specs.declared.time.Side.{Side}
use Rattle.hold_base.specs.declared.time.Side.TheVariants.{Early, Late}
use Rattle.hold_graph.specs.declared.graph.Parts.{Parts}
use Rattle.hold_graph.specs.declared.problem.Spans.{Spans}
use Rattle.hold_graph.specs.declared.problem.Problem.{Problem}
use Rattle.hold_graph.specs.declared.problem.Listed.{Listed}
use Rattle.hold_graph.specs.Path.{IsCheckedPath, end_pin}
use Rattle.hold_graph.specs.Sums.{Buffers, early_sum, late_sum, greatest_of, items_at}
use Rattle.hold_base.specs.Interval.{hull_of}

abbrev pub capture_at : Parts → Spans → PinNo → Interval
capture_at parts spans pin = hull_of (items_at parts.captures spans.capture pin)

abbrev pub setup_at : Parts → Spans → PinNo → ℤ
setup_at parts spans pin = greatest_of (items_at parts.captures spans.setup pin)

abbrev pub hold_at : Parts → Spans → PinNo → ℤ
hold_at parts spans pin = greatest_of (items_at parts.captures spans.hold pin)

abbrev pub early_excess : Problem → Spans → Buffers → List PinNo → ℤ
early_excess problem spans buffers path =
    (early_sum problem.graph spans buffers path -ℤ (capture_at problem.graph spans (end_pin path)).greatest)
    -ℤ hold_at problem.graph spans (end_pin path)

abbrev pub late_excess : Problem → Spans → Buffers → List PinNo → ℤ
late_excess problem spans buffers path =
    ((problem.period +ℤ (capture_at problem.graph spans (end_pin path)).least)
    -ℤ setup_at problem.graph spans (end_pin path)) -ℤ late_sum problem.graph spans buffers path

abbrev pub excess : Side → Problem → Spans → Buffers → List PinNo → ℤ
excess Early = early_excess
excess Late = late_excess

abbrev pub IsMet : Problem → Buffers → Type 0
IsMet problem buffers =
    (corner : ℕ) (spans : Spans) → slice_get problem.corners corner ≡ Some spans →
    (side : Side) (path : List PinNo) → IsCheckedPath problem.graph path → pos 0 ≤ℤ excess side problem spans buffers path

pub record Misses (problem : Problem) (buffers : Buffers) (listed : Listed) (short : ℤ) : Type 0 where
  pub spans : Spans
  pub corner : slice_get problem.corners listed.corner.0 ≡ Some spans
  pub checked : IsCheckedPath problem.graph listed.pins
  pub above : pos 0 <ℤ short
  pub by : excess listed.side problem spans buffers listed.pins ≡ neg_ℤ short
