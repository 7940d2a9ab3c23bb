-- Times: what is kept of one side of a corner. arrivals: by pin, the arrival there. required: by the place of a capture, the time
--   that the check asks of the paths that end there.
-- Table: the counts that arrivals are for, and by corner the times of its early side and of its late side. times_at side table:
--   those of that side.
-- AtCorner problem counts corner P: P holds of the spans of that corner, and of these counts as buffers.
-- AreTimesOf side problem spans buffers times: each pin has its arrival, and each listed capture the time that the check asks.
-- AreSideTimes side problem counts all: so it is in each corner, and there are no times of other corners.
-- AreArrivals problem table: the counts are ones of the problem, and the table has their arrivals, at both sides.
use Rattle.std.specs.Prelude.{◌≡◌, ℕ, ◌<◌, List, length, map, Option, Some, None, ℤ, slice_get, slice_index_or}
use Rattle.hold_base.specs.declared.number.PinNo.{PinNo}
use Rattle.hold_base.specs.declared.time.Side.{Side}
use Rattle.hold_base.specs.declared.time.Side.TheVariants.{Early, Late}
use Rattle.hold_graph.specs.declared.problem.Spans.{Spans}
use Rattle.hold_graph.specs.declared.problem.Problem.{Problem}
use Rattle.hold_graph.specs.SitePins.{AreSites}
use Rattle.hold_graph.specs.Sites.{buffers_of, AreCountsOf}
use Rattle.hold_graph.specs.Sums.{Buffers}
use Rattle.hold_timing.specs.Worst.{IsArrival, required_at}

pub record Times : Type 0 where
  pub arrivals : List (Option ℤ)
  pub required : List ℤ

pub record Table : Type 0 where
  pub counts : List ℕ
  pub early : List Times
  pub late : List Times

abbrev pub times_at : Side → Table → List Times
times_at Early table = table.early
times_at Late table = table.late

abbrev pub AtCorner : Problem → List ℕ → ℕ → (Spans → Buffers → Type 0) → Type 0
AtCorner problem counts corner P =
    (spans : Spans) (sites : List PinNo) → slice_get problem.corners corner ≡ Some spans → AreSites problem.graph sites →
    P spans (buffers_of (length problem.costs) sites counts)

pub record AreTimesOf (side : Side) (problem : Problem) (spans : Spans) (buffers : Buffers) (times : Times) : Type 0 where
  pub each : length times.arrivals ≡ problem.graph.pins
  pub right : (pin : PinNo) → pin.0 < problem.graph.pins → IsArrival side problem spans buffers pin (slice_index_or times.arrivals pin.0 None)
  pub asked : times.required ≡ map (required_at side problem spans) problem.graph.captures

pub record AreSideTimes (side : Side) (problem : Problem) (counts : List ℕ) (all : List Times) : Type 0 where
  pub each : length all ≡ length problem.corners
  pub right : (corner : ℕ) (times : Times) → slice_get all corner ≡ Some times →
      AtCorner problem counts corner (λ spans buffers. AreTimesOf side problem spans buffers times)

pub record AreArrivals (problem : Problem) (table : Table) : Type 0 where
  pub of_problem : AreCountsOf problem table.counts
  pub sides : (side : Side) → AreSideTimes side problem table.counts (times_at side table)
