-- IsWithin limit time: the time is at most the limit in magnitude; it may be below 0.
-- IsSpan limit span: the ends of the span stand in order, and both are within the limit.
-- IsValidCorner problem spans: the spans of a corner have one entry for each arc, launch, capture and kind, all in
--   order and within the limits; a kind's least is at least 0.
-- IsValid problem: the problem is within the limits and each of its corners is valid. It has 1 to 8 corners, at most
--   2^20 pins, 2^22 arcs and 8 kinds, each kind's cost is from 1 to 10^6, the chain limit is at most 16, and the
--   period is from 1 fs to 10 us. It may have no pin, no kind, no arc, launch or capture. Its graph may list a pin
--   more than once.
use Rattle.std.specs.Prelude.{◌≡◌, ℕ, ◌≤◌, length, All, ℤ, pos, neg_ℤ, ◌≤ℤ◌}
use Rattle.hold_base.specs.Interval.{IsOrdered}
use Rattle.hold_base.specs.Limits.{time_limit, launch_limit, arcs_limit, bound_pins_limit, corners_limit, kinds_limit, cost_limit, chain_limit}
use Rattle.hold_base.specs.declared.time.Interval.{Interval}
use Rattle.hold_graph.specs.declared.problem.Spans.{Spans}
use Rattle.hold_graph.specs.declared.problem.Problem.{Problem}

pub record IsWithin (limit : ℕ) (time : ℤ) : Type 0 where
  pub low : neg_ℤ (pos limit) ≤ℤ time
  pub high : time ≤ℤ pos limit

pub record IsSpan (limit : ℕ) (span : Interval) : Type 0 where
  pub ordered : IsOrdered span
  pub least : IsWithin limit span.least
  pub greatest : IsWithin limit span.greatest

pub record IsValidCorner (problem : Problem) (spans : Spans) : Type 0 where
  pub arcs_each : length spans.arcs ≡ length problem.graph.arcs
  pub launch_each : length spans.launch ≡ length problem.graph.launches
  pub capture_each : length spans.capture ≡ length problem.graph.captures
  pub setup_each : length spans.setup ≡ length problem.graph.captures
  pub hold_each : length spans.hold ≡ length problem.graph.captures
  pub kinds_each : length spans.kinds ≡ length problem.costs
  pub arcs : All (IsSpan time_limit) spans.arcs
  pub launch : All (IsSpan launch_limit) spans.launch
  pub capture : All (IsSpan time_limit) spans.capture
  pub setup : All (IsWithin time_limit) spans.setup
  pub hold : All (IsWithin time_limit) spans.hold
  pub kinds : All (IsSpan time_limit) spans.kinds
  pub kinds_least : All (λ kind. pos 0 ≤ℤ kind.least) spans.kinds

pub record IsValid (problem : Problem) : Type 0 where
  pub pins : problem.graph.pins ≤ bound_pins_limit
  pub arcs : length problem.graph.arcs ≤ arcs_limit
  pub some_corner : 1 ≤ length problem.corners
  pub corner_limit : length problem.corners ≤ corners_limit
  pub kinds : length problem.costs ≤ kinds_limit
  pub costs_least : All (λ cost. 1 ≤ cost) problem.costs
  pub costs_most : All (λ cost. cost ≤ cost_limit) problem.costs
  pub max_chain : problem.max_chain ≤ chain_limit
  pub period_least : pos 1 ≤ℤ problem.period
  pub period_most : problem.period ≤ℤ pos time_limit
  pub corners : All (IsValidCorner problem) problem.corners
