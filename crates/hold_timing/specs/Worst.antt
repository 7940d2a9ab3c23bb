-- AsBad side x y: of two times x is at least as bad: at the early side it is no later, at the late side no earlier.
-- IsAsBad side answer y: there is a time, and it is at least as bad as y.
-- IsWalkTo parts pin path: the path begins with a launch, each pin is next by an arc to the one before it, and it ends at the
--   pin. A launch alone is a walk to itself. The empty list is none.
-- IsPathTo parts pin path: the same, with at least two pins; so where the pin is a capture it is a checked path.
-- IsWorstOf side Member value answer: the answer is the value of a member, and at least as bad as that of each member. None
--   exactly where there is no member. At the early side it is the least value, at the late side the greatest.
-- IsArrival side problem spans buffers pin time: of all walks to the pin, the worst sum of the side: the earliest time at which
--   a change can come there, or the latest. None where no walk comes there.
-- required_at side problem spans pin: the time that the side's check asks of a path that ends at this capture: early, the time
--   before which nothing may come; late, the time by which all must have come.
-- IsSlackAt side problem spans buffers capture slack: of all checked paths that end at this capture, the least excess of the side.
--   None where no path ends there.
use Rattle.std.specs.Prelude.{◌≡◌, ℕ, ◌≤◌, List, [], ◌∷◌, length, Option, Some, None, Contains, ℤ, ◌+ℤ◌, ◌-ℤ◌, ◌≤ℤ◌}
use Rattle.hold_base.specs.declared.number.PinNo.{PinNo}
use Rattle.hold_base.specs.declared.time.Side.{Side}
use Rattle.hold_base.specs.declared.time.Side.TheVariants.{Early, Late}
use Rattle.hold_graph.specs.declared.graph.Parts.{Parts}
use Rattle.hold_graph.specs.declared.problem.Spans.{Spans}
use Rattle.hold_graph.specs.declared.problem.Problem.{Problem}
use Rattle.hold_graph.specs.Path.{EachNext, last_pin}
use Rattle.hold_graph.specs.Sums.{Buffers, path_sum}
use Rattle.hold_graph.specs.Met.{capture_at, setup_at, hold_at, excess}

abbrev pub AsBad : Side → ℤ → ℤ → Type 0
AsBad Early x y = x ≤ℤ y
AsBad Late x y = y ≤ℤ x

abbrev pub IsAsBad : Side → Option ℤ → ℤ → Type 0
IsAsBad side None y = ⊥
IsAsBad side (Some x) y = AsBad side x y

abbrev pub IsWalkTo : Parts → PinNo → List PinNo → Type 0
IsWalkTo parts pin [] = ⊥
IsWalkTo parts pin (a ∷ rest) = Contains parts.launches a × EachNext parts.arcs a rest × (last_pin a rest ≡ pin)

abbrev pub IsPathTo : Parts → PinNo → List PinNo → Type 0
IsPathTo parts pin path = IsWalkTo parts pin path × (2 ≤ length path)

pub record IsWorstOf (side : Side) (Member : List PinNo → Type 0) (value : List PinNo → ℤ) (answer : Option ℤ) : Type 0 where
  pub attained : (time : ℤ) → answer ≡ Some time → (path : List PinNo) × Member path × (value path ≡ time)
  pub bound : (path : List PinNo) → Member path → IsAsBad side answer (value path)

abbrev pub IsArrival : Side → Problem → Spans → Buffers → PinNo → Option ℤ → Type 0
IsArrival side problem spans buffers pin = IsWorstOf side (IsWalkTo problem.graph pin) (path_sum side problem.graph spans buffers)

abbrev pub required_at : Side → Problem → Spans → PinNo → ℤ
required_at Early problem spans pin = (capture_at problem.graph spans pin).greatest +ℤ hold_at problem.graph spans pin
required_at Late problem spans pin = (problem.period +ℤ (capture_at problem.graph spans pin).least) -ℤ setup_at problem.graph spans pin

abbrev pub IsSlackAt : Side → Problem → Spans → Buffers → PinNo → Option ℤ → Type 0
IsSlackAt side problem spans buffers capture = IsWorstOf Early (IsPathTo problem.graph capture) (excess side problem spans buffers)
