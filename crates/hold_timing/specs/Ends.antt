-- End: where checked paths end, and the least slack of those that end there.
-- GoesBefore a b: of two ends a has no greater slack, and where both have the same, no greater pin.
-- IsBefore found end: there is an end, and it goes before the other.
-- end_of_path side problem spans buffers path: the pin at which a path ends, and its excess.
-- IsWorstEnd side problem spans buffers found: of one side of a corner, found is the end of a checked path and goes before the
--   end of each. So its slack is the least excess of all checked paths, and its capture the least pin at which a path with that
--   excess ends. None exactly where no path is checked.
-- EndsAt parts capture: some checked path ends at the capture.
-- SomeMisses problem buffers: some checked path misses a check in some corner, by so much.
use Rattle.std.specs.Prelude.{◌≡◌, ◌≤◌, List, Option, Some, None, ℤ, ◌≤ℤ◌}
use Rattle.hold_base.specs.declared.number.PinNo.{PinNo}
use Rattle.hold_base.specs.declared.time.Side.{Side}
use Rattle.hold_graph.specs.declared.graph.Parts.{Parts}
use Rattle.hold_graph.specs.declared.problem.Spans.{Spans}
use Rattle.hold_graph.specs.declared.problem.Problem.{Problem}
use Rattle.hold_graph.specs.declared.problem.Listed.{Listed}
use Rattle.hold_graph.specs.Path.{IsCheckedPath, end_pin}
use Rattle.hold_graph.specs.Sums.{Buffers}
use Rattle.hold_graph.specs.Met.{excess, Misses}
use Rattle.hold_timing.specs.declared.end.End.{End}

abbrev pub GoesBefore : End → End → Type 0
GoesBefore a b = (a.slack ≤ℤ b.slack) × (a.slack ≡ b.slack → a.capture.0 ≤ b.capture.0)

abbrev pub IsBefore : Option End → End → Type 0
IsBefore None end = ⊥
IsBefore (Some found) end = GoesBefore found end

abbrev pub end_of_path : Side → Problem → Spans → Buffers → List PinNo → End
end_of_path side problem spans buffers path = record { capture = end_pin path; slack = excess side problem spans buffers path }

pub record IsWorstEnd (side : Side) (problem : Problem) (spans : Spans) (buffers : Buffers) (found : Option End) : Type 0 where
  pub attained : (end : End) → found ≡ Some end → (path : List PinNo) × IsCheckedPath problem.graph path × (end_of_path side problem spans buffers path ≡ end)
  pub bound : (path : List PinNo) → IsCheckedPath problem.graph path → IsBefore found (end_of_path side problem spans buffers path)

abbrev pub EndsAt : Parts → PinNo → Type 0
EndsAt parts capture = (path : List PinNo) × IsCheckedPath parts path × (end_pin path ≡ capture)

abbrev pub SomeMisses : Problem → Buffers → Type 0
SomeMisses problem buffers = (listed : Listed) × (short : ℤ) × Misses problem buffers listed short
