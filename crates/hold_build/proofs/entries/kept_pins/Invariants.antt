use Rattle.std.proofs.Common.{◌≡◌, ℕ, ◌<◌, length}
use Rattle.hold_netlist.specs.Pins.{pins_of}
use Rattle.hold_build.specs.Faults.{IsUnknownKeep}
use Rattle.hold_build.specs.Listing.{ListsEach}
use Rattle.hold_build.specs.inner.Names.{AreFlags, AreNames, IsKeptBefore}
use Rattle.hold_build.proofs.entries.kept_pins.Given as goal

-- the pins of the earlier entries, none of which is unknown
abbrev pub invariant-loop-place : goal.invariant-loop-place
invariant-loop-place l = record {
  each : ListsEach (IsKeptBefore l.bound l.job l.place) l.pins.items;
  known : (k : ℕ) → k < l.place → IsUnknownKeep l.bound l.job k → ⊥;
  flags : AreFlags l.pins.items l.flags.items;
  long : length l.flags.items ≡ pins_of l.bound.netlist;
  names : AreNames l.bound.netlist.insts l.names;
}
