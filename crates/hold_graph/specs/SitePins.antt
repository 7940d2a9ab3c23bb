-- EndsWire parts pin: some checked path has a step that a wire arc makes and that comes to the pin.
-- IsSite parts pin: the pin ends a wire arc on a checked path, is no kept pin, and no walk of zero or more arcs leads from it
--   to a clock pin. So a clock pin is none, and a launch that no wire arc ends at is none.
-- AreSites parts sites: the sites in pin order, each once. Empty where no path is checked.
use Rattle.std.specs.Prelude.{◌≡◌, ℕ, ◌<◌, true, List, ◌∷◌, ◌++◌, Some, slice_get, Contains, All}
use Rattle.hold_base.specs.declared.number.PinNo.{PinNo}
use Rattle.hold_graph.specs.declared.graph.Parts.{Parts}
use Rattle.hold_graph.specs.Path.{EachNext, last_pin, IsCheckedPath}

pub record EndsWire (parts : Parts) (pin : PinNo) : Type 0 where
  pub before : List PinNo
  pub source : PinNo
  pub after : List PinNo
  pub checked : IsCheckedPath parts (before ++ source ∷ pin ∷ after)
  pub wire : Contains parts.arcs (record { from = source; to = pin; wire = true })

pub record IsSite (parts : Parts) (pin : PinNo) : Type 0 where
  pub ends : EndsWire parts pin
  pub free : Contains parts.keeps pin → ⊥
  pub off_clock : (steps : List PinNo) → EachNext parts.arcs pin steps → Contains parts.clocks (last_pin pin steps) → ⊥

pub record AreSites (parts : Parts) (sites : List PinNo) : Type 0 where
  pub sound : All (IsSite parts) sites
  pub whole : (pin : PinNo) → IsSite parts pin → Contains sites pin
  pub rising : (j k : ℕ) (a b : PinNo) → j < k → slice_get sites j ≡ Some a → slice_get sites k ≡ Some b → a.0 < b.0
