-- AreDifferent pins: no pin stands at two places. True of no pins and of a pin alone.
-- GoesRound arcs pins: each pin is next by an arc to the pin before it, and the first is next to the last. So a pin alone goes
--   round where an arc leads from it to itself. False of no pins.
-- BeginsWithLeast pins: no pin has a lower number than the first. True of no pins.
-- IsCycle arcs pins: the pins are different, they go round, and they begin with the least. So of one cycle of arcs only one list
--   is told.
-- IsTopological pins arcs order: each of so many pins stands in the order once, no other does, and each arc that ends at a pin
--   of the order begins at a pin that stands before it.
use Rattle.std.specs.Prelude.{◌≡◌, ℕ, ◌<◌, ◌≤◌, List, [], ◌∷◌, length, take, Some, slice_get, All, Contains}
use Rattle.hold_base.specs.declared.number.PinNo.{PinNo}
use Rattle.hold_graph.specs.declared.graph.Arc.{Arc}
use Rattle.hold_graph.specs.Path.{HasArc, EachNext, last_pin}

abbrev pub AreDifferent : List PinNo → Type 0
AreDifferent pins = (j k : ℕ) (pin : PinNo) → slice_get pins j ≡ Some pin → slice_get pins k ≡ Some pin → j ≡ k

abbrev pub GoesRound : List Arc → List PinNo → Type 0
GoesRound arcs [] = ⊥
GoesRound arcs (a ∷ rest) = EachNext arcs a rest × HasArc arcs (last_pin a rest) a

abbrev pub BeginsWithLeast : List PinNo → Type 0
BeginsWithLeast [] = Unit {0}
BeginsWithLeast (a ∷ rest) = All (λ pin. a.0 ≤ pin.0) rest

pub record IsCycle (arcs : List Arc) (pins : List PinNo) : Type 0 where
  pub different : AreDifferent pins
  pub round : GoesRound arcs pins
  pub least : BeginsWithLeast pins

pub record IsTopological (pins : ℕ) (arcs : List Arc) (order : List PinNo) : Type 0 where
  pub count : length order ≡ pins
  pub below : All (λ pin. pin.0 < pins) order
  pub each : (pin : ℕ) → pin < pins → Contains order (record { 0 = pin })
  pub different : AreDifferent order
  pub forward : (k : ℕ) (arc : Arc) → slice_get order k ≡ Some arc.to → Contains arcs arc → Contains (take k order) arc.from
