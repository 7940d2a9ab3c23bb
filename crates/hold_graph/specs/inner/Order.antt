-- Words for the pass over a graph in which at most one arc ends at each pin. Nothing here is part of what a problem means.
--
-- IsInto arcs into: by pin, the place of the arc that ends there, and none where no arc does.
-- AreRanks order ranks: by pin, its place in the order.
-- IsOrder pins ranks order: the order has each of so many pins and no other, and ranks never fall along it.
use Rattle.std.specs.Prelude.{◌≡◌, ℕ, ◌<◌, List, length, Option, Some, None, slice_get, slice_index, slice_index_or, Contains, All}
use Rattle.std.specs.List.Sorted.{IsNonDecreasingBy}
use Rattle.hold_base.specs.declared.number.PinNo.{PinNo}
use Rattle.hold_graph.specs.declared.graph.Arc.{Arc}

pub record IsInto (arcs : List Arc) (into : List (Option ℕ)) : Type 0 where
  pub ends : (place : ℕ) (arc : Arc) → slice_get arcs place ≡ Some arc → slice_index_or into arc.to.0 None ≡ Some place
  pub only : (pin place : ℕ) → slice_index_or into pin None ≡ Some place →
      (arc : Arc) × (slice_get arcs place ≡ Some arc) × (arc.to.0 ≡ pin)

pub record AreRanks (order : List PinNo) (ranks : List ℕ) : Type 0 where
  pub at : (k : ℕ) (pin : PinNo) → slice_get order k ≡ Some pin → slice_index ranks pin.0 ≡ k

pub record IsOrder (pins : ℕ) (ranks : List ℕ) (order : List PinNo) : Type 0 where
  pub count : length order ≡ pins
  pub below : All (λ pin. pin.0 < pins) order
  pub each : (pin : ℕ) → pin < pins → Contains order (record { 0 = pin })
  pub rising : IsNonDecreasingBy (λ pin. slice_index ranks pin.0) order
