-- Marks that spread over a graph, pin by pin.
--
-- far way arc, near way arc: the pin that a mark comes from along the arc, and the pin that it comes to.
-- is_marked marks pin: whether the pin is marked; a pin past the marks isn't.
-- places_to way arcs pin: the places of the arcs along which marks come to the pin.
-- AnyMarked way arcs marks places: one of the arcs at these places comes from a marked pin.
-- ComesTo way arcs marks pin: a mark comes to the pin along some arc.
-- Reaches way arcs listed pin: some walk of zero or more arcs leads from one of these pins to the pin, or back from one of them.
-- StandsAhead way arcs order: the pin that a mark comes from along an arc stands before the pin that it comes to.
-- IsListedAnd P listed pin: the pin is listed, and P holds of it.
-- AreMarked way arcs listed order n marks: of the first n pins of the order exactly those are marked that are reached.
use Rattle.std.specs.Prelude.{◌≡◌, ℕ, ◌<◌, List, Bool, false, IsTrue, ◌↔◌, Some, slice_get, slice_index_or, Contains}
use Rattle.hold_base.specs.declared.number.PinNo.{PinNo}
use Rattle.hold_graph.specs.declared.graph.Arc.{Arc}
use Rattle.hold_graph.specs.Adjacency.{places_into, places_from}
use Rattle.hold_graph.specs.inner.Marks.{IsLedTo, LeadsTo}
use Rattle.hold_uses.specs.declared.marks.Way.{Way}
use Rattle.hold_uses.specs.declared.marks.Way.TheVariants.{Forward, Back}

abbrev pub far : Way → Arc → PinNo
far Forward arc = arc.from
far Back arc = arc.to

abbrev pub near : Way → Arc → PinNo
near Forward arc = arc.to
near Back arc = arc.from

abbrev pub is_marked : List Bool → PinNo → Bool
is_marked marks pin = slice_index_or marks pin.0 false

abbrev pub places_to : Way → List Arc → PinNo → List ℕ
places_to Forward arcs pin = places_into arcs pin
places_to Back arcs pin = places_from arcs pin

pub record AnyMarked (way : Way) (arcs : List Arc) (marks : List Bool) (places : List ℕ) : Type 0 where
  pub at : ℕ
  pub place : ℕ
  pub is_place : slice_get places at ≡ Some place
  pub arc : Arc
  pub is_arc : slice_get arcs place ≡ Some arc
  pub marked : IsTrue (is_marked marks (far way arc))

pub record ComesTo (way : Way) (arcs : List Arc) (marks : List Bool) (pin : PinNo) : Type 0 where
  pub arc : Arc
  pub listed : Contains arcs arc
  pub comes_to : near way arc ≡ pin
  pub marked : IsTrue (is_marked marks (far way arc))

abbrev pub Reaches : Way → List Arc → List PinNo → PinNo → Type 0
Reaches Forward arcs listed pin = IsLedTo arcs listed pin
Reaches Back arcs listed pin = LeadsTo arcs listed pin

pub record StandsAhead (way : Way) (arcs : List Arc) (order : List PinNo) : Type 0 where
  pub ahead : (k : ℕ) (arc : Arc) → slice_get order k ≡ Some (near way arc) → Contains arcs arc → (j : ℕ) × (j < k) × (slice_get order j ≡ Some (far way arc))

pub record IsListedAnd (P : PinNo → Type 0) (listed : List PinNo) (pin : PinNo) : Type 0 where
  pub is_listed : Contains listed pin
  pub holds : P pin

pub record AreMarked (way : Way) (arcs : List Arc) (listed order : List PinNo) (n : ℕ) (marks : List Bool) : Type 0 where
  pub each : (k : ℕ) (pin : PinNo) → k < n → slice_get order k ≡ Some pin → IsTrue (is_marked marks pin) ↔ Reaches way arcs listed pin
