-- Words for the passes over the pins that mark those from which walks lead somewhere, or to which walks lead.
--
-- AreFlags pins listed flags: there is a flag for each of so many pins, true of exactly those that are listed.
-- far_pin far arc: the number of the pin at that end of the arc; 0 where there is no arc.
-- is_marked marks far arcs place: whether the arc at the place has a marked pin at that end.
-- any_marked marks far arcs places: whether some arc at one of the places has.
-- IsMarked far arcs rows seeds marks pin: the pin is marked exactly where it is a seed, or where an arc of its row has a marked pin
--   at that end.
-- AreMarked far arcs rows seeds order marks: there is a mark for each seed, and each pin of the order is so marked.
-- StandsAhead far arcs rows order: of each pin of the order, and each arc of its row, the pin at that end stands before the pin.
-- LeadsTo arcs targets pin: some walk of zero or more arcs leads from the pin to one of the targets.
-- IsLedTo arcs sources pin: some walk of zero or more arcs leads from one of the sources to the pin.
-- AreExact pins Holds marks: there is a mark for each of so many pins, true of exactly those of which it holds.
use Rattle.std.specs.Prelude.{◌≡◌, ℕ, ◌<◌, Bool, true, false, ◌||◌, IsTrue, ◌↔◌, List, [], length, Option, Some, None, slice_get, slice_index_or, Contains}
use Rattle.std.specs.List.{list_any}
use Rattle.hold_base.specs.declared.number.PinNo.{PinNo}
use Rattle.hold_graph.specs.declared.graph.Arc.{Arc}
use Rattle.hold_graph.specs.declared.adjacency.End.{End}
use Rattle.hold_graph.specs.inner.Adjacency.{pin_at}
use Rattle.hold_graph.specs.Path.{EachNext, last_pin}

pub record AreExact (pins : ℕ) (Holds : PinNo → Type 0) (marks : List Bool) : Type 0 where
  pub count : length marks ≡ pins
  pub exact : (pin : PinNo) → pin.0 < pins → IsTrue (slice_index_or marks pin.0 false) ↔ Holds pin

abbrev pub AreFlags : ℕ → List PinNo → List Bool → Type 0
AreFlags pins listed = AreExact pins (Contains listed)

abbrev pub far_pin : End → Option Arc → ℕ
far_pin far None = 0
far_pin far (Some arc) = (pin_at far arc).0

abbrev pub is_marked : List Bool → End → List Arc → ℕ → Bool
is_marked marks far arcs place = slice_index_or marks (far_pin far (slice_get arcs place)) false

abbrev pub any_marked : List Bool → End → List Arc → List ℕ → Bool
any_marked marks far arcs places = list_any (is_marked marks far arcs) places

pub record IsMarked (far : End) (arcs : List Arc) (rows : List (List ℕ)) (seeds marks : List Bool) (pin : ℕ) : Type 0 where
  pub is : slice_index_or marks pin false ≡ (slice_index_or seeds pin false || any_marked marks far arcs (slice_index_or rows pin []))

pub record AreMarked (far : End) (arcs : List Arc) (rows : List (List ℕ)) (seeds : List Bool) (order : List PinNo) (marks : List Bool) : Type 0 where
  pub count : length marks ≡ length seeds
  pub each : (k : ℕ) (pin : PinNo) → slice_get order k ≡ Some pin → IsMarked far arcs rows seeds marks pin.0

pub record StandsAhead (far : End) (arcs : List Arc) (rows : List (List ℕ)) (order : List PinNo) : Type 0 where
  pub ahead : (k : ℕ) (pin : PinNo) (place : ℕ) → slice_get order k ≡ Some pin → Contains (slice_index_or rows pin.0 []) place →
      (j : ℕ) × (other : PinNo) × (j < k) × (slice_get order j ≡ Some other) × (other.0 ≡ far_pin far (slice_get arcs place))

pub record LeadsTo (arcs : List Arc) (targets : List PinNo) (pin : PinNo) : Type 0 where
  pub steps : List PinNo
  pub next : EachNext arcs pin steps
  pub there : Contains targets (last_pin pin steps)

pub record IsLedTo (arcs : List Arc) (sources : List PinNo) (pin : PinNo) : Type 0 where
  pub first : PinNo
  pub steps : List PinNo
  pub begins : Contains sources first
  pub next : EachNext arcs first steps
  pub ends : last_pin first steps ≡ pin
