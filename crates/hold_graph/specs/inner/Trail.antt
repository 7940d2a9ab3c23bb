-- Words for the walk against the arcs that finds a cycle.
--
-- IsHeldUp arcs counts pin: an arc ends at the pin that begins at a pin whose count isn't 0.
-- AreHeldUp arcs counts: each pin whose count isn't 0 is held up so.
-- IsBegin arcs arriving counts pin: the arc at one of these places begins at the pin, and its count isn't 0.
-- number_at pins place: the number of the pin at a place, and 0 past the end.
-- IsTrail arcs counts places trail pin: the trail is walked against the arcs, from pin to pin whose count isn't 0, and the walk stands
--   at the pin. `places` has by pin its place in the trail, and none where it isn't in it.
use Rattle.std.specs.Prelude.{◌≡◌, ℕ, ◌<◌, List, length, reverse, Option, Some, None, slice_get, slice_index, slice_index_or, Contains}
use Rattle.hold_base.specs.declared.number.PinNo.{PinNo}
use Rattle.hold_graph.specs.declared.graph.Arc.{Arc}
use Rattle.hold_graph.specs.Path.{EachNext}
use Rattle.hold_graph.specs.inner.Waiting.{arc_at}

pub record IsHeldUp (arcs : List Arc) (counts : List ℕ) (pin : ℕ) : Type 0 where
  pub arc : Arc
  pub listed : Contains arcs arc
  pub to : arc.to.0 ≡ pin
  pub below : arc.from.0 < length counts
  pub waits : 0 < slice_index counts arc.from.0

abbrev pub AreHeldUp : List Arc → List ℕ → Type 0
AreHeldUp arcs counts = (pin : ℕ) → pin < length counts → 0 < slice_index counts pin → IsHeldUp arcs counts pin

pub record IsBegin (arcs : List Arc) (arriving counts : List ℕ) (pin : PinNo) : Type 0 where
  pub place : ℕ
  pub listed : Contains arriving place
  pub from : (arc_at arcs place).from ≡ pin
  pub waits : 0 < slice_index counts pin.0

abbrev pub number_at : List PinNo → ℕ → ℕ
number_at pins place = (slice_index_or pins place (record { 0 = 0 })).0

pub record IsTrail (arcs : List Arc) (counts : List ℕ) (places : List (Option ℕ)) (trail : List PinNo) (pin : PinNo) : Type 0 where
  pub each : length places ≡ length counts
  pub there : pin.0 < length counts
  pub left : 0 < slice_index counts pin.0
  pub next : EachNext arcs pin (reverse trail)
  pub own : (place : ℕ) (p : PinNo) → slice_get trail place ≡ Some p → slice_index_or places p.0 None ≡ Some place
  pub real : (p place : ℕ) → slice_index_or places p None ≡ Some place → slice_get trail place ≡ Some (record { 0 = p })
