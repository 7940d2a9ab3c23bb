-- Words for what the making of a topological order keeps: pins are put into the order, and worked off one after another.
--
-- lists pins pin: whether the pin is one of these.
-- waiting arcs worked pin: how many arcs end at the pin and begin at none of the pins that are worked off.
-- arc_at arcs place: the arc at a place, and an arc from pin 0 to itself past the end.
-- ends_among arcs places pin: how many of the arcs at these places end at the pin.
-- IsReady counts order: the order has each pin whose count is 0, once, and no other.
-- GoesOn old new: the new list begins with the old one.
-- IsWorkedOff arcs done counts order: the first `done` pins of the order are worked off. So the count of each pin is that of the arcs that
--   it waits for, and each arc into a pin of the order begins at one before it.
use Rattle.std.specs.Prelude.{◌≡◌, ℕ, ◌<◌, ◌≤◌, ◌==◌, Bool, ◌&&◌, not, List, ◌++◌, length, take, slice_get, slice_index, slice_index_or, Some, All, Contains, count_by, false}
use Rattle.std.specs.List.{list_any}
use Rattle.hold_base.specs.declared.number.PinNo.{PinNo}
use Rattle.hold_graph.specs.declared.graph.Arc.{Arc}
use Rattle.hold_graph.specs.Cycles.{AreDifferent}

abbrev pub lists : List PinNo → PinNo → Bool
lists pins pin = list_any (λ other. pin.0 == other.0) pins

abbrev pub waiting : List Arc → List PinNo → ℕ → ℕ
waiting arcs worked pin = count_by (λ arc. (arc.to.0 == pin) && not (lists worked arc.from)) arcs

abbrev pub arc_at : List Arc → ℕ → Arc
arc_at arcs place = slice_index_or arcs place (record { from = record { 0 = 0 }; to = record { 0 = 0 }; wire = false })

abbrev pub ends_among : List Arc → List ℕ → ℕ → ℕ
ends_among arcs places pin = count_by (λ place. (arc_at arcs place).to.0 == pin) places

pub record IsReady (counts : List ℕ) (order : List PinNo) : Type 0 where
  pub below : All (λ pin. pin.0 < length counts) order
  pub zero : All (λ pin. slice_index counts pin.0 ≡ 0) order
  pub each : (pin : ℕ) → pin < length counts → slice_index counts pin ≡ 0 → Contains order (record { 0 = pin })
  pub different : AreDifferent order
  pub count : length order ≡ count_by (λ n. n == 0) counts

pub record GoesOn (old new : List PinNo) : Type 0 where
  pub more : List PinNo
  pub is : new ≡ old ++ more

pub record IsWorkedOff (arcs : List Arc) (done : ℕ) (counts : List ℕ) (order : List PinNo) : Type 0 where
  pub ready : IsReady counts order
  pub within : done ≤ length order
  pub waits : (pin : ℕ) → pin < length counts → slice_index counts pin ≡ waiting arcs (take done order) pin
  pub forward : (k : ℕ) (arc : Arc) → slice_get order k ≡ Some arc.to → Contains arcs arc → Contains (take k order) arc.from
