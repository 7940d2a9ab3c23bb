-- Lists by pin.
--
-- place_from first pins pin: the first place at which the pin stands in these pins, of which the first has the place `first`.
-- next_place pins place pin: the first place from this one on at which the pin stands.
-- AreLinked count pins from first next: by pin its first place from this one on, and by such a place the next one of the same pin.
-- ArePlaces places: the same of all places. IsPlacesOf count listed places: they are the places of this list, of so many pins.
-- joined_to hull span: the least interval that has both, where there is a first one. joined_when: only where it is so. hull_or_none: the interval, and 0 to 0 for none.
-- hull_over arcs spans pin before places: the hull of the spans of those arcs at these places that come from the pin, and what was
--   joined before.
-- hull_after hull spans: the hull of these spans and what was joined before. greater, greatest_after, time_or_none: the same of times.
use Rattle.std.specs.Prelude.{◌≡◌, ℕ, ◌+◌, ◌-◌, ◌<◌, ◌==◌, Bool, false, if◌then◌else◌, List, [], ◌∷◌, length, drop, slice_index_or, slice_get, Option, Some, None, ℤ, pos}
use Rattle.std.specs.Int.{int_max}
use Rattle.hold_base.specs.Interval.{hull}
use Rattle.hold_base.specs.declared.number.PinNo.{PinNo}
use Rattle.hold_base.specs.declared.time.Interval.{Interval}
use Rattle.hold_graph.specs.declared.graph.Arc.{Arc}
use Rattle.hold_proof.specs.declared.places.Places.{Places}

abbrev pub place_from : ℕ → List PinNo → PinNo → Option ℕ
place_from first [] pin = None
place_from first (p ∷ pins) pin = if p.0 == pin.0 then Some first else place_from (first + 1) pins pin

abbrev pub next_place : List PinNo → ℕ → PinNo → Option ℕ
next_place pins place pin = place_from place (drop place pins) pin

-- what is built once the places from this one on are entered
pub record AreLinked (count : ℕ) (pins : List PinNo) (from : ℕ) (first next : List (Option ℕ)) : Type 0 where
  pub first_each : length first ≡ count
  pub next_each : length next ≡ length pins
  pub firsts : (pin : PinNo) → pin.0 < count → slice_index_or first pin.0 None ≡ next_place pins from pin
  pub nexts : (place : ℕ) (pin : PinNo) → (place < from → ⊥) → slice_get pins place ≡ Some pin → slice_index_or next place None ≡ next_place pins (place + 1) pin

abbrev pub ArePlaces : Places → Type 0
ArePlaces places = AreLinked (length places.first.items) places.listed.items 0 places.first.items places.next.items

pub record IsPlacesOf (count : ℕ) (listed : List PinNo) (places : Places) : Type 0 where
  pub linked : ArePlaces places
  pub listed_are : places.listed.items ≡ listed
  pub count_is : length places.first.items ≡ count

-- how far it is from a place to the end of so many
abbrev pub links_left : ℕ → Option ℕ → ℕ
links_left count None = 0
links_left count (Some place) = count - place

abbrev pub joined_to : Option Interval → Interval → Option Interval
joined_to None span = Some span
joined_to (Some before) span = Some (hull before span)

abbrev pub joined_when : Bool → Option Interval → Interval → Option Interval
joined_when is before span = if is then joined_to before span else before

abbrev pub hull_or_none : Option Interval → Interval
hull_or_none None = record { least = pos 0; greatest = pos 0 }
hull_or_none (Some hull) = hull

abbrev pub hull_after : Option Interval → List Interval → Option Interval
hull_after before [] = before
hull_after before (span ∷ spans) = hull_after (joined_to before span) spans

abbrev pub greater : Option ℤ → ℤ → Option ℤ
greater None time = Some time
greater (Some before) time = Some (int_max before time)

abbrev pub time_or_none : Option ℤ → ℤ
time_or_none None = pos 0
time_or_none (Some time) = time

abbrev pub greatest_after : Option ℤ → List ℤ → Option ℤ
greatest_after before [] = before
greatest_after before (time ∷ times) = greatest_after (greater before time) times

-- the spans of the arcs at these places that come from a pin, joined to what was joined before
abbrev pub no_arc : Arc
no_arc = record { from = record { 0 = 0 }; to = record { 0 = 0 }; wire = false }

abbrev pub no_span : Interval
no_span = record { least = pos 0; greatest = pos 0 }

abbrev pub hull_over : List Arc → List Interval → PinNo → Option Interval → List ℕ → Option Interval
hull_over arcs spans pin before [] = before
hull_over arcs spans pin before (place ∷ places) =
    hull_over arcs spans pin (joined_when ((slice_index_or arcs place no_arc).from.0 == pin.0) before (slice_index_or spans place no_span)) places
