-- A slot has what drives a net bit: nothing, one driver, or that there are several.
--
-- slot_with slot driver: the slot with one driver more.
-- slot_of drivers: the slot of these drivers.
-- with_drive slots x, with_drives slots drives: the slots with one drive more, and with these more in order.
-- HoldsDrivers bits drivers slots: there is a slot for each of so many net bits, and each has the net bit's drivers; past them a net
--   bit has none.
use Rattle.std.specs.Prelude.{◌≡◌, ℕ, List, [], ◌∷◌, length, slice_index_or, slice_set, fold}
use Rattle.hold_roles.specs.declared.drivers.Driver.{Driver}
use Rattle.hold_roles.specs.declared.drivers.Slot.{Slot}
use Rattle.hold_roles.specs.declared.drivers.Slot.TheVariants.{Free, Only, Several}

abbrev pub slot_with : Slot → Driver → Slot
slot_with Free driver = Only driver
slot_with (Only first) driver = Several
slot_with Several driver = Several

abbrev pub slot_of : List Driver → Slot
slot_of [] = Free
slot_of (x ∷ []) = Only x
slot_of (x ∷ y ∷ more) = Several

abbrev pub with_drive : List Slot → ℕ × Driver → List Slot
with_drive slots x = slice_set slots x.0 (slot_with (slice_index_or slots x.0 Free) x.1)

abbrev pub with_drives : List Slot → List (ℕ × Driver) → List Slot
with_drives slots drives = fold with_drive slots drives

pub record HoldsDrivers (bits : ℕ) (drivers : ℕ → List Driver) (slots : List Slot) : Type 0 where
  pub each : length slots ≡ bits
  pub held : (n : ℕ) → slice_index_or slots n Free ≡ slot_of (drivers n)
