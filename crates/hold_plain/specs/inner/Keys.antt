-- HoldsPlaces bound keys table: each key is below the bound, and the table has, by key, the first place at which it stands.
-- ArePlaces nets insts uses drivers feeders: by net the place of the pin that drives it, and by instance that of the connected input
--   that leads into it. Nets and instances are below these numbers.
use Rattle.std.specs.Prelude.{◌≡◌, ℕ, List, map, Option, Some, None, slice_get, slice_index_or, length, ◌<◌}
use Rattle.hold_plain.specs.declared.pin_use.PinUse.{PinUse}
use Rattle.hold_plain.specs.Keys.{driven, fed, place_of}

pub record HoldsPlaces (bound : ℕ) (keys table : List (Option ℕ)) : Type 0 where
  pub below : (place key : ℕ) → slice_get keys place ≡ Some (Some key) → key < bound
  pub each : length table ≡ bound
  pub places : (key : ℕ) → slice_index_or table key None ≡ place_of key keys

pub record ArePlaces (nets insts : ℕ) (uses : List PinUse) (drivers feeders : List (Option ℕ)) : Type 0 where
  pub drives : HoldsPlaces nets (map driven uses) drivers
  pub feeds : HoldsPlaces insts (map fed uses) feeders
