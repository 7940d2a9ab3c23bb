-- Which values a checked path uses.
--
-- IsCheckedStep parts a b: some checked path has the step from a to b.
-- IsCheckedLaunch parts p: some checked path begins at pin p. IsCheckedCapture parts p: some ends there.
-- TellsPins pins P flags: there is a flag for each of so many pins, true of exactly those of which P holds.
-- TellsSteps parts flags: there is a flag for each arc, true of exactly those whose step some checked path has.
use Rattle.std.specs.Prelude.{◌≡◌, ◌↔◌, ◌<◌, ℕ, Bool, false, IsTrue, List, ◌∷◌, ◌++◌, length, slice_index_or}
use Rattle.std.specs.List.{AllZip}
use Rattle.hold_base.specs.declared.number.PinNo.{PinNo}
use Rattle.hold_graph.specs.declared.graph.Parts.{Parts}
use Rattle.hold_graph.specs.Path.{IsCheckedPath, end_pin}

pub record IsCheckedStep (parts : Parts) (a b : PinNo) : Type 0 where
  pub before : List PinNo
  pub after : List PinNo
  pub checked : IsCheckedPath parts (before ++ a ∷ b ∷ after)

pub record IsCheckedLaunch (parts : Parts) (p : PinNo) : Type 0 where
  pub after : List PinNo
  pub checked : IsCheckedPath parts (p ∷ after)

pub record IsCheckedCapture (parts : Parts) (p : PinNo) : Type 0 where
  pub path : List PinNo
  pub checked : IsCheckedPath parts path
  pub ends : end_pin path ≡ p

pub record TellsPins (pins : ℕ) (P : PinNo → Type 0) (flags : List Bool) : Type 0 where
  pub count : length flags ≡ pins
  pub each : (p : PinNo) → p.0 < pins → IsTrue (slice_index_or flags p.0 false) ↔ P p

abbrev pub TellsSteps : Parts → List Bool → Type 0
TellsSteps parts = AllZip (λ arc flag. IsTrue flag ↔ IsCheckedStep parts arc.from arc.to) parts.arcs
