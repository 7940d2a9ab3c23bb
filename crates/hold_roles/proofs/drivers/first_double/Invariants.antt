use Rattle.std.proofs.Common.{◌≡◌, ◌<◌, ℕ, Some}
use Rattle.std.specs.Prelude.{slice_get}
use Rattle.hold_roles.specs.declared.drivers.Slot.TheVariants.{Several}
use Rattle.hold_roles.proofs.drivers.first_double.Given as goal

-- no slot of several before the place
abbrev pub invariant-loop-place : goal.invariant-loop-place
invariant-loop-place l = (m : ℕ) → m < l.place → slice_get l.slots m ≡ Some Several → ⊥
