-- IsUseWithin nets insts u: the net that the pin is tied to is one of so many, and so is the instance that it leads into; no
--   instance number passes their count.
use Rattle.std.specs.Prelude.{◌≡◌, ℕ, ◌<◌, ◌≤◌, Some}
use Rattle.hold_plain.specs.declared.pin_use.PinUse.{PinUse}
use Rattle.hold_plain.specs.Keys.{net_of, fed}

pub record IsUseWithin (nets insts : ℕ) (u : PinUse) : Type 0 where
  pub net : (n : ℕ) → net_of u.source ≡ Some n → n < nets
  pub inst : u.inst ≤ insts
  pub feeds : (i : ℕ) → fed u ≡ Some i → i < insts
