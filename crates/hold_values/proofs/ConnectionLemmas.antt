-- The connection that a pin is.
use Rattle.std.proofs.Common.{◌≡◌, ℕ, ◌<◌, ◌≤◌, List, length, get_or, ap, sym, ◌∙◌, subst, arith}
use Rattle.std.specs.Prelude.{Some, slice_get}
use Rattle.std.proofs.lemmas.Option.{get_or_from_slice_get, slice_get-get_or}
use Rattle.hold_base.specs.declared.number.PinNo.{PinNo}
use Rattle.hold_netlist.specs.declared.inst.Inst.{Inst}
use Rattle.hold_netlist.specs.declared.inst.Pin.{Pin}
use Rattle.hold_netlist.specs.Pins.{connection_count, pin_count, IsConnection}
use Rattle.hold_netlist.proofs.NumberingLemmas.{IsNumbered-below}
use Rattle.hold_values.specs.inner.Found.{IsPinFound}

module _ (insts : List Inst) (p : PinNo) (i j : ℕ) (numbered : IsConnection insts p.0 i j) (got : List Inst) (same : got ≡ insts) (d : Inst) (pins : List Pin) (are : pins ≡ (get_or got i d).pins) where
  own : pins ≡ numbered.within.0.pins
  own = are ∙ ap (λ (xs : List Inst). (get_or xs i d).pins) same ∙ ap (λ (x : Inst). x.pins) (get_or_from_slice_get insts i numbered.within.0 d numbered.within.1)

  pub place-below : j < length pins
  place-below = subst (λ (xs : List Pin). j < length xs) (sym own) numbered.within.2

  pub pin-found : (pin : Pin) → pin ≡ get_or pins j pin → IsPinFound insts p i pin
  pin-found pin is = record {
    place = j;
    numbered = numbered;
    i = numbered.within.0;
    is_inst = numbered.within.1;
    is_pin = subst (λ (xs : List Pin). slice_get xs j ≡ Some pin) own (slice_get-get_or pins j pin place-below ∙ ap Some (sym is));
  }

-- a pin past the connections is none of them
pub no-connection : (insts : List Inst) (p : PinNo) → connection_count insts ≤ p.0 → (inst : ℕ) (pin : Pin) → IsPinFound insts p inst pin → ⊥
no-connection insts p past inst pin h = let below = IsNumbered-below pin_count insts p.0 inst h.place h.numbered in omega arith
