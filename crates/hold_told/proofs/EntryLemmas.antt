-- Where what an entry says belongs, by what its names were found to name.
use Rattle.std.proofs.Common.{◌≡◌, ℕ, ◌<◌, List, Bool, false, refl, ap, sym, ◌∙◌}
use Rattle.std.specs.Prelude.{Option, Some, None, ◌↔◌, ℤ, IsTrue, slice_get}
use Rattle.std.proofs.lemmas.Option.{same_Some}
use Rattle.hold_base.specs.declared.number.PinNo.{PinNo}
use Rattle.hold_base.specs.declared.time.Interval.{Interval}
use Rattle.hold_netlist.specs.declared.inst.Inst.{Inst}
use Rattle.hold_netlist.specs.Doubles.{first_double_name}
use Rattle.hold_netlist.specs.Pins.{pins_of}
use Rattle.hold_roles.specs.Binding.{Binding}
use Rattle.hold_roles.specs.Types.{type_named}
use Rattle.hold_sdf.specs.declared.entry.Entry.TheVariants.{Cell, Check}
use Rattle.hold_told.specs.Places.{IsNamedPin}
use Rattle.hold_told.specs.Entries.{IsDelayTo}
use Rattle.hold_told.specs.declared.named.Named.{Named}
use Rattle.hold_told.specs.declared.named.Named.TheVariants.{Nothing, Unwritten, Pin}
use Rattle.hold_told.specs.declared.place.Place.TheVariants.{Arc as AtArc, Check as AtCheck}
use Rattle.hold_told.specs.inner.Told.{HasClock, IsFound, IsNothing, IsPlaceOf, NamesPin}
use Rattle.hold_told.proofs.PinNameLemmas.{one-named}

pub off : IsTrue false → ⊥
off e = cc

-- ---- what a name was found to name

module _ (Has : Type 0) (Names : PinNo → Type 0) where
  pub found-has : (n : Named) → IsFound Has Names n → (IsNothing n → ⊥) → Has
  found-has Nothing h some = absurd (some tt)
  found-has Unwritten h some = h.0
  found-has (Pin p) h some = h.0

  pub found-names : (n : Named) → IsFound Has Names n → (IsNothing n → ⊥) → (p : PinNo) → NamesPin n p ↔ Names p
  found-names Nothing h some p = absurd (some tt)
  found-names Unwritten h some p = (λ never. absurd never, λ named. h.1 p named)
  found-names (Pin q) h some p = ((h.1 p).1, (h.1 p).0)

  pub found-nothing : (n : Named) → IsFound Has Names n → IsNothing n → Has → ⊥
  found-nothing Nothing h none has = h has
  found-nothing Unwritten h none has = none
  found-nothing (Pin p) h none has = none

-- ---- delays from the clock

module _ (b : Binding) (names : first_double_name b.netlist ≡ None) (inst from to : List ℕ) (p : PinNo) where
  to-delay : HasClock b inst from → IsNamedPin b.netlist.insts inst to p → IsDelayTo b inst from to p
  to-delay clock named =
      let place = one-named b.netlist names clock.number named.place inst clock.named (record { i = named.i; at = named.is_inst; named = named.inst_named }) in
      let same : clock.typed.inst ≡ named.i = same_Some clock.typed.inst named.i (sym clock.typed.at ∙ ap (slice_get b.netlist.insts) place ∙ named.is_inst) in
      record {
        number = named.place;
        t = clock.t;
        output = named.connection;
        pin_of = record {
          place = named.at;
          numbered = named.numbered;
          i = named.i;
          is_inst = named.is_inst;
          is_pin = named.is_pin;
          typed = ap (λ (i : Inst). type_named i.kind b.types) (sym same) ∙ clock.typed.named;
        };
        inst_named = named.inst_named;
        clock_named = clock.clocked;
        output_named = named.pin_named;
      }

  delay-clock : IsDelayTo b inst from to p → HasClock b inst from
  delay-clock h = record {
    number = h.number;
    named = record { i = h.pin_of.i; at = h.pin_of.is_inst; named = h.inst_named };
    t = h.t;
    typed = record { inst = h.pin_of.i; at = h.pin_of.is_inst; named = h.pin_of.typed };
    clocked = h.clock_named;
  }

  delay-named : IsDelayTo b inst from to p → IsNamedPin b.netlist.insts inst to p
  delay-named h = record {
    place = h.number;
    i = h.pin_of.i;
    is_inst = h.pin_of.is_inst;
    inst_named = h.inst_named;
    at = h.pin_of.place;
    connection = h.output;
    is_pin = h.pin_of.is_pin;
    pin_named = h.output_named;
    numbered = h.pin_of.numbered;
  }

-- ---- the place of each sort of entry

-- nothing is said of any
none-alike : (⊥ → ⊥) × (⊥ → ⊥)
none-alike = (λ never. never, λ never. never)

pub cell-place : (b : Binding) → first_double_name b.netlist ≡ None → (at : ℕ) (inst from to : List ℕ) (span : Option Interval) (a z : Named) (clocked : Bool)
    → ((p : PinNo) → NamesPin a p ↔ IsNamedPin b.netlist.insts inst from p) → ((p : PinNo) → NamesPin z p ↔ IsNamedPin b.netlist.insts inst to p)
    → IsTrue clocked ↔ HasClock b inst from → ((p : PinNo) → NamesPin z p → p.0 < pins_of b.netlist)
    → IsPlaceOf b (Cell at (Some inst) from to span) (AtArc a z false clocked span)
cell-place b names at inst from to span a z clocked begins ends clock within = record {
  joins = λ arc. (
    λ h. record { along = h.along; begins = (begins arc.from).0 h.begins; ends = (ends arc.to).0 h.ends },
    λ h. record { along = h.along; begins = (begins arc.from).1 h.begins; ends = (ends arc.to).1 h.ends },
  );
  delays = λ p. (
    λ h. to-delay b names inst from to p (clock.0 h.0) ((ends p).0 h.1),
    λ h. (clock.1 (delay-clock b names inst from to p h), (ends p).1 (delay-named b names inst from to p h)),
  );
  checks = λ p. none-alike;
  span = refl;
  setup = refl;
  hold = refl;
  within = within;
}

pub check-place : (b : Binding) (at : ℕ) (inst pin clock : List ℕ) (setup hold : Option ℤ) (n : Named)
    → ((p : PinNo) → NamesPin n p ↔ IsNamedPin b.netlist.insts inst pin p) → ((p : PinNo) → NamesPin n p → p.0 < pins_of b.netlist)
    → IsPlaceOf b (Check at (Some inst) pin clock setup hold) (AtCheck n setup hold)
check-place b at inst pin clock setup hold n named within = record {
  joins = λ arc. none-alike;
  delays = λ p. none-alike;
  checks = λ p. named p;
  span = refl;
  setup = refl;
  hold = refl;
  within = within;
}
