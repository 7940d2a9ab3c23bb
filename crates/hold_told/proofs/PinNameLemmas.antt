-- What a pin's name and its instance's name name in a valid netlist.
use Rattle.std.proofs.Common.{◌≡◌, ℕ, ◌+◌, ◌<◌, List, length, Bool, true, false, refl, ap, sym, ◌∙◌, subst, inl, inr, arith}
use Rattle.std.specs.Prelude.{Option, Some, None, ◌↔◌, slice_get, Contains, IsTrue}
use Rattle.std.proofs.lemmas.Option.{same_Some, slice_get_cases, slice_get_within}
use Rattle.hold_base.proofs.Bytes.{bytes_eq-same, bytes_eq-self}
use Rattle.hold_base.specs.declared.number.InstNo.{InstNo}
use Rattle.hold_base.specs.declared.number.PinNo.{PinNo}
use Rattle.hold_build.specs.NetlistGraph.{IsKeptBy, IsNamedInst}
use Rattle.hold_build.proofs.NamedLemmas.{inst-named, no_inst-named, kept-no_pin, kept-numbered, kept-pin}
use Rattle.hold_job.specs.declared.inst_times.Keep.{Keep}
use Rattle.hold_netlist.specs.declared.inst.Inst.{Inst}
use Rattle.hold_netlist.specs.Design.{Design}
use Rattle.hold_netlist.specs.Doubles.{first_double_name}
use Rattle.hold_netlist.specs.Names.{pin_names}
use Rattle.hold_netlist.specs.Numbering.{first_of}
use Rattle.hold_netlist.specs.Pins.{pin_count, pins_of, IsConnection}
use Rattle.hold_netlist.proofs.NumberingLemmas.{IsNumbered-below}
use Rattle.hold_roles.specs.declared.role.CellType.{CellType}
use Rattle.hold_roles.specs.Binding.{Binding}
use Rattle.hold_roles.specs.TypePins.{is_clock}
use Rattle.hold_roles.specs.Types.{IsTypeOf, type_named}
use Rattle.hold_roles.specs.inner.NamePlaces.{first_at}
use Rattle.hold_told.specs.Places.{HasPin, IsNamedPin}
use Rattle.hold_told.specs.inner.Names.{inst_names, is_pin}
use Rattle.hold_told.specs.inner.Told.{HasClock}
use Rattle.hold_told.proofs.ItemLemmas.{item_at_place, place_of_item}
use Rattle.hold_told.proofs.TypePinLemmas.{is_pin-Contains, Contains-is_pin}

pub never : {X : Type 0} {x : X} → None ≡ Some x → ⊥
never e = cc

-- ---- a pin that is named is one that an entry of a job would keep

abbrev keeping : List ℕ → List ℕ → Keep
keeping inst pin = record { inst = inst; pin = pin }

to-kept : (insts : List Inst) (inst pin : List ℕ) (p : PinNo) → IsNamedPin insts inst pin p → IsKeptBy insts (keeping inst pin) p
to-kept insts inst pin p h = record {
  inst = h.place;
  i = h.i;
  is_inst = h.is_inst;
  named = h.inst_named;
  place = h.at;
  pin = h.connection;
  is_pin = h.is_pin;
  pin_named = h.pin_named;
  numbered = h.numbered;
}

from-kept : (insts : List Inst) (inst pin : List ℕ) (p : PinNo) → IsKeptBy insts (keeping inst pin) p → IsNamedPin insts inst pin p
from-kept insts inst pin p h = record {
  place = h.inst;
  i = h.i;
  is_inst = h.is_inst;
  inst_named = h.named;
  at = h.place;
  connection = h.pin;
  is_pin = h.is_pin;
  pin_named = h.pin_named;
  numbered = h.numbered;
}

kept-alike : (insts : List Inst) (inst pin : List ℕ) (p : PinNo) (Q : Type 0) → IsKeptBy insts (keeping inst pin) p ↔ Q → IsNamedPin insts inst pin p ↔ Q
kept-alike insts inst pin p Q h = (λ named. h.0 (to-kept insts inst pin p named), λ q. from-kept insts inst pin p (h.1 q))

-- a pin that is named is one of the netlist's
pub named-below : (d : Design) (inst pin : List ℕ) (p : PinNo) → IsNamedPin d.insts inst pin p → p.0 < pins_of d
named-below d inst pin p h = omega (arith, IsNumbered-below pin_count d.insts p.0 h.place h.at h.numbered)

-- ---- instances

module _ (d : Design) (names : first_double_name d ≡ None) where
  -- an instance stands where its name stands first
  pub first-named : (k : ℕ) (name : List ℕ) → IsNamedInst d.insts k name → Some k ≡ first_at 0 name (inst_names d.insts)
  first-named k name h = by (first_at 0 name (inst_names d.insts)) refl
    where
      by : (o : Option ℕ) → first_at 0 name (inst_names d.insts) ≡ o → Some k ≡ o
      by None is = absurd (never ((no_inst-named d names name (sym is) (record { 0 = k })).0 h))
      by (Some j) is =
          let e : Some (record { 0 = j }) ≡ Some (record { 0 = k }) = (inst-named d names name j (sym is) (record { 0 = k })).0 h in
          let same : record { 0 = j } ≡ record { 0 = k } = same_Some (record { 0 = j }) (record { 0 = k }) e in
          ap (λ (i : InstNo). Some i.0) (sym same)

  pub one-named : (j k : ℕ) (name : List ℕ) → IsNamedInst d.insts j name → IsNamedInst d.insts k name → j ≡ k
  one-named j k name g h = same_Some j k (first-named j name g ∙ sym (first-named k name h))

-- ---- pins of its type

module _ (b : Binding) (names : first_double_name b.netlist ≡ None) (k : ℕ) (t : CellType) (inst pin : List ℕ) (named : IsNamedInst b.netlist.insts k inst) (typed : IsTypeOf b.types b.netlist.insts k t) where
  pub has-pin : is_pin t pin ≡ true → HasPin b inst pin
  has-pin is =
      let same : named.i ≡ typed.inst = same_Some named.i typed.inst (sym named.at ∙ typed.at) in
      record {
        i = named.i;
        listed = item_at_place b.netlist.insts k named.i named.at;
        named = named.named;
        t = t;
        typed = ap (λ (i : Inst). type_named i.kind b.types) same ∙ typed.named;
        has = is_pin-Contains t pin is;
      }

  -- the instance of that name has that type
  pub same-type : (i : Inst) (other : CellType) → Contains b.netlist.insts i → i.name ≡ inst → type_named i.kind b.types ≡ Some other → other ≡ t
  same-type i other listed is other_typed =
      let at = place_of_item b.netlist.insts i listed in
      let place : at.0 ≡ k = one-named b.netlist names at.0 k inst (record { i = i; at = at.1; named = is }) named in
      let same : i ≡ typed.inst = same_Some i typed.inst (sym at.1 ∙ ap (slice_get b.netlist.insts) place ∙ typed.at) in
      same_Some other t (sym other_typed ∙ ap (λ (x : Inst). type_named x.kind b.types) same ∙ typed.named)

  pub is-pin : HasPin b inst pin → is_pin t pin ≡ true
  is-pin h =
      let same = same-type h.i h.t h.listed h.named h.typed in
      ap (λ (x : CellType). is_pin x pin) (sym same) ∙ Contains-is_pin h.t pin h.has

-- ---- connections

module _ (d : Design) (names : first_double_name d ≡ None) (k : ℕ) (inst pin : List ℕ) (named : IsNamedInst d.insts k inst) where
  pub no_connection : ((i : Inst) → slice_get d.insts k ≡ Some i → None ≡ first_at 0 pin (pin_names i.pins)) → (p : PinNo) → IsNamedPin d.insts inst pin p ↔ (None ≡ Some p)
  no_connection none p = kept-alike d.insts inst pin p (None ≡ Some p) (kept-no_pin d names (keeping inst pin) k (first-named d names k inst named) none p)

  module _ (place : ℕ) (at : (i : Inst) → slice_get d.insts k ≡ Some i → Some place ≡ first_at 0 pin (pin_names i.pins)) (first : ℕ) (is : first ≡ first_of pin_count d.insts k) where
    pub connection-numbered : IsConnection d.insts (first + place) k place
    connection-numbered = kept-numbered d names (keeping inst pin) k (first-named d names k inst named) place at first is

    pub connection-named : (p : PinNo) → IsNamedPin d.insts inst pin p ↔ (Some (record { 0 = first + place }) ≡ Some p)
    connection-named p = kept-alike d.insts inst pin p (Some (record { 0 = first + place }) ≡ Some p) (kept-pin d names (keeping inst pin) k (first-named d names k inst named) place at first is p)

unlike : {x : Bool} → x ≡ true → x ≡ false → ⊥
unlike on off = cc

clock-is : (clock : Option (List ℕ)) (name : List ℕ) → is_clock clock name ≡ true → clock ≡ Some name
clock-is None name h = absurd (unlike h refl)
clock-is (Some clock) name h = ap (λ (n : List ℕ). Some n) (sym (bytes_eq-same name clock h))

is-clock : (clock : Option (List ℕ)) (name : List ℕ) → clock ≡ Some name → is_clock clock name ≡ true
is-clock clock name h = ap (λ (o : Option (List ℕ)). is_clock o name) h ∙ bytes_eq-self name

-- an instance within the netlist has a name
pub has_named : (insts : List Inst) (k : ℕ) → k < length insts → (name : List ℕ) × IsNamedInst insts k name
has_named insts k lt = elim (slice_get_cases insts k).1 [
  | inl h ↦ (h.0.name, record { i = h.0; at = h.2; named = refl })
  | inr past ↦ absurd (omega (arith, past.0))
]

-- ---- what a pin of an instance names, over a netlist that is the bound one, and a word that is the instance's name

module _ (b : Binding) (d : Design) (same : d ≡ b.netlist) (names : first_double_name d ≡ None) (word inst pin : List ℕ) (is : word ≡ inst) where
  bound-names : first_double_name b.netlist ≡ None
  bound-names = subst (λ (x : Design). first_double_name x ≡ None) same names

  bound-named : (k : ℕ) → IsNamedInst d.insts k word → IsNamedInst b.netlist.insts k inst
  bound-named k h = subst (λ (x : Design). IsNamedInst x.insts k inst) same (subst (IsNamedInst d.insts k) is h)

  pub no_inst-no_pin : ((k : InstNo) → IsNamedInst d.insts k.0 word ↔ (None ≡ Some k)) → HasPin b inst pin → ⊥
  no_inst-no_pin none h =
      let at = place_of_item b.netlist.insts h.i h.listed in
      let named : IsNamedInst b.netlist.insts at.0 inst = record { i = h.i; at = at.1; named = h.named } in
      never ((none (record { 0 = at.0 })).0 (subst (λ (x : Design). IsNamedInst x.insts at.0 word) (sym same) (subst (IsNamedInst b.netlist.insts at.0) (sym is) named)))

  pub no_inst-no_clock : ((k : InstNo) → IsNamedInst d.insts k.0 word ↔ (None ≡ Some k)) → IsTrue false ↔ HasClock b inst pin
  no_inst-no_clock none = (
    λ on. absurd (unlike on refl),
    λ h. absurd (never ((none (record { 0 = h.number })).0 (subst (λ (x : Design). IsNamedInst x.insts h.number word) (sym same) (subst (IsNamedInst b.netlist.insts h.number) (sym is) h.named)))),
  )

  module _ (k : InstNo) (each : (j : InstNo) → IsNamedInst d.insts j.0 word ↔ (Some k ≡ Some j)) where
    pub here-named : IsNamedInst d.insts k.0 word
    here-named = (each k).1 refl

    pub here-within : k.0 < length b.netlist.insts
    here-within = let h = bound-named k.0 here-named in slice_get_within b.netlist.insts k.0 h.i h.at

    module _ (t : CellType) (typed : IsTypeOf b.types b.netlist.insts k.0 t) where
      pub no_type-no_pin : is_pin t pin ≡ false → HasPin b inst pin → ⊥
      no_type-no_pin none h = let yes_is = is-pin b bound-names k.0 t inst pin (bound-named k.0 here-named) typed h in unlike yes_is none

      pub type-pin : is_pin t pin ≡ true → HasPin b inst pin
      type-pin has = has-pin b bound-names k.0 t inst pin (bound-named k.0 here-named) typed has

      -- the clock pin of that type is the one of the instance of that name
      pub here-clock : (o : Bool) → o ≡ is_clock t.clock pin → IsTrue o ↔ HasClock b inst pin
      here-clock o tested = (
        λ on. record { number = k.0; named = bound-named k.0 here-named; t = t; typed = typed; clocked = clock-is t.clock pin (sym tested ∙ on) },
        λ h.
            let at : Contains b.netlist.insts h.named.i = item_at_place b.netlist.insts h.number h.named.i h.named.at in
            let own : h.typed.inst ≡ h.named.i = same_Some h.typed.inst h.named.i (sym h.typed.at ∙ h.named.at) in
            let kind : type_named h.named.i.kind b.types ≡ Some h.t = ap (λ (i : Inst). type_named i.kind b.types) (sym own) ∙ h.typed.named in
            let one : h.t ≡ t = same-type b bound-names k.0 t inst pin (bound-named k.0 here-named) typed h.named.i h.t at h.named.named kind in
            tested ∙ is-clock t.clock pin (ap (λ (x : CellType). x.clock) (sym one) ∙ h.clocked),
      )

    module _ (said : List ℕ) (is_pin_name : said ≡ pin) (o : Option PinNo) (found : (name : List ℕ) → IsNamedInst d.insts k.0 name → (p : PinNo) → IsNamedPin d.insts name said p ↔ (o ≡ Some p)) where
      pub here-pin : (p : PinNo) → IsNamedPin b.netlist.insts inst pin p ↔ (o ≡ Some p)
      here-pin p =
          let first : IsNamedPin d.insts word said p ↔ (o ≡ Some p) = found word here-named p in
          let second : IsNamedPin d.insts inst said p ↔ (o ≡ Some p) = subst (λ (n : List ℕ). IsNamedPin d.insts n said p ↔ (o ≡ Some p)) is first in
          let third : IsNamedPin d.insts inst pin p ↔ (o ≡ Some p) = subst (λ (n : List ℕ). IsNamedPin d.insts inst n p ↔ (o ≡ Some p)) is_pin_name second in
          subst (λ (x : Design). IsNamedPin x.insts inst pin p ↔ (o ≡ Some p)) same third
