-- Pins of a sort: which connections of a netlist they are.
use Rattle.std.proofs.Common.{◌≡◌, ℕ, zero, suc, ◌+◌, ◌<◌, ◌≤◌, List, [], ◌∷◌, length, get_or, Bool, true, false, cond, Some, refl, sym, ap, subst, ◌∙◌, arith}
use Rattle.std.specs.Prelude.{Contains, slice_get}
use Rattle.std.proofs.lemmas.List.Elements.{All-contains_itself, All-weaker}
use Rattle.std.proofs.lemmas.Option.{slice_get_within}
use Rattle.hold_base.specs.declared.number.PinNo.{PinNo}
use Rattle.hold_netlist.specs.declared.inst.Inst.{Inst}
use Rattle.hold_netlist.specs.declared.inst.Pin.{Pin}
use Rattle.hold_netlist.specs.Numbering.{first_of}
use Rattle.hold_netlist.specs.Pins.{pin_count}
use Rattle.hold_roles.specs.declared.role.CellType.{CellType}
use Rattle.hold_roles.specs.declared.role.Role.{Role}
use Rattle.hold_roles.specs.declared.role.Role.TheVariants.{Comb, Register, Opaque}
use Rattle.hold_roles.specs.Binding.{Binding}
use Rattle.hold_roles.specs.Types.{type_named}
use Rattle.hold_build.specs.declared.sort.Sort.{Sort}
use Rattle.hold_build.specs.Listing.{ListsEach, StandsOnce}
use Rattle.hold_build.specs.Pins.{IsPinOf, IsRegisterPin}
use Rattle.hold_build.specs.inner.Insts.{over_insts}
use Rattle.hold_build.specs.inner.Sorts.{is_of_sort, register_pins, role_pins, sort_pin, sort_pins}
use Rattle.hold_build.proofs.OverLemmas.{IsKeyed, keyed-nil, over_insts-has, over_insts-keyed, over_insts-of, over_pins-has, over_pins-keyed, over_pins-of}

abbrev pub number : PinNo → ℕ
number p = p.0

-- the connection of a place, of the instance of a number, is pin q
pub pin_of : (b : Binding) (q : PinNo) (inst place : ℕ) (i : Inst) (t : CellType) (pin : Pin) → slice_get b.netlist.insts inst ≡ Some i → type_named i.kind b.types ≡ Some t
    → slice_get i.pins place ≡ Some pin → q.0 ≡ first_of pin_count b.netlist.insts inst + place → IsPinOf b q inst t pin
pin_of b q inst place i t pin at typed stands is = record {
  place = place;
  numbered = record { number = is; within = (i, at, slice_get_within i.pins place pin stands) };
  i = i;
  is_inst = at;
  is_pin = stands;
  typed = typed;
}

-- one item, and none
pub one-of : {X : Type 0} (x y : X) → Contains (x ∷ []) y → x ≡ y
one-of x y (zero, lt, is) = is
one-of x y (suc k, lt, is) = absurd (omega arith)

pub one-has : {X : Type 0} (x y : X) → x ≡ y → Contains (x ∷ []) y
one-has x y e = (0, omega arith, e)

pub one-keyed : {X : Type 0} (key : X → ℕ) (p : ℕ) (x : X) → key x ≡ p → IsKeyed key p (p + 1) (x ∷ [])
one-keyed {X} key p x is = record { once = once; within = λ k d lt. within k d lt }
  where
    once : StandsOnce (x ∷ [])
    once zero zero y h k = refl
    once zero (suc j) y h k = absurd cc
    once (suc i) j y h k = absurd cc

    within : (k : ℕ) (d : X) → k < length (x ∷ []) → (p ≤ key (get_or (x ∷ []) k d)) × (key (get_or (x ∷ []) k d) < p + 1)
    within zero d lt = (omega arith, omega arith)
    within (suc k) d lt = absurd (omega arith)

-- ---- the connections of a sort, of one instance

-- q is a connection of that sort among these, the first of which is pin p
pub record IsSortPin (sort : Sort) (t : CellType) (p : ℕ) (pins : List Pin) (q : PinNo) : Type 0 where
  pub place : ℕ
  pub pin : Pin
  pub at : slice_get pins place ≡ Some pin
  pub is : is_of_sort sort t pin ≡ true
  pub number_is : q.0 ≡ p + place

sort_pin-of : (b : Bool) (p : ℕ) (q : PinNo) → Contains (cond b (record { 0 = p } ∷ []) []) q → (b ≡ true) × (p ≡ q.0)
sort_pin-of true p q h = (refl, ap number (one-of (record { 0 = p }) q h))
sort_pin-of false p q h = absurd (omega (arith, h.1))

sort_pin-keyed : (b : Bool) (p : ℕ) → IsKeyed number p (p + 1) (cond b (record { 0 = p } ∷ []) [])
sort_pin-keyed true p = one-keyed number p (record { 0 = p }) refl
sort_pin-keyed false p = keyed-nil number p (p + 1)

module _ (sort : Sort) (t : CellType) (p : ℕ) (pins : List Pin) where
  pub sort_pins-of : (q : PinNo) → Contains (sort_pins sort t p pins) q → IsSortPin sort t p pins q
  sort_pins-of q h =
      let one = over_pins-of (sort_pin sort t) p pins q h in
      let told = sort_pin-of (is_of_sort sort t one.pin) (p + one.place) q one.made in
      record { place = one.place; pin = one.pin; at = one.at; is = told.0; number_is = sym told.1 }

  pub sort_pins-has : (q : PinNo) → IsSortPin sort t p pins q → Contains (sort_pins sort t p pins) q
  sort_pins-has q h =
      let same : record { 0 = p + h.place } ≡ q = ap (λ n. record { 0 = n }) (sym h.number_is) in
      over_pins-has (sort_pin sort t) p pins h.place h.pin q h.at
      (subst (λ b. Contains (cond b (record { 0 = p + h.place } ∷ []) []) q) (sym h.is) (one-has (record { 0 = p + h.place }) q same))

  pub sort_pins-keyed : IsKeyed number p (p + length pins) (sort_pins sort t p pins)
  sort_pins-keyed = over_pins-keyed (sort_pin sort t) number (λ n pin. sort_pin-keyed (is_of_sort sort t pin) n) p pins

-- ---- the pins of registers

role_pins-of : (role : Role) (sort : Sort) (t : CellType) (p : ℕ) (pins : List Pin) (q : PinNo) → Contains (role_pins role sort t p pins) q → (role ≡ Register) × IsSortPin sort t p pins q
role_pins-of Register sort t p pins q h = (refl, sort_pins-of sort t p pins q h)
role_pins-of Comb sort t p pins q h = absurd (omega (arith, h.1))
role_pins-of Opaque sort t p pins q h = absurd (omega (arith, h.1))

role_pins-keyed : (role : Role) (sort : Sort) (t : CellType) (p : ℕ) (pins : List Pin) → IsKeyed number p (p + length pins) (role_pins role sort t p pins)
role_pins-keyed Register sort t p pins = sort_pins-keyed sort t p pins
role_pins-keyed Comb sort t p pins = keyed-nil number p (p + length pins)
role_pins-keyed Opaque sort t p pins = keyed-nil number p (p + length pins)

module _ (b : Binding) (sort : Sort) (test : CellType → List ℕ → Bool) (agree : (t : CellType) (pin : Pin) → is_of_sort sort t pin ≡ test t pin.name) where
  register_pins-of : (q : PinNo) → Contains (over_insts (register_pins sort) b.types 0 b.netlist.insts) q → IsRegisterPin b test q
  register_pins-of q h =
      let one = over_insts-of (register_pins sort) b.types 0 b.netlist.insts q h in
      let told = role_pins-of one.t.role sort one.t (0 + first_of pin_count b.netlist.insts one.inst) one.i.pins q one.made in
      let at = told.1 in
      record {
        inst = one.inst;
        t = one.t;
        pin = at.pin;
        pin_of = pin_of b q one.inst at.place one.i one.t at.pin one.at one.typed at.at (omega (arith, at.number_is));
        register = told.0;
        named = sym (agree one.t at.pin) ∙ at.is;
      }

  register_pins-has : (q : PinNo) → IsRegisterPin b test q → Contains (over_insts (register_pins sort) b.types 0 b.netlist.insts) q
  register_pins-has q h =
      let at = h.pin_of in
      over_insts-has (register_pins sort) b.types 0 b.netlist.insts h.inst at.i h.t q at.is_inst at.typed
      (subst (λ role. Contains (role_pins role sort h.t (0 + first_of pin_count b.netlist.insts h.inst) at.i.pins) q) (sym h.register)
      (sort_pins-has sort h.t (0 + first_of pin_count b.netlist.insts h.inst) at.i.pins q
      (record { place = at.place; pin = h.pin; at = at.is_pin; is = agree h.t h.pin ∙ h.named; number_is = (let is = at.numbered.number in omega arith) })))

  -- they are listed each once
  pub register_pins-each : (pins : List PinNo) → pins ≡ over_insts (register_pins sort) b.types 0 b.netlist.insts → ListsEach (IsRegisterPin b test) pins
  register_pins-each pins is = subst (ListsEach (IsRegisterPin b test)) (sym is) (record {
    sound = All-weaker (Contains (over_insts (register_pins sort) b.types 0 b.netlist.insts)) (IsRegisterPin b test) register_pins-of
        (over_insts (register_pins sort) b.types 0 b.netlist.insts)
        (All-contains_itself (over_insts (register_pins sort) b.types 0 b.netlist.insts));
    whole = register_pins-has;
    once = (over_insts-keyed (register_pins sort) b.types number (λ t p pins. role_pins-keyed t.role sort t p pins) 0 b.netlist.insts).once;
  })
