-- A netlist has one first fault at most, and none where nothing of it is at fault.
use Rattle.std.proofs.Common.{◌≡◌, ℕ, ◌≤◌, List, length, Some, None, refl, sym, ap, ◌∙◌, arith, ◌⊎◌, inl, inr}
use Rattle.std.specs.Prelude.{Result, Ok, Err, OnOk, IfOk}
use Rattle.hold_base.specs.declared.stop.Stop.{Stop}
use Rattle.hold_base.specs.declared.stop.Stop.TheVariants.{Memory, Fault}
use Rattle.hold_base.specs.Answers.{Answers, IfFault}
use Rattle.hold_base.proofs.Orders.{le-never}
use Rattle.hold_netlist.specs.Design.{Design}
use Rattle.hold_netlist.specs.PinText.{bit_name}
use Rattle.hold_roles.specs.declared.role.CellType.{CellType}
use Rattle.hold_roles.specs.declared.fault.RoleFault.{RoleFault}
use Rattle.hold_roles.specs.declared.fault.RoleFault.TheVariants.{Limit, NoRole, BadPin, DoubleDriver, AssignRing}
use Rattle.hold_roles.specs.Drivers.{drivers, IsDoubleDriven}
use Rattle.hold_roles.specs.Roots.{IsRing}
use Rattle.hold_roles.specs.Faults.{plain_fault, IsFirst, IsFirstDouble, IsFirstFault, IsFirstRing, IsSound}

first-one : (P : ℕ → Type 0) (m n : ℕ) → IsFirst P m → IsFirst P n → m ≡ n
first-one P m n h k =
    let low = le-never m n (λ lt. h.none_before n lt k.holds) in
    let high = le-never n m (λ lt. k.none_before m lt h.holds) in
    omega arith

module _ (types : List CellType) (d : Design) where
  -- what kind of fault the first one is
  record IsDouble (f : RoleFault) : Type 0 where
    pub name : List ℕ
    pub is : f ≡ DoubleDriver name
    pub first : IsFirstDouble types d name

  record IsOnRing (f : RoleFault) : Type 0 where
    pub name : List ℕ
    pub is : f ≡ AssignRing name
    pub first : IsFirstRing types d name

  told : (f : RoleFault) → IsFirstFault types d f → (plain_fault types d ≡ Some f) ⊎ (IsDouble f ⊎ IsOnRing f)
  told (Limit what) h = inl h
  told (NoRole kind) h = inl h
  told (BadPin inst pin) h = inl h
  told (DoubleDriver name) h = inr (inl (record { name = name; is = refl; first = h }))
  told (AssignRing name) h = inr (inr (record { name = name; is = refl; first = h }))

  no_plain : (f : RoleFault) → plain_fault types d ≡ Some f → plain_fault types d ≡ None → ⊥
  no_plain f h k = let both : Some f ≡ None = sym h ∙ k in cc

  one : (f g : RoleFault) → (plain_fault types d ≡ Some f) ⊎ (IsDouble f ⊎ IsOnRing f) → (plain_fault types d ≡ Some g) ⊎ (IsDouble g ⊎ IsOnRing g) → f ≡ g
  one f g (inl h) (inl k) = let both : Some f ≡ Some g = sym h ∙ k in cc
  one f g (inl h) (inr (inl k)) = absurd (no_plain f h k.first.plain)
  one f g (inl h) (inr (inr k)) = absurd (no_plain f h k.first.plain)
  one f g (inr (inl h)) (inl k) = absurd (no_plain g k h.first.plain)
  one f g (inr (inr h)) (inl k) = absurd (no_plain g k h.first.plain)
  one f g (inr (inl h)) (inr (inl k)) =
      let bit = first-one (IsDoubleDriven (drivers types d)) h.first.bit k.first.bit h.first.first k.first.first in
      let name : h.name ≡ k.name = h.first.named ∙ ap (bit_name d.wires) bit ∙ sym k.first.named in
      h.is ∙ ap DoubleDriver name ∙ sym k.is
  one f g (inr (inl h)) (inr (inr k)) = absurd (k.first.no_double h.first.bit h.first.first.holds)
  one f g (inr (inr h)) (inr (inl k)) = absurd (h.first.no_double k.first.bit k.first.first.holds)
  one f g (inr (inr h)) (inr (inr k)) =
      let bit = first-one (IsRing (drivers types d)) h.first.bit k.first.bit h.first.first k.first.first in
      let name : h.name ≡ k.name = h.first.named ∙ ap (bit_name d.wires) bit ∙ sym k.first.named in
      h.is ∙ ap AssignRing name ∙ sym k.is

  pub first_fault-one : (f g : RoleFault) → IsFirstFault types d f → IsFirstFault types d g → f ≡ g
  first_fault-one f g h k = one f g (told f h) (told g k)

  pub sound-no_fault : (f : RoleFault) → IsSound types d → IsFirstFault types d f → ⊥
  sound-no_fault f sound h = by (told f h)
    where
      by : (plain_fault types d ≡ Some f) ⊎ (IsDouble f ⊎ IsOnRing f) → ⊥
      by (inl h) = no_plain f h sound.plain
      by (inr (inl h)) = sound.no_double h.first.bit h.first.first.holds
      by (inr (inr h)) = sound.no_ring h.first.bit h.first.first.holds

  -- so an answer is the first fault where there is one, and the value where there is none
  pub answers-fault : {X : Type 0} (r : Result X (Stop RoleFault)) → OnOk r (IsSound types d) → IfFault r (λ f. IsFirstFault types d f) → (f : RoleFault) → IsFirstFault types d f → Answers r (Err f)
  answers-fault (Ok x) sound fault f h = absurd (sound-no_fault f sound h)
  answers-fault (Err Memory) sound fault f h = tt
  answers-fault (Err (Fault g)) sound fault f h = ap Err (first_fault-one f g h fault)

  pub answers-sound : {X : Type 0} (r : Result X (Stop RoleFault)) (x : X) → IfOk r (λ y. y ≡ x) → IfFault r (λ f. IsFirstFault types d f) → IsSound types d → Answers r (Ok x)
  answers-sound (Ok y) x made fault sound = ap Ok (sym made)
  answers-sound (Err Memory) x made fault sound = tt
  answers-sound (Err (Fault g)) x made fault sound = absurd (sound-no_fault g sound fault)

  -- nothing has two drivers
  pub sound-few : IsSound types d → (n : ℕ) → length (drivers types d n) ≤ 1
  sound-few sound n = le-never (length (drivers types d n)) 1 (λ more. sound.no_double n more)
