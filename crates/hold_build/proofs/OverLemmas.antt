-- What is made of connections and of instances one by one: of which one each item is, and that none stands twice where the items of
-- each have keys of its own.
use Rattle.std.proofs.Common.{◌≡◌, ℕ, zero, suc, ◌+◌, ◌<◌, ◌≤◌, inl, inr, List, [], ◌∷◌, ◌++◌, length, take, Option, Some, None, refl, sym, ap, subst, ◌∙◌, arith}
use Rattle.std.specs.Prelude.{Contains, All, slice_get}
use Rattle.std.proofs.lemmas.List.Elements.{All-append, All-contains, All-weaker, Contains-append_cases, Contains-append_left, Contains-append_right}
use Rattle.std.proofs.lemmas.List.Sums.{sum_by-cons}
use Rattle.hold_netlist.specs.declared.inst.Inst.{Inst}
use Rattle.hold_netlist.specs.declared.inst.Pin.{Pin}
use Rattle.hold_netlist.specs.Numbering.{first_of}
use Rattle.hold_netlist.specs.Pins.{connection_count, pin_count}
use Rattle.hold_roles.specs.declared.role.CellType.{CellType}
use Rattle.hold_roles.specs.Types.{type_named}
use Rattle.hold_build.specs.Listing.{StandsOnce}
use Rattle.hold_build.specs.inner.Insts.{over_cell, over_insts, over_pins}
use Rattle.hold_build.proofs.ListingLemmas.{StandsOnce-append, StandsOnce-nil}

-- no item stands twice, and the keys of all lie from `low` up to `high`
pub record IsKeyed {X : Type 0} (key : X → ℕ) (low high : ℕ) (xs : List X) : Type 0 where
  pub once : StandsOnce xs
  pub within : All (λ x. (low ≤ key x) × (key x < high)) xs

pub keyed-nil : {X : Type 0} (key : X → ℕ) (low high : ℕ) → IsKeyed key low high []
keyed-nil {X} key low high = record { once = StandsOnce-nil {X = X}; within = λ k d lt. absurd (omega arith) }

pub keyed-append : {X : Type 0} (key : X → ℕ) (a b c : ℕ) (xs ys : List X) → a ≤ b → b ≤ c → IsKeyed key a b xs → IsKeyed key b c ys → IsKeyed key a c (xs ++ ys)
keyed-append {X} key a b c xs ys low high h k = record {
  once = StandsOnce-append xs ys h.once k.once (λ x one two.
      let first = All-contains (λ x. (a ≤ key x) × (key x < b)) xs x h.within one in
      let second = All-contains (λ x. (b ≤ key x) × (key x < c)) ys x k.within two in
      omega (arith, first.1, second.0));
  within = All-append (λ x. (a ≤ key x) × (key x < c)) xs ys
      (All-weaker (λ x. (a ≤ key x) × (key x < b)) (λ x. (a ≤ key x) × (key x < c)) (λ x w. (w.0, omega (arith, w.1))) xs h.within)
      (All-weaker (λ x. (b ≤ key x) × (key x < c)) (λ x. (a ≤ key x) × (key x < c)) (λ x w. (omega (arith, w.0), w.1)) ys k.within);
}

-- an item made of one of these connections, the first of which is pin p
pub record IsOfPin {X : Type 0} (g : ℕ → Pin → List X) (p : ℕ) (pins : List Pin) (x : X) : Type 0 where
  pub place : ℕ
  pub pin : Pin
  pub at : slice_get pins place ≡ Some pin
  pub made : Contains (g (p + place) pin) x

module _ {X : Type 0} (g : ℕ → Pin → List X) where
  pub over_pins-of : (p : ℕ) (pins : List Pin) (x : X) → Contains (over_pins g p pins) x → IsOfPin g p pins x
  over_pins-of p [] x h = absurd (omega (arith, h.1))
  over_pins-of p (pin ∷ pins) x h = elim (Contains-append_cases (g p pin) (over_pins g (p + 1) pins) x h) [
    | inl a ↦ (let same : p ≡ p + 0 = omega arith in record { place = 0; pin = pin; at = refl; made = subst (λ n. Contains (g n pin) x) same a })
    | inr b ↦ (let rest = over_pins-of (p + 1) pins x b in let same : p + 1 + rest.place ≡ p + suc rest.place = omega arith in
        record { place = suc rest.place; pin = rest.pin; at = rest.at; made = subst (λ n. Contains (g n rest.pin) x) same rest.made })
  ]

  pub over_pins-has : (p : ℕ) (pins : List Pin) (place : ℕ) (pin : Pin) (x : X) → slice_get pins place ≡ Some pin → Contains (g (p + place) pin) x
      → Contains (over_pins g p pins) x
  over_pins-has p [] place pin x at made = absurd cc
  over_pins-has p (q ∷ pins) zero pin x at made =
      let same : p + 0 ≡ p = omega arith in
      let is : pin ≡ q = cc in
      Contains-append_left (g p q) (over_pins g (p + 1) pins) x (subst (λ n. Contains (g n q) x) same (subst (λ y. Contains (g (p + 0) y) x) is made))
  over_pins-has p (q ∷ pins) (suc place) pin x at made =
      let same : p + suc place ≡ p + 1 + place = omega arith in
      Contains-append_right (g p q) (over_pins g (p + 1) pins) x (over_pins-has (p + 1) pins place pin x at (subst (λ n. Contains (g n pin) x) same made))

  pub over_pins-keyed : (key : X → ℕ) → ((p : ℕ) (pin : Pin) → IsKeyed key p (p + 1) (g p pin)) → (p : ℕ) (pins : List Pin)
      → IsKeyed key p (p + length pins) (over_pins g p pins)
  over_pins-keyed key each p [] = keyed-nil key p (p + 0)
  over_pins-keyed key each p (pin ∷ pins) =
      let same : p + 1 + length pins ≡ p + suc (length pins) = omega arith in
      keyed-append key p (p + 1) (p + suc (length pins)) (g p pin) (over_pins g (p + 1) pins) (omega arith) (omega arith) (each p pin)
      (subst (λ n. IsKeyed key (p + 1) n (over_pins g (p + 1) pins)) same (over_pins-keyed key each (p + 1) pins))

-- an item made of one of these instances, the first connection of which is pin p
pub record IsOfInst {X : Type 0} (f : CellType → ℕ → List Pin → List X) (types : List CellType) (p : ℕ) (insts : List Inst) (x : X) : Type 0 where
  pub inst : ℕ
  pub i : Inst
  pub t : CellType
  pub at : slice_get insts inst ≡ Some i
  pub typed : type_named i.kind types ≡ Some t
  pub made : Contains (f t (p + first_of pin_count insts inst) i.pins) x

module _ {X : Type 0} (f : CellType → ℕ → List Pin → List X) (types : List CellType) where
  here : (p : ℕ) (i : Inst) (is : List Inst) (x : X) (o : Option CellType) → type_named i.kind types ≡ o → Contains (over_cell f o p i.pins) x → IsOfInst f types p (i ∷ is) x
  here p i is x None typed h = absurd (omega (arith, h.1))
  here p i is x (Some t) typed h =
      let same : p ≡ p + first_of pin_count (i ∷ is) 0 = omega arith in
      record { inst = 0; i = i; t = t; at = refl; typed = typed; made = subst (λ n. Contains (f t n i.pins) x) same h }

  pub over_insts-of : (p : ℕ) (insts : List Inst) (x : X) → Contains (over_insts f types p insts) x → IsOfInst f types p insts x
  over_insts-of p [] x h = absurd (omega (arith, h.1))
  over_insts-of p (i ∷ is) x h = elim (Contains-append_cases (over_cell f (type_named i.kind types) p i.pins) (over_insts f types (p + length i.pins) is) x h) [
    | inl a ↦ here p i is x (type_named i.kind types) refl a
    | inr b ↦ (let rest = over_insts-of (p + length i.pins) is x b in
        let same : p + length i.pins + first_of pin_count is rest.inst ≡ p + first_of pin_count (i ∷ is) (suc rest.inst) = omega (arith, sum_by-cons pin_count i (take rest.inst is)) in
        record { inst = suc rest.inst; i = rest.i; t = rest.t; at = rest.at; typed = rest.typed; made = subst (λ n. Contains (f rest.t n rest.i.pins) x) same rest.made })
  ]

  pub over_insts-has : (p : ℕ) (insts : List Inst) (inst : ℕ) (i : Inst) (t : CellType) (x : X) → slice_get insts inst ≡ Some i → type_named i.kind types ≡ Some t
      → Contains (f t (p + first_of pin_count insts inst) i.pins) x → Contains (over_insts f types p insts) x
  over_insts-has p [] inst i t x at typed made = absurd cc
  over_insts-has p (j ∷ is) zero i t x at typed made =
      let same : p + first_of pin_count (j ∷ is) 0 ≡ p = omega arith in
      let is_here : i ≡ j = cc in
      let named : Some t ≡ type_named j.kind types = sym typed ∙ ap (λ (y : Inst). type_named y.kind types) is_here in
      Contains-append_left (over_cell f (type_named j.kind types) p j.pins) (over_insts f types (p + length j.pins) is) x
      (subst (λ o. Contains (over_cell f o p j.pins) x) named (subst (λ n. Contains (f t n j.pins) x) same (subst (λ (y : Inst). Contains (f t (p + first_of pin_count (j ∷ is) 0) y.pins) x) is_here made)))
  over_insts-has p (j ∷ is) (suc inst) i t x at typed made =
      let same : p + first_of pin_count (j ∷ is) (suc inst) ≡ p + length j.pins + first_of pin_count is inst = omega (arith, sum_by-cons pin_count j (take inst is)) in
      Contains-append_right (over_cell f (type_named j.kind types) p j.pins) (over_insts f types (p + length j.pins) is) x
      (over_insts-has (p + length j.pins) is inst i t x at typed (subst (λ n. Contains (f t n i.pins) x) same made))

  module _ (key : X → ℕ) (each : (t : CellType) (p : ℕ) (pins : List Pin) → IsKeyed key p (p + length pins) (f t p pins)) where
    cell-keyed : (o : Option CellType) (p : ℕ) (pins : List Pin) → IsKeyed key p (p + length pins) (over_cell f o p pins)
    cell-keyed None p pins = keyed-nil key p (p + length pins)
    cell-keyed (Some t) p pins = each t p pins

    pub over_insts-keyed : (p : ℕ) (insts : List Inst) → IsKeyed key p (p + connection_count insts) (over_insts f types p insts)
    over_insts-keyed p [] = keyed-nil key p (p + connection_count [])
    over_insts-keyed p (i ∷ is) =
        let more = sum_by-cons pin_count i is in
        let same : p + length i.pins + connection_count is ≡ p + connection_count (i ∷ is) = omega arith in
        keyed-append key p (p + length i.pins) (p + connection_count (i ∷ is)) (over_cell f (type_named i.kind types) p i.pins) (over_insts f types (p + length i.pins) is)
        (omega arith) (omega arith) (cell-keyed (type_named i.kind types) p i.pins)
        (subst (λ n. IsKeyed key (p + length i.pins) n (over_insts f types (p + length i.pins) is)) same (over_insts-keyed (p + length i.pins) is))
