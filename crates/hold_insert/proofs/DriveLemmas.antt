-- What drives a net bit: each output that is connected to it does, and a pin that does is a connection or a bit of an input port.
use Rattle.std.proofs.Common.{◌≡◌, ℕ, zero, suc, ◌+◌, ◌<◌, List, [], ◌∷◌, ◌++◌, length, map, take, Bool, true, false, cond, Option, Some, None, refl, sym, ap, ◌∙◌, ◌⊎◌, inl, inr, subst, arith}
use Rattle.std.specs.Prelude.{slice_get, flat_map, ◌==◌}
use Rattle.std.specs.List.{range_with_len}
use Rattle.std.proofs.lemmas.Bool.{cases_eq, eq-eqb, ne_eqb}
use Rattle.std.proofs.lemmas.List.Elements.{Contains-append_cases, Contains-append_left, Contains-append_right}
use Rattle.std.proofs.lemmas.List.Sums.{sum_by-cons}
use Rattle.hold_base.specs.declared.number.NetNo.{NetNo}
use Rattle.hold_base.specs.declared.number.PinNo.{PinNo}
use Rattle.hold_build.proofs.SortLemmas.{one-of}
use Rattle.hold_netlist.specs.declared.inst.Assign.{Assign}
use Rattle.hold_netlist.specs.declared.inst.Inst.{Inst}
use Rattle.hold_netlist.specs.declared.inst.Pin.{Pin as Connection}
use Rattle.hold_netlist.specs.declared.inst.Source.{Source}
use Rattle.hold_netlist.specs.declared.inst.Source.TheVariants.{Net, Zero, One, Empty}
use Rattle.hold_netlist.specs.declared.wire.Direction.{Direction}
use Rattle.hold_netlist.specs.declared.wire.Direction.TheVariants.{Input, Output}
use Rattle.hold_netlist.specs.declared.wire.Port.{Port}
use Rattle.hold_netlist.specs.declared.wire.Wire.{Wire}
use Rattle.hold_netlist.specs.Bits.{bits_of, width_of}
use Rattle.hold_netlist.specs.Design.{Design}
use Rattle.hold_netlist.specs.Pins.{connection_count, pin_count}
use Rattle.hold_roles.specs.declared.role.CellType.{CellType}
use Rattle.hold_roles.specs.declared.roots.Root.TheVariants.{Pin}
use Rattle.hold_roles.specs.Drivers.{assign_drive, bit_drive, cell_drives, direction_drives, drivers, drivers_on, inst_drives, net_drive, pin_drive, pin_drives, port_drives, source_drive}
use Rattle.hold_roles.specs.Roots.{EndsAt}
use Rattle.hold_roles.specs.TypePins.{is_output_pin}
use Rattle.hold_roles.specs.Types.{type_named}
use Rattle.hold_insert.proofs.StepLemmas.{cons-here}

drivers_on-append : (n : ℕ) (xs ys : _) → drivers_on n (xs ++ ys) ≡ drivers_on n xs ++ drivers_on n ys
drivers_on-append n [] ys = refl
drivers_on-append n (x ∷ xs) ys = by (n == x.0) (drivers_on-append n xs ys)
  where
    by : (b : Bool) → drivers_on n (xs ++ ys) ≡ drivers_on n xs ++ drivers_on n ys
        → cond b (x.1 ∷ drivers_on n (xs ++ ys)) (drivers_on n (xs ++ ys)) ≡ cond b (x.1 ∷ drivers_on n xs) (drivers_on n xs) ++ drivers_on n ys
    by true more = ap (λ l. x.1 ∷ l) more
    by false more = more

-- ---- an output drives what it is connected to

-- Below, pin q is among what drives net bit n by some of the drives.
module _ (n : ℕ) (q : PinNo) where
  has-left : (xs ys : _) → EndsAt (λ m. drivers_on n xs) 0 (Pin q) → EndsAt (λ m. drivers_on n (xs ++ ys)) 0 (Pin q)
  has-left xs ys h = subst (λ l. EndsAt (λ m. l) 0 (Pin q)) (sym (drivers_on-append n xs ys)) (Contains-append_left (drivers_on n xs) (drivers_on n ys) _ h)

  has-right : (xs ys : _) → EndsAt (λ m. drivers_on n ys) 0 (Pin q) → EndsAt (λ m. drivers_on n (xs ++ ys)) 0 (Pin q)
  has-right xs ys h = subst (λ l. EndsAt (λ m. l) 0 (Pin q)) (sym (drivers_on-append n xs ys)) (Contains-append_right (drivers_on n xs) (drivers_on n ys) _ h)

source-has : (x : _) (q : PinNo) (net : NetNo) (b : Bool) (s : Source) → b ≡ true → s ≡ Net net → EndsAt (λ m. x ∷ []) 0 (Pin q) → EndsAt (λ m. drivers_on net.0 (cond b (net_drive s x) [])) 0 (Pin q)
source-has x q net true (Net k) out on h =
    let same : k ≡ net = cc in
    let number : net.0 ≡ k.0 = ap (λ (y : NetNo). y.0) (sym same) in
    subst (λ t. EndsAt (λ m. cond t (x ∷ []) []) 0 (Pin q)) (sym (eq-eqb net.0 k.0 number)) h
source-has x q net true Zero out on h = cc
source-has x q net true One out on h = cc
source-has x q net true Empty out on h = cc
source-has x q net false s out on h = cc

pin_drive-has : (t : CellType) (p : ℕ) (x : Connection) (net : NetNo) → is_output_pin t x.name ≡ true → x.source ≡ Net net
    → EndsAt (λ m. drivers_on net.0 (pin_drive t p x)) 0 (Pin (record { 0 = p }))
pin_drive-has t p x net out on = source-has _ (record { 0 = p }) net (is_output_pin t x.name) x.source out on (cons-here _ [])

pin_drives-has : (t : CellType) (p : ℕ) (pins : List Connection) (place : ℕ) (pin : Connection) (net : NetNo) (q : ℕ) → q ≡ p + place → slice_get pins place ≡ Some pin
    → is_output_pin t pin.name ≡ true → pin.source ≡ Net net → EndsAt (λ m. drivers_on net.0 (pin_drives t p pins)) 0 (Pin (record { 0 = q }))
pin_drives-has t p [] place pin net q number at out on = cc
pin_drives-has t p (x ∷ pins) zero pin net q number at out on =
    let same : pin ≡ x = cc in
    has-left net.0 (record { 0 = q }) (pin_drive t p x) (pin_drives t (p + 1) pins)
    (subst (λ y. EndsAt (λ m. drivers_on net.0 (pin_drive t p y)) 0 (Pin (record { 0 = q }))) same
    (subst (λ k. EndsAt (λ m. drivers_on net.0 (pin_drive t p pin)) 0 (Pin (record { 0 = k }))) (let e : p ≡ q = omega arith in e) (pin_drive-has t p pin net out on)))
pin_drives-has t p (x ∷ pins) (suc place) pin net q number at out on =
    has-right net.0 (record { 0 = q }) (pin_drive t p x) (pin_drives t (p + 1) pins) (pin_drives-has t (p + 1) pins place pin net q (omega arith) at out on)

inst_drives-has : (types : List CellType) (p : ℕ) (insts : List Inst) (inst place : ℕ) (i : Inst) (t : CellType) (pin : Connection) (net : NetNo) (q : ℕ)
    → q ≡ p + (connection_count (take inst insts) + place) → slice_get insts inst ≡ Some i → type_named i.kind types ≡ Some t → slice_get i.pins place ≡ Some pin
    → is_output_pin t pin.name ≡ true → pin.source ≡ Net net → EndsAt (λ m. drivers_on net.0 (inst_drives types p insts)) 0 (Pin (record { 0 = q }))
inst_drives-has types p [] inst place i t pin net q number at typed here out on = cc
inst_drives-has types p (x ∷ insts) zero place i t pin net q number at typed here out on =
    let same : x ≡ i = cc in
    let type_of : type_named x.kind types ≡ Some t = ap (λ (y : Inst). type_named y.kind types) same ∙ typed in
    let there : slice_get x.pins place ≡ Some pin = ap (λ (y : Inst). slice_get y.pins place) same ∙ here in
    has-left net.0 (record { 0 = q }) (cell_drives (type_named x.kind types) p x.pins) (inst_drives types (p + length x.pins) insts)
    (subst (λ o. EndsAt (λ m. drivers_on net.0 (cell_drives o p x.pins)) 0 (Pin (record { 0 = q }))) (sym type_of) (pin_drives-has t p x.pins place pin net q (omega arith) there out on))
inst_drives-has types p (x ∷ insts) (suc inst) place i t pin net q number at typed here out on =
    let more = sum_by-cons pin_count x (take inst insts) in
    has-right net.0 (record { 0 = q }) (cell_drives (type_named x.kind types) p x.pins) (inst_drives types (p + length x.pins) insts)
    (inst_drives-has types (p + length x.pins) insts inst place i t pin net q (omega arith) at typed here out on)

pub output-drives : (types : List CellType) (d : Design) (inst place : ℕ) (i : Inst) (t : CellType) (pin : Connection) (net : NetNo) (q : ℕ)
    → q ≡ connection_count (take inst d.insts) + place → slice_get d.insts inst ≡ Some i → type_named i.kind types ≡ Some t → slice_get i.pins place ≡ Some pin
    → is_output_pin t pin.name ≡ true → pin.source ≡ Net net → EndsAt (drivers types d) net.0 (Pin (record { 0 = q }))
output-drives types d inst place i t pin net q number at typed here out on =
    has-left net.0 (record { 0 = q }) (inst_drives types 0 d.insts) (port_drives (connection_count d.insts) 0 d.ports d.wires ++ flat_map assign_drive d.assigns)
    (inst_drives-has types 0 d.insts inst place i t pin net q (omega arith) at typed here out on)

-- ---- what drives is a connection, or a bit of an input port

-- net bit m is a bit of an input port among these, whose first bit is net bit n, and pin q is that bit, where pin p would be net bit 0
pub record IsInputBit (p n : ℕ) (ports : List Port) (wires : List Wire) (m q : ℕ) : Type 0 where
  pub number : q ≡ p + m
  pub place : ℕ
  pub port : Port
  pub at : slice_get ports place ≡ Some port
  pub input : port.direction ≡ Input
  pub wire : Wire
  pub wire_at : slice_get wires place ≡ Some wire
  pub bit : ℕ
  pub net : m ≡ n + (bits_of (take place wires) + bit)
  pub within : bit < width_of wire

-- Below, G follows wherever pin q is among what drives net bit n by some of the drives.
module _ (n : ℕ) (q : PinNo) (G : Type 0) where
  append-from : (xs ys : _) → (EndsAt (λ m. drivers_on n xs) 0 (Pin q) → G) → (EndsAt (λ m. drivers_on n ys) 0 (Pin q) → G) → EndsAt (λ m. drivers_on n (xs ++ ys)) 0 (Pin q) → G
  append-from xs ys one two h = elim (Contains-append_cases (drivers_on n xs) (drivers_on n ys) _ (subst (λ l. EndsAt (λ m. l) 0 (Pin q)) (drivers_on-append n xs ys) h)) [
    | inl a ↦ one a
    | inr b ↦ two b
  ]

  one-from : (x : _) (k : ℕ) → EndsAt (λ m. cond (n == k) (x ∷ []) []) 0 (Pin q) → (n ≡ k → EndsAt (λ m. x ∷ []) 0 (Pin q) → G) → G
  one-from x k h f = by (cases_eq n k)
    where
      by : ((n ≡ k) ⊎ (n ≡ k → ⊥)) → G
      by (inl e) = f e (subst (λ b. EndsAt (λ m. cond b (x ∷ []) []) 0 (Pin q)) (eq-eqb n k e) h)
      by (inr e) = let none = subst (λ b. EndsAt (λ m. cond b (x ∷ []) []) 0 (Pin q)) (ne_eqb n k e) h in absurd (omega (arith, none.1))

  source-from : (x : _) (b : Bool) (s : Source) → EndsAt (λ m. drivers_on n (cond b (net_drive s x) [])) 0 (Pin q) → (EndsAt (λ m. x ∷ []) 0 (Pin q) → G) → G
  source-from x true (Net k) h f = one-from x k.0 h (λ e. f)
  source-from x true Zero h f = absurd (omega (arith, h.1))
  source-from x true One h f = absurd (omega (arith, h.1))
  source-from x true Empty h f = absurd (omega (arith, h.1))
  source-from x false s h f = absurd (omega (arith, h.1))

  pin-from : (t : CellType) (p : ℕ) (x : Connection) → (q.0 ≡ p → G) → EndsAt (λ m. drivers_on n (pin_drive t p x)) 0 (Pin q) → G
  pin-from t p x f h =
      source-from _ (is_output_pin t x.name) x.source h (λ e. let same : record { 0 = p } ≡ q = cc (one-of _ _ e) in f (ap (λ (r : PinNo). r.0) (sym same)))

  pins-from : (t : CellType) (p : ℕ) (xs : List Connection) → (q.0 < p + length xs → G) → EndsAt (λ m. drivers_on n (pin_drives t p xs)) 0 (Pin q) → G
  pins-from t p [] f h = absurd (omega (arith, h.1))
  pins-from t p (x ∷ xs) f h =
      append-from (pin_drive t p x) (pin_drives t (p + 1) xs) (pin-from t p x (λ e. f (omega arith))) (pins-from t (p + 1) xs (λ lt. f (omega arith))) h

  cell-from : (o : Option CellType) (p : ℕ) (xs : List Connection) → (q.0 < p + length xs → G) → EndsAt (λ m. drivers_on n (cell_drives o p xs)) 0 (Pin q) → G
  cell-from None p xs f h = absurd (omega (arith, h.1))
  cell-from (Some t) p xs f h = pins-from t p xs f h

  insts-from : (types : List CellType) (p : ℕ) (insts : List Inst) → (q.0 < p + connection_count insts → G) → EndsAt (λ m. drivers_on n (inst_drives types p insts)) 0 (Pin q) → G
  insts-from types p [] f h = absurd (omega (arith, h.1))
  insts-from types p (i ∷ is) f h =
      let more = sum_by-cons pin_count i is in
      append-from (cell_drives (type_named i.kind types) p i.pins) (inst_drives types (p + length i.pins) is) (cell-from (type_named i.kind types) p i.pins (λ lt. f (omega arith)))
      (insts-from types (p + length i.pins) is (λ lt. f (omega arith))) h

  bits-from : (p from width : ℕ) → ((k : ℕ) → k < width → n ≡ from + k → q.0 ≡ p + n → G) → EndsAt (λ m. drivers_on n (map (bit_drive p) (range_with_len from width))) 0 (Pin q) → G
  bits-from p from zero f h = absurd (omega (arith, h.1))
  bits-from p from (suc width) f h =
      append-from (bit_drive p from ∷ []) (map (bit_drive p) (range_with_len (from + 1) width)) here
      (λ k. bits-from p (from + 1) width (λ j lt at number. f (j + 1) (omega arith) (omega arith) number) k) h
    where
      here : EndsAt (λ m. drivers_on n (bit_drive p from ∷ [])) 0 (Pin q) → G
      here k = one-from _ from k
          (λ same e. let is : record { 0 = p + from } ≡ q = cc (one-of _ _ e) in let number : p + from ≡ q.0 = ap (λ (r : PinNo). r.0) is in f 0 (omega arith) (omega arith) (omega arith))

  direction-from : (direction : Direction) (p from width : ℕ) → (direction ≡ Input → (k : ℕ) → k < width → n ≡ from + k → q.0 ≡ p + n → G)
      → EndsAt (λ m. drivers_on n (direction_drives direction p from width)) 0 (Pin q) → G
  direction-from Input p from width f h = bits-from p from width (f refl) h
  direction-from Output p from width f h = absurd (omega (arith, h.1))

  ports-from : (p from : ℕ) (ports : List Port) (wires : List Wire) → (IsInputBit p from ports wires n q.0 → G) → EndsAt (λ m. drivers_on n (port_drives p from ports wires)) 0 (Pin q) → G
  ports-from p from [] wires f h = absurd (omega (arith, h.1))
  ports-from p from (port ∷ ports) [] f h = absurd (omega (arith, h.1))
  ports-from p from (port ∷ ports) (w ∷ ws) f h =
      append-from (direction_drives port.direction p from (width_of w)) (port_drives p (from + width_of w) ports ws)
      (direction-from port.direction p from (width_of w)
      (λ input k lt at number. f (record { number = number; place = 0; port = port; at = refl; input = input; wire = w; wire_at = refl; bit = k; net = omega arith; within = lt })))
      (ports-from p (from + width_of w) ports ws (λ bit. f (record {
        number = bit.number;
        place = suc bit.place;
        port = bit.port;
        at = bit.at;
        input = bit.input;
        wire = bit.wire;
        wire_at = bit.wire_at;
        bit = bit.bit;
        net = omega (arith, bit.net, sum_by-cons width_of w (take bit.place ws));
        within = bit.within;
      })))
      h

  assign-from : (left : ℕ) (s : Source) → EndsAt (λ m. drivers_on n (source_drive left s)) 0 (Pin q) → G
  assign-from left (Net k) h = one-from _ left h (λ same e. let never : ⊥ = cc (one-of _ _ e) in absurd never)
  assign-from left Zero h = one-from _ left h (λ same e. let never : ⊥ = cc (one-of _ _ e) in absurd never)
  assign-from left One h = one-from _ left h (λ same e. let never : ⊥ = cc (one-of _ _ e) in absurd never)
  assign-from left Empty h = absurd (omega (arith, h.1))

  assigns-from : (assigns : List Assign) → EndsAt (λ m. drivers_on n (flat_map assign_drive assigns)) 0 (Pin q) → G
  assigns-from [] h = absurd (omega (arith, h.1))
  assigns-from (a ∷ more) h = append-from (assign_drive a) (flat_map assign_drive more) (assign-from a.left.0 a.right) (assigns-from more) h

-- a pin that drives a net bit
pub driver-from : (types : List CellType) (d : Design) (n : ℕ) (q : PinNo) → EndsAt (drivers types d) n (Pin q)
    → (q.0 < connection_count d.insts) ⊎ IsInputBit (connection_count d.insts) 0 d.ports d.wires n q.0
driver-from types d n q h =
    append-from n q _ (inst_drives types 0 d.insts) (port_drives (connection_count d.insts) 0 d.ports d.wires ++ flat_map assign_drive d.assigns)
    (insts-from n q _ types 0 d.insts (λ lt. inl (omega arith)))
    (append-from n q _ (port_drives (connection_count d.insts) 0 d.ports d.wires) (flat_map assign_drive d.assigns)
    (ports-from n q _ (connection_count d.insts) 0 d.ports d.wires (λ bit. inr bit)) (assigns-from n q _ d.assigns))
    h
