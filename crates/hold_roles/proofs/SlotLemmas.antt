-- The slots of net bits, filled drive by drive: what they hold, and that nothing in them is past the last net bit.
use Rattle.std.proofs.Common.{◌≡◌, ℕ, zero, suc, ◌+◌, ◌<◌, ◌≤◌, ◌⊎◌, inl, inr, List, [], ◌∷◌, ◌++◌, length, take, drop, get_or, map, replicate, Bool, true, false, cond, refl, sym, ap, subst, ◌∙◌, arith}
use Rattle.std.specs.Prelude.{Contains, Some, None, Option, slice_get, slice_index_or, flat_map, ◌==◌}
use Rattle.std.specs.List.{AllByRecursion, range_with_len}
use Rattle.std.proofs.lemmas.Bool.{cases_eq, eq-eqb, ne_eqb}
use Rattle.std.proofs.lemmas.List.{get_or_past, get_or-set_same, get_or-set_other, length-set, length-replicate, take-append-le, take_all}
use Rattle.std.proofs.lemmas.List.Sums.{fold-append, sum_by-cons}
use Rattle.std.proofs.lemmas.Option.{slice_get-get_or, get_or_from_slice_get}
use Rattle.hold_base.proofs.Lists.{AllByRecursion-append, AllByRecursion-flat_map}
use Rattle.hold_netlist.specs.declared.inst.Source.{Source}
use Rattle.hold_netlist.specs.declared.inst.Source.TheVariants.{Net, Zero, One, Empty}
use Rattle.hold_netlist.specs.declared.inst.Pin.{Pin}
use Rattle.hold_netlist.specs.declared.inst.Inst.{Inst}
use Rattle.hold_netlist.specs.declared.inst.Assign.{Assign}
use Rattle.hold_netlist.specs.declared.wire.Direction.{Direction}
use Rattle.hold_netlist.specs.declared.wire.Direction.TheVariants.{Input, Output}
use Rattle.hold_netlist.specs.declared.wire.Port.{Port}
use Rattle.hold_netlist.specs.declared.wire.Wire.{Wire}
use Rattle.hold_netlist.specs.Bits.{bits_of, width_of}
use Rattle.hold_netlist.specs.Design.{Design}
use Rattle.hold_netlist.specs.Pins.{connection_count}
use Rattle.hold_netlist.specs.WellFormed.{IsSource, IsWellFormed, IsWrittenAssign, IsWrittenInst, IsWrittenPin}
use Rattle.hold_roles.specs.declared.role.CellType.{CellType}
use Rattle.hold_roles.specs.declared.drivers.Driver.{Driver}
use Rattle.hold_roles.specs.declared.drivers.Driver.TheVariants.{Pin as ByPin, Net as ByNet, Zero as ByZero, One as ByOne}
use Rattle.hold_roles.specs.declared.drivers.Slot.{Slot}
use Rattle.hold_roles.specs.declared.drivers.Slot.TheVariants.{Free, Several}
use Rattle.hold_roles.specs.Types.{type_named}
use Rattle.hold_roles.specs.TypePins.{is_output_pin}
use Rattle.hold_roles.specs.Drivers.{assign_drive, bit_drive, cell_drives, direction_drives, drives, drivers, drivers_on, inst_drives, net_drive, pin_drive, pin_drives, port_drives, source_drive, IsDoubleDriven}
use Rattle.hold_roles.specs.Faults.{HasNone, IsFirst}
use Rattle.hold_roles.specs.Roots.{IsAssigned}
use Rattle.hold_roles.specs.inner.Marks.{AreLinks, drivers_in, slot_drivers}
use Rattle.hold_roles.specs.inner.Slots.{slot_of, slot_with, with_drive, with_drives, HoldsDrivers}
use Rattle.hold_roles.proofs.WalkLemmas.{IsAssigned-same, lt-never}

-- ---- what the slots hold

-- the slot with these drivers more
abbrev slots_with : Slot → List Driver → Slot
slots_with s [] = s
slots_with s (x ∷ xs) = slots_with (slot_with s x) xs

several-stays : (ds : List Driver) → slots_with Several ds ≡ Several
several-stays [] = refl
several-stays (x ∷ xs) = several-stays xs

slots_with-free : (ds : List Driver) → slots_with Free ds ≡ slot_of ds
slots_with-free [] = refl
slots_with-free (x ∷ []) = refl
slots_with-free (x ∷ y ∷ ds) = several-stays ds

pub length-with_drive : (slots : List Slot) (x : ℕ × Driver) → length (with_drive slots x) ≡ length slots
length-with_drive slots x = length-set slots x.0 (slot_with (slice_index_or slots x.0 Free) x.1)

pub length-with_drives : (slots : List Slot) (xs : List (ℕ × Driver)) → length (with_drives slots xs) ≡ length slots
length-with_drives slots [] = refl
length-with_drives slots (x ∷ xs) = length-with_drives (with_drive slots x) xs ∙ length-set slots x.0 (slot_with (slice_index_or slots x.0 Free) x.1)

-- the drive is of one of so many net bits, and so is its driver, if that is a net bit
abbrev pub IsDriverWithin : ℕ → Driver → Type 0
IsDriverWithin bits (ByPin p) = Unit {0}
IsDriverWithin bits (ByNet n) = n.0 < bits
IsDriverWithin bits ByZero = Unit {0}
IsDriverWithin bits ByOne = Unit {0}

pub record IsDriveWithin (bits : ℕ) (x : ℕ × Driver) : Type 0 where
  pub net : x.0 < bits
  pub driver : IsDriverWithin bits x.1

with_drives-at : (bits : ℕ) (xs : List (ℕ × Driver)) (slots : List Slot) (n : ℕ) → length slots ≡ bits → AllByRecursion (IsDriveWithin bits) xs
    → get_or (with_drives slots xs) n Free ≡ slots_with (get_or slots n Free) (drivers_on n xs)
with_drives-at bits [] slots n long h = refl
with_drives-at bits (x ∷ xs) slots n long h =
    with_drives-at bits xs (with_drive slots x) n (length-set slots x.0 (slot_with (slice_index_or slots x.0 Free) x.1) ∙ long) h.1 ∙ by (cases_eq n x.0)
  where
    within : x.0 < length slots
    within = let lt = h.0.net in omega arith

    by : ((n ≡ x.0) ⊎ (n ≡ x.0 → ⊥)) → slots_with (get_or (with_drive slots x) n Free) (drivers_on n xs) ≡ slots_with (get_or slots n Free) (drivers_on n (x ∷ xs))
    by (inl e) =
        let there : get_or (with_drive slots x) n Free ≡ slot_with (get_or slots n Free) x.1 =
        ap (λ k. get_or (with_drive slots x) k Free) e ∙ get_or-set_same slots x.0 (slot_with (slice_index_or slots x.0 Free) x.1) Free within
        ∙ ap (λ k. slot_with (get_or slots k Free) x.1) (sym e) in
        ap (λ s. slots_with s (drivers_on n xs)) there ∙ rw (eq-eqb n x.0 e) refl
    by (inr d) = ap (λ s. slots_with s (drivers_on n xs)) (get_or-set_other slots x.0 n (slot_with (slice_index_or slots x.0 Free) x.1) Free d) ∙ rw (ne_eqb n x.0 d) refl

-- a port's next bit
pub bits-next : (slots : List Slot) (p n m k j : ℕ) → m ≡ n + 1 → k ≡ j + 1
    → with_drives (with_drive slots (bit_drive p n)) (map (bit_drive p) (range_with_len m j)) ≡ with_drives slots (map (bit_drive p) (range_with_len n k))
bits-next slots p n m zero j next more = absurd (omega arith)
bits-next slots p n m (suc k) j next more =
    let same : j ≡ k = omega arith in
    ap (λ i. with_drives (with_drive slots (bit_drive p n)) (map (bit_drive p) (range_with_len m i))) same
    ∙ ap (λ i. with_drives (with_drive slots (bit_drive p n)) (map (bit_drive p) (range_with_len i k))) next

replicate-free : (bits n : ℕ) → get_or (replicate bits Free) n Free ≡ Free
replicate-free zero n = refl
replicate-free (suc bits) zero = refl
replicate-free (suc bits) (suc n) = replicate-free bits n

-- filled from free ones, they hold the drivers
pub filled-holds : (bits : ℕ) (xs : List (ℕ × Driver)) → AllByRecursion (IsDriveWithin bits) xs → HoldsDrivers bits (λ n. drivers_on n xs) (with_drives (replicate bits Free) xs)
filled-holds bits xs within = record {
  each = length-with_drives (replicate bits Free) xs ∙ length-replicate bits Free;
  held = λ n. with_drives-at bits xs (replicate bits Free) n (length-replicate bits Free) within ∙ ap (λ s. slots_with s (drivers_on n xs)) (replicate-free bits n) ∙ slots_with-free (drivers_on n xs);
}

-- ---- the drives of a netlist are within it

net_drive-within : (bits : ℕ) (s : Source) (driver : Driver) → IsSource bits s → IsDriverWithin bits driver → AllByRecursion (IsDriveWithin bits) (net_drive s driver)
net_drive-within bits (Net n) driver h k = (record { net = h; driver = k }, tt)
net_drive-within bits Zero driver h k = tt
net_drive-within bits One driver h k = tt
net_drive-within bits Empty driver h k = tt

pin_drive-within : (bits : ℕ) (t : CellType) (p : ℕ) (pin : Pin) → IsWrittenPin bits pin → AllByRecursion (IsDriveWithin bits) (pin_drive t p pin)
pin_drive-within bits t p pin h = by (is_output_pin t pin.name)
  where
    by : (b : Bool) → AllByRecursion (IsDriveWithin bits) (cond b (net_drive pin.source (ByPin (record { 0 = p }))) [])
    by true = net_drive-within bits pin.source (ByPin (record { 0 = p })) h.source tt
    by false = tt

pin_drives-within : (bits : ℕ) (t : CellType) (p : ℕ) (pins : List Pin) → AllByRecursion (IsWrittenPin bits) pins → AllByRecursion (IsDriveWithin bits) (pin_drives t p pins)
pin_drives-within bits t p [] h = tt
pin_drives-within bits t p (pin ∷ pins) h =
    AllByRecursion-append (IsDriveWithin bits) (pin_drive t p pin) (pin_drives t (p + 1) pins) (pin_drive-within bits t p pin h.0) (pin_drives-within bits t (p + 1) pins h.1)

cell_drives-within : (bits : ℕ) (t : Option CellType) (p : ℕ) (pins : List Pin) → AllByRecursion (IsWrittenPin bits) pins → AllByRecursion (IsDriveWithin bits) (cell_drives t p pins)
cell_drives-within bits None p pins h = tt
cell_drives-within bits (Some t) p pins h = pin_drives-within bits t p pins h

inst_drives-within : (bits : ℕ) (types : List CellType) (p : ℕ) (insts : List Inst) → AllByRecursion (IsWrittenInst bits) insts → AllByRecursion (IsDriveWithin bits) (inst_drives types p insts)
inst_drives-within bits types p [] h = tt
inst_drives-within bits types p (i ∷ is) h =
    AllByRecursion-append (IsDriveWithin bits) (cell_drives (type_named i.kind types) p i.pins) (inst_drives types (p + length i.pins) is)
    (cell_drives-within bits (type_named i.kind types) p i.pins h.0.pins) (inst_drives-within bits types (p + length i.pins) is h.1)

bit_drives-within : (bits p n width : ℕ) → n + width ≤ bits → AllByRecursion (IsDriveWithin bits) (map (bit_drive p) (range_with_len n width))
bit_drives-within bits p n zero h = tt
bit_drives-within bits p n (suc width) h = (record { net = omega arith; driver = tt }, bit_drives-within bits p (n + 1) width (omega arith))

direction_drives-within : (bits : ℕ) (direction : Direction) (p n width : ℕ) → n + width ≤ bits → AllByRecursion (IsDriveWithin bits) (direction_drives direction p n width)
direction_drives-within bits Input p n width h = bit_drives-within bits p n width h
direction_drives-within bits Output p n width h = tt

port_drives-within : (bits p n : ℕ) (ports : List Port) (wires : List Wire) → n + bits_of wires ≤ bits → AllByRecursion (IsDriveWithin bits) (port_drives p n ports wires)
port_drives-within bits p n [] wires h = tt
port_drives-within bits p n (port ∷ ports) [] h = tt
port_drives-within bits p n (port ∷ ports) (w ∷ ws) h =
    let more = sum_by-cons width_of w ws in
    AllByRecursion-append (IsDriveWithin bits) (direction_drives port.direction p n (width_of w)) (port_drives p (n + width_of w) ports ws)
    (direction_drives-within bits port.direction p n (width_of w) (omega arith)) (port_drives-within bits p (n + width_of w) ports ws (omega arith))

assign_drive-within : (bits : ℕ) (a : Assign) → IsWrittenAssign bits a → AllByRecursion (IsDriveWithin bits) (assign_drive a)
assign_drive-within bits a h = by a.right h.right
  where
    by : (s : Source) → IsSource bits s → AllByRecursion (IsDriveWithin bits) (source_drive a.left.0 s)
    by (Net n) k = (record { net = h.left; driver = k }, tt)
    by Zero k = (record { net = h.left; driver = tt }, tt)
    by One k = (record { net = h.left; driver = tt }, tt)
    by Empty k = tt

pub drives-within : (types : List CellType) (d : Design) → IsWellFormed d → AllByRecursion (IsDriveWithin (bits_of d.wires)) (drives types d)
drives-within types d h =
    AllByRecursion-append (IsDriveWithin (bits_of d.wires)) (inst_drives types 0 d.insts) _ (inst_drives-within (bits_of d.wires) types 0 d.insts h.insts)
    (AllByRecursion-append (IsDriveWithin (bits_of d.wires)) (port_drives (connection_count d.insts) 0 d.ports d.wires) (flat_map assign_drive d.assigns)
    (port_drives-within (bits_of d.wires) (connection_count d.insts) 0 d.ports d.wires (omega arith))
    (AllByRecursion-flat_map (IsWrittenAssign (bits_of d.wires)) (IsDriveWithin (bits_of d.wires)) assign_drive (assign_drive-within (bits_of d.wires)) d.assigns h.assigns))

-- ---- what they tell

several-two : (ds : List Driver) → slot_of ds ≡ Several → 1 < length ds
several-two [] h = cc
several-two (x ∷ []) h = cc
several-two (x ∷ y ∷ ds) h = omega arith

two-several : (ds : List Driver) → 1 < length ds → slot_of ds ≡ Several
two-several [] h = absurd (omega arith)
two-several (x ∷ []) h = absurd (omega arith)
two-several (x ∷ y ∷ ds) h = refl

module _ (bits : ℕ) (drivers : ℕ → List Driver) (slots : List Slot) (holds : HoldsDrivers bits drivers slots) where
  double-at : (n : ℕ) → slice_get slots n ≡ Some Several → IsDoubleDriven drivers n
  double-at n h = several-two (drivers n) (sym (holds.held n) ∙ get_or_from_slice_get slots n Several Free h)

  at-double : (n : ℕ) → IsDoubleDriven drivers n → slice_get slots n ≡ Some Several
  at-double n h =
      let there : get_or slots n Free ≡ Several = holds.held n ∙ two-several (drivers n) h in
      let within : n < length slots = lt-never n (length slots) (λ past. let free = get_or_past slots n Free past in cc) in
      slice_get-get_or slots n Free within ∙ ap Some there

  pub first_double : (n : ℕ) → IsFirst (λ m. slice_get slots m ≡ Some Several) n → IsFirst (IsDoubleDriven drivers) n
  first_double n h = record { holds = double-at n h.holds; none_before = λ m lt double. h.none_before m lt (at-double m double) }

  module _ (none : HasNone (λ m. slice_get slots m ≡ Some Several)) where
    pub no_double : HasNone (IsDoubleDriven drivers)
    no_double n h = none n (at-double n h)

    -- without doubles the slots have each driver
    pub drivers_in-same : (n : ℕ) → drivers_in slots n ≡ drivers n
    drivers_in-same n = by (drivers n) refl
      where
        by : (ds : List Driver) → drivers n ≡ ds → drivers_in slots n ≡ drivers n
        by [] e = ap slot_drivers (holds.held n ∙ ap slot_of e) ∙ sym e
        by (x ∷ []) e = ap slot_drivers (holds.held n ∙ ap slot_of e) ∙ sym e
        by (x ∷ y ∷ ds) e = let long : length (drivers n) ≡ suc (suc (length ds)) = ap length e in absurd (none n (at-double n (omega arith)))

all-contains : {X : Type 0} (P : X → Type 0) (xs : List X) (x : X) → AllByRecursion P xs → Contains xs x → P x
all-contains P [] x h k = absurd (omega (arith, k.1))
all-contains P (y ∷ ys) x h (zero, lt, is) = subst P is h.0
all-contains P (y ∷ ys) x h (suc k, lt, is) = all-contains P ys x h.1 (k, omega arith, is)

drivers_on-within : (bits n : ℕ) (xs : List (ℕ × Driver)) → AllByRecursion (IsDriveWithin bits) xs → AllByRecursion (IsDriverWithin bits) (drivers_on n xs)
drivers_on-within bits n [] h = tt
drivers_on-within bits n (x ∷ xs) h = by (n == x.0) (drivers_on-within bits n xs h.1)
  where
    by : (b : Bool) → AllByRecursion (IsDriverWithin bits) (drivers_on n xs) → AllByRecursion (IsDriverWithin bits) (cond b (x.1 ∷ drivers_on n xs) (drivers_on n xs))
    by true more = (h.0.driver, more)
    by false more = more

-- each net bit that another is assigned from is one of the netlist's
pub links : (types : List CellType) (d : Design) (slots : List Slot) → IsWellFormed d → HoldsDrivers (bits_of d.wires) (drivers types d) slots
    → HasNone (λ m. slice_get slots m ≡ Some Several) → AreLinks slots
links types d slots well holds none a b h =
    let there : IsAssigned (drivers types d) a b = IsAssigned-same (drivers_in slots) (drivers types d) (drivers_in-same (bits_of d.wires) (drivers types d) slots holds none) a b h in
    let within : b < bits_of d.wires = all-contains (IsDriverWithin (bits_of d.wires)) (drivers types d a) (ByNet (record { 0 = b }))
    (drivers_on-within (bits_of d.wires) a (drives types d) (drives-within types d well)) there in
    let long = holds.each in
    omega arith

-- ---- the slots of a netlist

-- free slots with the drives of a netlist hold its drivers
pub netlist-holds : (types : List CellType) (d : Design) (free all kept : List Slot) → IsWellFormed d → free ≡ replicate (bits_of d.wires) Free
    → all ≡ with_drives free (drives types d) → kept ≡ all → HoldsDrivers (bits_of d.wires) (drivers types d) kept
netlist-holds types d free all kept well begun filled same =
    subst (HoldsDrivers (bits_of d.wires) (drivers types d)) (sym (same ∙ filled ∙ ap (λ l. with_drives l (drives types d)) begun))
    (filled-holds (bits_of d.wires) (drives types d) (drives-within types d well))

-- three parts, put one after another
pub three-parts : (slots one two all : List Slot) (xs ys zs : List (ℕ × Driver)) → one ≡ with_drives slots xs → two ≡ with_drives one ys → all ≡ with_drives two zs
    → all ≡ with_drives slots (xs ++ (ys ++ zs))
three-parts slots one two all xs ys zs first second third =
    third ∙ ap (λ l. with_drives l zs) (second ∙ ap (λ l. with_drives l ys) first)
    ∙ sym (fold-append with_drive (with_drives slots xs) ys zs) ∙ sym (fold-append with_drive slots xs (ys ++ zs))

-- a list that takes the place of one as long stays whole
pub taken-whole : (n : ℕ) (new old : List Slot) → length new ≡ n → take n (new ++ drop (length new) old) ≡ new
taken-whole n new old long = take-append-le n new (drop (length new) old) (omega arith) ∙ take_all n new (omega arith)
