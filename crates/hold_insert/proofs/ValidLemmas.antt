-- One buffer in front of one pin: the netlist stays valid, where there is room and its names are new.
use Rattle.std.proofs.Common.{◌≡◌, ◌≢◌, ℕ, zero, suc, ◌+◌, ◌-◌, ◌*◌, ◌<◌, ◌≤◌, ◌^◌, List, [], ◌∷◌, ◌++◌, length, Bool, true, false, cond, Some, None, refl, sym, ap, ◌∙◌, arith, length-append}
use Rattle.std.specs.Prelude.{take, nat_lt, bytes_eq, ◌||◌}
use Rattle.std.specs.List.{AllByRecursion}
use Rattle.std.proofs.lemmas.Bool.Decides.{nat_tests}
use Rattle.std.proofs.lemmas.List.{length-map, map-append, take-append-le}
use Rattle.std.proofs.lemmas.List.Folds.{list_any-append}
use Rattle.std.proofs.lemmas.List.Sums.{sum_by-append, sum_by-cons}
use Rattle.hold_base.proofs.Bools.{false-never}
use Rattle.hold_base.proofs.Bytes.{bytes_eq-same}
use Rattle.hold_base.proofs.Lists.{AllByRecursion-append, AllByRecursion-weaken}
use Rattle.hold_base.specs.Limits.{bits_limit, insts_limit, pins_limit, assigns_limit}
use Rattle.hold_base.specs.NameBytes.{IsName}
use Rattle.hold_base.specs.declared.stop.What.TheVariants.{Bits, Instances, Pins, Assigns}
use Rattle.hold_netlist.specs.declared.inst.Source.{Source}
use Rattle.hold_netlist.specs.declared.inst.Source.TheVariants.{Net, Zero, One, Empty}
use Rattle.hold_netlist.specs.declared.inst.Pin.{Pin}
use Rattle.hold_netlist.specs.declared.inst.Inst.{Inst}
use Rattle.hold_netlist.specs.declared.inst.Assign.{Assign}
use Rattle.hold_netlist.specs.declared.kind.Kind.{Kind}
use Rattle.hold_netlist.specs.declared.wire.Wire.{Wire}
use Rattle.hold_netlist.specs.Bits.{bits_of}
use Rattle.hold_netlist.specs.Design.{Design}
use Rattle.hold_netlist.specs.Doubles.{first_repeat}
use Rattle.hold_netlist.specs.Limits.{first_passed_limit}
use Rattle.hold_netlist.specs.Names.{is_among, wire_names}
use Rattle.hold_netlist.specs.Pins.{connection_count, pin_count, pins_of}
use Rattle.hold_netlist.specs.Valid.{IsValid}
use Rattle.hold_netlist.specs.WellFormed.{IsSource, IsWrittenWire, IsWrittenPin, IsWrittenInst, IsWrittenAssign, IsWellFormed}
use Rattle.hold_netlist.proofs.LimitLemmas.{ports_few}
use Rattle.hold_insert.specs.Chains.{Insertion}
use Rattle.hold_insert.specs.NewNames.{wire_name, inst_name, inst_names}
use Rattle.hold_insert.specs.Padded.{source_in, source_at, tied_pin, tied, with_pins, new_net, new_wire, buffer, with_buffer}
use Rattle.hold_insert.proofs.DoubleLemmas.{inst_names-tied, names-push}
use Rattle.hold_insert.proofs.NewNameLemmas.{wire_name-IsName, inst_name-IsName, inst-wire-apart, among-push, IsApart}
use Rattle.hold_insert.proofs.StepLemmas.{bits-push}

-- ---- what is written well within fewer net bits is so within more

source-more : (bits more : ℕ) → bits ≤ more → (s : Source) → IsSource bits s → IsSource more s
source-more bits more le (Net n) h = omega (arith, h)
source-more bits more le Zero h = tt
source-more bits more le One h = tt
source-more bits more le Empty h = tt

pin-more : (bits more : ℕ) → bits ≤ more → (p : Pin) → IsWrittenPin bits p → IsWrittenPin more p
pin-more bits more le p h = record { name = h.name; source = source-more bits more le p.source h.source }

inst-more : (bits more : ℕ) → bits ≤ more → (i : Inst) → IsWrittenInst bits i → IsWrittenInst more i
inst-more bits more le i h = record { name = h.name; kind = h.kind; pins = AllByRecursion-weaken (IsWrittenPin bits) (IsWrittenPin more) (pin-more bits more le) i.pins h.pins }

assign-more : (bits more : ℕ) → bits ≤ more → (a : Assign) → IsWrittenAssign bits a → IsWrittenAssign more a
assign-more bits more le a h = record { left = omega (arith, h.left); right = source-more bits more le a.right h.right; tied = h.tied }

-- ---- a connection tied to a source of the netlist

pins-tied : (bits : ℕ) (s : Source) → IsSource bits s → (pins : List Pin) (p : ℕ) → AllByRecursion (IsWrittenPin bits) pins → AllByRecursion (IsWrittenPin bits) (tied_pin pins p s)
pins-tied bits s within [] p h = tt
pins-tied bits s within (pin ∷ pins) zero h = (record { name = h.0.name; source = within }, h.1)
pins-tied bits s within (pin ∷ pins) (suc p) h = (h.0, pins-tied bits s within pins p h.1)

insts-tied : (bits : ℕ) (s : Source) → IsSource bits s → (insts : List Inst) (p : ℕ) → AllByRecursion (IsWrittenInst bits) insts → AllByRecursion (IsWrittenInst bits) (tied insts p s)
insts-tied bits s within [] p h = tt
insts-tied bits s within (i ∷ is) p h = by (nat_lt p (length i.pins)) (insts-tied bits s within is (p - length i.pins) h.1)
  where
    by : (b : Bool) → AllByRecursion (IsWrittenInst bits) (tied is (p - length i.pins) s)
        → AllByRecursion (IsWrittenInst bits) (cond b (with_pins i (tied_pin i.pins p s) ∷ is) (i ∷ tied is (p - length i.pins) s))
    by true rest = (record { name = h.0.name; kind = h.0.kind; pins = pins-tied bits s within i.pins p h.0.pins }, h.1)
    by false rest = (h.0, rest)

source_in-within : (bits : ℕ) (pins : List Pin) (p : ℕ) → AllByRecursion (IsWrittenPin bits) pins → IsSource bits (source_in pins p)
source_in-within bits [] p h = tt
source_in-within bits (pin ∷ pins) zero h = h.0.source
source_in-within bits (pin ∷ pins) (suc p) h = source_in-within bits pins p h.1

source_at-within : (bits : ℕ) (insts : List Inst) (p : ℕ) → AllByRecursion (IsWrittenInst bits) insts → IsSource bits (source_at insts p)
source_at-within bits [] p h = tt
source_at-within bits (i ∷ is) p h = by (nat_lt p (length i.pins)) (source_at-within bits is (p - length i.pins) h.1)
  where
    by : (b : Bool) → IsSource bits (source_at is (p - length i.pins)) → IsSource bits (cond b (source_in i.pins p) (source_at is (p - length i.pins)))
    by true rest = source_in-within bits i.pins p h.0.pins
    by false rest = rest

length-tied_pin : (pins : List Pin) (p : ℕ) (s : Source) → length (tied_pin pins p s) ≡ length pins
length-tied_pin [] p s = refl
length-tied_pin (pin ∷ pins) zero s = refl
length-tied_pin (pin ∷ pins) (suc p) s = ap suc (length-tied_pin pins p s)

pub length-tied : (insts : List Inst) (p : ℕ) (s : Source) → length (tied insts p s) ≡ length insts
length-tied [] p s = refl
length-tied (i ∷ is) p s = by (nat_lt p (length i.pins)) (length-tied is (p - length i.pins) s)
  where
    by : (b : Bool) → length (tied is (p - length i.pins) s) ≡ length is
        → length (cond b (with_pins i (tied_pin i.pins p s) ∷ is) (i ∷ tied is (p - length i.pins) s)) ≡ length (i ∷ is)
    by true rest = refl
    by false rest = ap suc rest

pub connection_count-tied : (insts : List Inst) (p : ℕ) (s : Source) → connection_count (tied insts p s) ≡ connection_count insts
connection_count-tied [] p s = refl
connection_count-tied (i ∷ is) p s = by (nat_lt p (length i.pins)) (connection_count-tied is (p - length i.pins) s)
  where
    by : (b : Bool) → connection_count (tied is (p - length i.pins) s) ≡ connection_count is
        → connection_count (cond b (with_pins i (tied_pin i.pins p s) ∷ is) (i ∷ tied is (p - length i.pins) s)) ≡ connection_count (i ∷ is)
    by true rest = sum_by-cons pin_count (with_pins i (tied_pin i.pins p s)) is ∙ ap (λ k. k + connection_count is) (length-tied_pin i.pins p s) ∙ sym (sum_by-cons pin_count i is)
    by false rest = sum_by-cons pin_count i (tied is (p - length i.pins) s) ∙ ap (λ k. length i.pins + k) rest ∙ sym (sum_by-cons pin_count i is)

-- ---- limits

-- so many buffers more don't pass a limit
pub record HasRoom (d : Design) (more : ℕ) : Type 0 where
  pub bits : bits_of d.wires + more ≤ bits_limit
  pub insts : length d.insts + more ≤ insts_limit
  pub pins : pins_of d + 2 * more ≤ pins_limit
  pub assigns : length d.assigns ≤ assigns_limit

false-lt : (a b : ℕ) → b ≤ a → nat_lt a b ≡ false
false-lt a b le = grind (arith, nat_tests)

cond-false : {X : Type 0} (b : Bool) (x y z : X) → b ≡ false → y ≡ z → cond b x y ≡ z
cond-false true x y z h e = cc
cond-false false x y z h e = e

room-fits : (d : Design) (more : ℕ) → HasRoom d more → first_passed_limit d ≡ None
room-fits d more room =
    cond-false (nat_lt bits_limit (bits_of d.wires)) (Some Bits) _ None (false-lt bits_limit (bits_of d.wires) (omega (arith, room.bits)))
    (cond-false (nat_lt insts_limit (length d.insts)) (Some Instances) _ None (false-lt insts_limit (length d.insts) (omega (arith, room.insts)))
    (cond-false (nat_lt pins_limit (pins_of d)) (Some Pins) _ None (false-lt pins_limit (pins_of d) (omega (arith, room.pins)))
    (cond-false (nat_lt assigns_limit (length d.assigns)) (Some Assigns) None None (false-lt assigns_limit (length d.assigns) room.assigns) refl)))

-- ---- names of the buffer's connections

names-of-buffer : (kind : Kind) → kind.input ≢ kind.output → first_repeat [] (kind.input ∷ kind.output ∷ []) ≡ None
names-of-buffer kind differ =
    let apart : bytes_eq kind.output kind.input ≡ false = false-never (bytes_eq kind.output kind.input) (kind.output ≡ kind.input) (bytes_eq-same kind.output kind.input) (λ e. differ (sym e)) in
    cond-false (bytes_eq kind.output kind.input || false) (Some kind.output) None None (ap (λ b. b || false) apart) refl

-- ---- the netlist with the buffer

-- its names are names
pub record IsNamedKind (kind : Kind) : Type 0 where
  pub cell : IsName kind.cell
  pub input : IsName kind.input
  pub output : IsName kind.output
  pub differ : kind.input ≢ kind.output

module _ (n i : ℕ) (b : Insertion) (d : Design) (n_small : n < 2 ^ 64) (i_small : i < 2 ^ 64) (valid : IsValid d) (kind : IsNamedKind b.kind) where
  abbrev new : Source
  new = Net (new_net d)

  abbrev wires : List Wire
  wires = d.wires ++ new_wire n i ∷ []

  more : bits_of d.wires ≤ bits_of wires
  more = omega (arith, bits-push d.wires n i)

  new-within : IsSource (bits_of wires) new
  new-within = omega (arith, bits-push d.wires n i)

  written-buffer : IsWrittenInst (bits_of wires) (buffer n i b.kind (source_at d.insts b.pin.0) (new_net d))
  written-buffer = record {
    name = inst_name-IsName n i n_small i_small;
    kind = kind.cell;
    pins = (
      record { name = kind.input; source = source-more (bits_of d.wires) (bits_of wires) more (source_at d.insts b.pin.0) (source_at-within (bits_of d.wires) d.insts b.pin.0 valid.well_formed.insts) },
      (record { name = kind.output; source = new-within }, tt),
    );
  }

  pub step-written : IsWellFormed (with_buffer n i b d)
  step-written = record {
    name = valid.well_formed.name;
    ports = valid.well_formed.ports
        ∙ sym (ap (take (length d.ports)) (map-append (λ (w : Wire). w.name) d.wires (new_wire n i ∷ []))
        ∙ take-append-le (length d.ports) (wire_names d.wires) (wire_name n i ∷ []) (let few = ports_few valid in let long = length-map d.wires (λ (w : Wire). w.name) in omega arith));
    wires = AllByRecursion-append IsWrittenWire d.wires (new_wire n i ∷ []) valid.well_formed.wires (record { name = wire_name-IsName n i n_small i_small; bounds = tt }, tt);
    insts = AllByRecursion-append (IsWrittenInst (bits_of wires)) (tied d.insts b.pin.0 new) (buffer n i b.kind (source_at d.insts b.pin.0) (new_net d) ∷ [])
        (insts-tied (bits_of wires) new new-within d.insts b.pin.0
        (AllByRecursion-weaken (IsWrittenInst (bits_of d.wires)) (IsWrittenInst (bits_of wires)) (inst-more (bits_of d.wires) (bits_of wires) more) d.insts valid.well_formed.insts))
        (written-buffer, tt);
    assigns = AllByRecursion-weaken (IsWrittenAssign (bits_of d.wires)) (IsWrittenAssign (bits_of wires)) (assign-more (bits_of d.wires) (bits_of wires) more) d.assigns valid.well_formed.assigns;
  }

  pub step-room : (left : ℕ) → HasRoom d (left + 1) → HasRoom (with_buffer n i b d) left
  step-room left room =
      let bits = bits-push d.wires n i in
      let few = room.pins in
      let insts : length (tied d.insts b.pin.0 new ++ buffer n i b.kind (source_at d.insts b.pin.0) (new_net d) ∷ []) ≡ length d.insts + 1 =
      length-append (tied d.insts b.pin.0 new) _ ∙ ap (λ k. k + 1) (length-tied d.insts b.pin.0 new) in
      let connections : connection_count (tied d.insts b.pin.0 new ++ buffer n i b.kind (source_at d.insts b.pin.0) (new_net d) ∷ []) ≡ connection_count d.insts + 2 =
      sum_by-append pin_count (tied d.insts b.pin.0 new) (buffer n i b.kind (source_at d.insts b.pin.0) (new_net d) ∷ []) ∙ ap (λ k. k + 2) (connection_count-tied d.insts b.pin.0 new) in
      let ports : bits_of (take (length d.ports) wires) ≡ bits_of (take (length d.ports) d.wires) = ap bits_of (take-append-le (length d.ports) d.wires (new_wire n i ∷ []) (ports_few valid)) in
      record {
        bits = omega (arith, bits, room.bits);
        insts = omega (arith, insts, room.insts);
        pins = omega (arith, connections, ports, few);
        assigns = room.assigns;
      }

  pub step-valid : (left : ℕ) → HasRoom d (left + 1) → IsApart d (wire_name n i) → IsApart d (inst_name n i) → IsValid (with_buffer n i b d)
  step-valid left room wire inst = record {
    well_formed = step-written;
    names = names-push d.wires d.insts (new_wire n i) (buffer n i b.kind (source_at d.insts b.pin.0) (new_net d)) b.pin.0 new valid.names wire.wires wire.insts
        (list_any-append (bytes_eq (inst_name n i)) (wire_names wires) (inst_names d.insts)
        ∙ ap (λ t. t || is_among (inst_name n i) (inst_names d.insts))
        (ap (is_among (inst_name n i)) (map-append (λ (w : Wire). w.name) d.wires (new_wire n i ∷ [])) ∙ among-push (inst_name n i) (wire_names d.wires) (wire_name n i) inst.wires (inst-wire-apart n i i))
        ∙ inst.insts)
        (names-of-buffer b.kind kind.differ);
    counts = room-fits (with_buffer n i b d) left (step-room left room);
  }

  -- a name that is apart, and isn't one of the two new ones, stays apart
  pub step-apart : (name : List ℕ) → IsApart d name → bytes_eq name (wire_name n i) ≡ false → bytes_eq name (inst_name n i) ≡ false → IsApart (with_buffer n i b d) name
  step-apart name h wire inst = record {
    wires = ap (is_among name) (map-append (λ (w : Wire). w.name) d.wires (new_wire n i ∷ [])) ∙ among-push name (wire_names d.wires) (wire_name n i) h.wires wire;
    insts = ap (is_among name) (map-append (λ (x : Inst). x.name) (tied d.insts b.pin.0 new) (buffer n i b.kind (source_at d.insts b.pin.0) (new_net d) ∷ []))
        ∙ among-push name (inst_names (tied d.insts b.pin.0 new)) (inst_name n i) (ap (is_among name) (inst_names-tied d.insts b.pin.0 new) ∙ h.insts) inst;
  }
