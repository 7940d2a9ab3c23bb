-- Sinks: they are the pins that have their values from net bits, each once, and each is on a net bit that there is.
use Rattle.std.proofs.Common.{◌≡◌, ℕ, zero, suc, ◌+◌, ◌<◌, inl, inr, List, [], ◌∷◌, map, take, Bool, true, false, cond, Some, refl, sym, ap, subst, ◌∙◌, arith}
use Rattle.std.specs.Prelude.{Contains, slice_get}
use Rattle.std.specs.List.{range_with_len, AllByRecursion}
use Rattle.std.proofs.lemmas.List.Elements.{All-contains_itself, All-weaker, Contains-append_cases, Contains-append_left, Contains-append_right}
use Rattle.std.proofs.lemmas.List.Sums.{sum_by-cons}
use Rattle.hold_base.specs.declared.number.NetNo.{NetNo}
use Rattle.hold_base.specs.declared.number.PinNo.{PinNo}
use Rattle.hold_netlist.specs.declared.inst.Inst.{Inst}
use Rattle.hold_netlist.specs.declared.inst.Pin.{Pin}
use Rattle.hold_netlist.specs.declared.inst.Source.{Source}
use Rattle.hold_netlist.specs.declared.inst.Source.TheVariants.{Net, Zero, One, Empty}
use Rattle.hold_netlist.specs.declared.wire.Direction.{Direction}
use Rattle.hold_netlist.specs.declared.wire.Direction.TheVariants.{Input, Output}
use Rattle.hold_netlist.specs.declared.wire.Port.{Port}
use Rattle.hold_netlist.specs.declared.wire.Wire.{Wire}
use Rattle.hold_netlist.specs.Bits.{bits_of, width_of}
use Rattle.hold_netlist.specs.Design.{Design}
use Rattle.hold_netlist.specs.Numbering.{first_of}
use Rattle.hold_netlist.specs.Pins.{connection_count, pin_count}
use Rattle.hold_netlist.specs.WellFormed.{IsSource, IsWellFormed, IsWrittenInst, IsWrittenPin}
use Rattle.hold_netlist.proofs.NumberingLemmas.{IsNumbered-below, IsNumbered-one}
use Rattle.hold_roles.specs.declared.role.CellType.{CellType}
use Rattle.hold_roles.specs.Binding.{Binding}
use Rattle.hold_roles.specs.TypePins.{is_input_pin}
use Rattle.hold_build.specs.declared.sinks.Sink.{Sink}
use Rattle.hold_build.specs.Pins.{IsInputOn, IsPinOf, IsPortPin, Reads}
use Rattle.hold_build.specs.inner.Insts.{over_insts}
use Rattle.hold_build.specs.inner.Sinks.{bit_sink, direction_sinks, net_sink, pin_sink, pin_sinks, port_sinks, sinks}
use Rattle.hold_build.specs.inner.WireArcs.{AreOnNets, HasDifferentPins}
use Rattle.hold_build.proofs.ListingLemmas.{Contains-at}
use Rattle.hold_build.proofs.OverLemmas.{IsKeyed, keyed-append, keyed-nil, over_insts-has, over_insts-keyed, over_insts-of, over_pins-has, over_pins-keyed, over_pins-of}
use Rattle.hold_build.proofs.SortLemmas.{one-has, one-keyed, one-of, pin_of}

pub bits-next : (p n m k j : ℕ) → m ≡ n + 1 → k ≡ j + 1 → map (bit_sink p) (range_with_len n k) ≡ bit_sink p n ∷ map (bit_sink p) (range_with_len m j)
bits-next p n m zero j next more = absurd (omega arith)
bits-next p n m (suc k) j next more =
    let same : k ≡ j = omega arith in
    let step : n + 1 ≡ m = omega arith in
    ap (λ i. bit_sink p n ∷ map (bit_sink p) (range_with_len (n + 1) i)) same ∙ ap (λ i. bit_sink p n ∷ map (bit_sink p) (range_with_len i j)) step

abbrev pub pin_number : Sink → ℕ
pin_number s = s.pin.0

-- ---- connections

-- pin p with the net bit of its source
record IsNetSink (p : ℕ) (source : Source) (s : Sink) : Type 0 where
  pub on : source ≡ Net s.net
  pub pin : s.pin.0 ≡ p

net_sink-of : (p : ℕ) (source : Source) (s : Sink) → Contains (net_sink p source) s → IsNetSink p source s
net_sink-of p (Net n) s h =
    let same : record { pin = record { 0 = p }; net = n } ≡ s = one-of (record { pin = record { 0 = p }; net = n }) s h in
    record { on = ap (λ (x : Sink). Net x.net) same; pin = sym (ap pin_number same) }
net_sink-of p Zero s h = absurd (omega (arith, h.1))
net_sink-of p One s h = absurd (omega (arith, h.1))
net_sink-of p Empty s h = absurd (omega (arith, h.1))

net_sink-has : (p : ℕ) (source : Source) (s : Sink) → IsNetSink p source s → Contains (net_sink p source) s
net_sink-has p source s h = subst (λ x. Contains (net_sink p x) s) (sym h.on)
    (one-has (record { pin = record { 0 = p }; net = s.net }) s (ap (λ n. record { pin = record { 0 = n }; net = s.net }) (sym h.pin)))

net_sink-keyed : (p : ℕ) (source : Source) → IsKeyed pin_number p (p + 1) (net_sink p source)
net_sink-keyed p (Net n) = one-keyed pin_number p (record { pin = record { 0 = p }; net = n }) refl
net_sink-keyed p Zero = keyed-nil pin_number p (p + 1)
net_sink-keyed p One = keyed-nil pin_number p (p + 1)
net_sink-keyed p Empty = keyed-nil pin_number p (p + 1)

pin_sink-of : (b : Bool) (p : ℕ) (source : Source) (s : Sink) → Contains (cond b (net_sink p source) []) s → (b ≡ true) × IsNetSink p source s
pin_sink-of true p source s h = (refl, net_sink-of p source s h)
pin_sink-of false p source s h = absurd (omega (arith, h.1))

pin_sink-keyed : (b : Bool) (p : ℕ) (source : Source) → IsKeyed pin_number p (p + 1) (cond b (net_sink p source) [])
pin_sink-keyed true p source = net_sink-keyed p source
pin_sink-keyed false p source = keyed-nil pin_number p (p + 1)

inputs-keyed : (types : List CellType) (insts : List Inst) → IsKeyed pin_number 0 (0 + connection_count insts) (over_insts pin_sinks types 0 insts)
inputs-keyed types insts = over_insts-keyed pin_sinks types pin_number
    (λ t p pins. over_pins-keyed (pin_sink t) pin_number (λ n pin. pin_sink-keyed (is_input_pin t pin.name) n pin.source) p pins) 0 insts

module _ (b : Binding) where
  inputs-of : (s : Sink) → Contains (over_insts pin_sinks b.types 0 b.netlist.insts) s → IsInputOn b s.pin s.net
  inputs-of s h =
      let inst = over_insts-of pin_sinks b.types 0 b.netlist.insts s h in
      let first = 0 + first_of pin_count b.netlist.insts inst.inst in
      let one = over_pins-of (pin_sink inst.t) first inst.i.pins s inst.made in
      let told = pin_sink-of (is_input_pin inst.t one.pin.name) (first + one.place) one.pin.source s one.made in
      record {
        inst = inst.inst;
        t = inst.t;
        pin = one.pin;
        pin_of = pin_of b s.pin inst.inst one.place inst.i inst.t one.pin inst.at inst.typed one.at (let is = told.1.pin in omega arith);
        input = told.0;
        on = told.1.on;
      }

  inputs-has : (s : Sink) → IsInputOn b s.pin s.net → Contains (over_insts pin_sinks b.types 0 b.netlist.insts) s
  inputs-has s h =
      let at = h.pin_of in
      let first = 0 + first_of pin_count b.netlist.insts h.inst in
      over_insts-has pin_sinks b.types 0 b.netlist.insts h.inst at.i h.t s at.is_inst at.typed
      (over_pins-has (pin_sink h.t) first at.i.pins at.place h.pin s at.is_pin
      (subst (λ x. Contains (cond x (net_sink (first + at.place) h.pin.source) []) s) (sym h.input)
      (net_sink-has (first + at.place) h.pin.source s (record { on = h.on; pin = (let is = at.numbered.number in omega arith) }))))

-- ---- bits of ports

record IsBitSink (p n width : ℕ) (s : Sink) : Type 0 where
  pub bit : ℕ
  pub within : bit < width
  pub net : s.net.0 ≡ n + bit
  pub pin : s.pin.0 ≡ p + s.net.0

bits-of : (p n width : ℕ) (s : Sink) → Contains (map (bit_sink p) (range_with_len n width)) s → IsBitSink p n width s
bits-of p n zero s h = absurd (omega (arith, h.1))
bits-of p n (suc width) s (zero, lt, is) =
    let net_is : n ≡ s.net.0 = ap (λ (x : Sink). x.net.0) is in
    let pin_is : p + n ≡ s.pin.0 = ap pin_number is in
    record { bit = 0; within = omega arith; net = omega arith; pin = omega arith }
bits-of p n (suc width) s (suc k, lt, is) =
    let rest = bits-of p (n + 1) width s (k, omega arith, is) in
    record { bit = suc rest.bit; within = omega (arith, rest.within); net = omega (arith, rest.net); pin = rest.pin }

bit-has : (p n width : ℕ) (s : Sink) (bit : ℕ) → bit < width → s.net.0 ≡ n + bit → s.pin.0 ≡ p + s.net.0 → Contains (map (bit_sink p) (range_with_len n width)) s
bit-has p n zero s bit within net pin = absurd (omega arith)
bit-has p n (suc width) s zero within net pin =
    let net_is : n ≡ s.net.0 = omega arith in
    let pin_is : p + n ≡ s.pin.0 = omega arith in
    (0, omega arith, ap (λ m. record { pin = record { 0 = p + n }; net = record { 0 = m } }) net_is ∙ ap (λ m. record { pin = record { 0 = m }; net = s.net }) pin_is)
bit-has p n (suc width) s (suc bit) within net pin =
    Contains-append_right (bit_sink p n ∷ []) (map (bit_sink p) (range_with_len (n + 1) width)) s (bit-has p (n + 1) width s bit (omega arith) (omega arith) pin)

bits-has : (p n width : ℕ) (s : Sink) → IsBitSink p n width s → Contains (map (bit_sink p) (range_with_len n width)) s
bits-has p n width s h = bit-has p n width s h.bit h.within h.net h.pin

bits-keyed : (p n width : ℕ) → IsKeyed pin_number (p + n) (p + (n + width)) (map (bit_sink p) (range_with_len n width))
bits-keyed p n zero = keyed-nil pin_number (p + n) (p + (n + 0))
bits-keyed p n (suc width) =
    let from : p + (n + 1) ≡ p + n + 1 = omega arith in
    let to : p + (n + 1 + width) ≡ p + (n + suc width) = omega arith in
    keyed-append pin_number (p + n) (p + n + 1) (p + (n + suc width)) (bit_sink p n ∷ []) (map (bit_sink p) (range_with_len (n + 1) width)) (omega arith) (omega arith)
    (one-keyed pin_number (p + n) (bit_sink p n) refl)
    (subst (λ m. IsKeyed pin_number (p + n + 1) m (map (bit_sink p) (range_with_len (n + 1) width))) to
    (subst (λ m. IsKeyed pin_number m (p + (n + 1 + width)) (map (bit_sink p) (range_with_len (n + 1) width))) from (bits-keyed p (n + 1) width)))

direction-of : (d : Direction) (p n width : ℕ) (s : Sink) → Contains (direction_sinks d p n width) s → (d ≡ Output) × IsBitSink p n width s
direction-of Output p n width s h = (refl, bits-of p n width s h)
direction-of Input p n width s h = absurd (omega (arith, h.1))

direction-keyed : (d : Direction) (p n width : ℕ) → IsKeyed pin_number (p + n) (p + (n + width)) (direction_sinks d p n width)
direction-keyed Output p n width = bits-keyed p n width
direction-keyed Input p n width = keyed-nil pin_number (p + n) (p + (n + width))

-- a bit of one of these output ports, the first bit of which is net bit n
record IsPortSink (p n : ℕ) (ports : List Port) (wires : List Wire) (s : Sink) : Type 0 where
  pub place : ℕ
  pub port : Port
  pub is_port : slice_get ports place ≡ Some port
  pub directed : port.direction ≡ Output
  pub wire : Wire
  pub is_wire : slice_get wires place ≡ Some wire
  pub bit : IsBitSink p (n + first_of width_of wires place) (width_of wire) s

ports-of : (p n : ℕ) (ports : List Port) (wires : List Wire) (s : Sink) → Contains (port_sinks p n ports wires) s → IsPortSink p n ports wires s
ports-of p n [] wires s h = absurd (omega (arith, h.1))
ports-of p n (port ∷ ports) [] s h = absurd (omega (arith, h.1))
ports-of p n (port ∷ ports) (w ∷ ws) s h = elim (Contains-append_cases (direction_sinks port.direction p n (width_of w)) (port_sinks p (n + width_of w) ports ws) s h) [
  | inl a ↦ (let told = direction-of port.direction p n (width_of w) s a in
      let same : n ≡ n + first_of width_of (w ∷ ws) 0 = omega arith in
      record { place = 0; port = port; is_port = refl; directed = told.0; wire = w; is_wire = refl; bit = subst (λ m. IsBitSink p m (width_of w) s) same told.1 })
  | inr b ↦ (let rest = ports-of p (n + width_of w) ports ws s b in
      let same : n + width_of w + first_of width_of ws rest.place ≡ n + first_of width_of (w ∷ ws) (suc rest.place) = omega (arith, sum_by-cons width_of w (take rest.place ws)) in
      record {
        place = suc rest.place;
        port = rest.port;
        is_port = rest.is_port;
        directed = rest.directed;
        wire = rest.wire;
        is_wire = rest.is_wire;
        bit = subst (λ m. IsBitSink p m (width_of rest.wire) s) same rest.bit;
      })
]

ports-has : (p n : ℕ) (ports : List Port) (wires : List Wire) (s : Sink) (place : ℕ) (port : Port) (wire : Wire) → slice_get ports place ≡ Some port → port.direction ≡ Output
    → slice_get wires place ≡ Some wire → IsBitSink p (n + first_of width_of wires place) (width_of wire) s → Contains (port_sinks p n ports wires) s
ports-has p n [] wires s place port wire at directed stands bit = absurd cc
ports-has p n (q ∷ ports) [] s place port wire at directed stands bit = absurd cc
ports-has p n (q ∷ ports) (w ∷ ws) s zero port wire at directed stands bit =
    let port_is : port ≡ q = cc in
    let wire_is : wire ≡ w = cc in
    let same : n + first_of width_of (w ∷ ws) 0 ≡ n = omega arith in
    let output : Output ≡ q.direction = sym directed ∙ ap (λ (x : Port). x.direction) port_is in
    Contains-append_left (direction_sinks q.direction p n (width_of w)) (port_sinks p (n + width_of w) ports ws) s
    (subst (λ d. Contains (direction_sinks d p n (width_of w)) s) output
    (bits-has p n (width_of w) s (subst (λ m. IsBitSink p m (width_of w) s) same (subst (λ (x : Wire). IsBitSink p (n + first_of width_of (w ∷ ws) 0) (width_of x) s) wire_is bit))))
ports-has p n (q ∷ ports) (w ∷ ws) s (suc place) port wire at directed stands bit =
    let same : n + first_of width_of (w ∷ ws) (suc place) ≡ n + width_of w + first_of width_of ws place = omega (arith, sum_by-cons width_of w (take place ws)) in
    Contains-append_right (direction_sinks q.direction p n (width_of w)) (port_sinks p (n + width_of w) ports ws) s
    (ports-has p (n + width_of w) ports ws s place port wire at directed stands (subst (λ m. IsBitSink p m (width_of wire) s) same bit))

ports-keyed : (p n : ℕ) (ports : List Port) (wires : List Wire) → IsKeyed pin_number (p + n) (p + (n + bits_of wires)) (port_sinks p n ports wires)
ports-keyed p n [] wires = keyed-nil pin_number (p + n) (p + (n + bits_of wires))
ports-keyed p n (port ∷ ports) [] = keyed-nil pin_number (p + n) (p + (n + bits_of []))
ports-keyed p n (port ∷ ports) (w ∷ ws) =
    let more = sum_by-cons width_of w ws in
    let same : p + (n + width_of w + bits_of ws) ≡ p + (n + bits_of (w ∷ ws)) = omega arith in
    keyed-append pin_number (p + n) (p + (n + width_of w)) (p + (n + bits_of (w ∷ ws))) (direction_sinks port.direction p n (width_of w)) (port_sinks p (n + width_of w) ports ws)
    (omega arith) (omega arith) (direction-keyed port.direction p n (width_of w))
    (subst (λ m. IsKeyed pin_number (p + (n + width_of w)) m (port_sinks p (n + width_of w) ports ws)) same (ports-keyed p (n + width_of w) ports ws))

module _ (d : Design) where
  outputs-of : (s : Sink) → Contains (port_sinks (connection_count d.insts) 0 d.ports d.wires) s → IsPortPin d s.pin Output s.net
  outputs-of s h =
      let one = ports-of (connection_count d.insts) 0 d.ports d.wires s h in
      record {
        place = one.place;
        port = one.port;
        is_port = one.is_port;
        directed = one.directed;
        bit = one.bit.bit;
        is_bit = record { number = (let is = one.bit.net in omega arith); within = (one.wire, one.is_wire, one.bit.within) };
        number = one.bit.pin;
      }

  outputs-has : (s : Sink) → IsPortPin d s.pin Output s.net → Contains (port_sinks (connection_count d.insts) 0 d.ports d.wires) s
  outputs-has s h =
      ports-has (connection_count d.insts) 0 d.ports d.wires s h.place h.port h.is_bit.within.0 h.is_port h.directed h.is_bit.within.1
      (record { bit = h.bit; within = h.is_bit.within.2; net = (let is = h.is_bit.number in omega arith); pin = h.number })

-- ---- all sinks

module _ (b : Binding) where
  pub sinks-of : (s : Sink) → Contains (sinks b.types b.netlist) s → Reads b s.pin s.net
  sinks-of s h = elim (Contains-append_cases (over_insts pin_sinks b.types 0 b.netlist.insts) (port_sinks (connection_count b.netlist.insts) 0 b.netlist.ports b.netlist.wires) s h) [
    | inl a ↦ inl (inputs-of b s a)
    | inr c ↦ inr (outputs-of b.netlist s c)
  ]

  pub sinks-has : (s : Sink) → Reads b s.pin s.net → Contains (sinks b.types b.netlist) s
  sinks-has s h = elim h [
    | inl a ↦ Contains-append_left (over_insts pin_sinks b.types 0 b.netlist.insts) (port_sinks (connection_count b.netlist.insts) 0 b.netlist.ports b.netlist.wires) s (inputs-has b s a)
    | inr c ↦ Contains-append_right (over_insts pin_sinks b.types 0 b.netlist.insts) (port_sinks (connection_count b.netlist.insts) 0 b.netlist.ports b.netlist.wires) s (outputs-has b.netlist s c)
  ]

-- a written connection's net bit is one that there is
written-within : (bits : ℕ) (pin : Pin) (net : NetNo) → IsWrittenPin bits pin → pin.source ≡ Net net → net.0 < bits
written-within bits pin net h on = subst (IsSource bits) on h.source

at-recursion : {X : Type 0} (P : X → Type 0) (xs : List X) (k : ℕ) (x : X) → AllByRecursion P xs → slice_get xs k ≡ Some x → P x
at-recursion P [] k x h at = absurd cc
at-recursion P (y ∷ xs) zero x h at = let same : y ≡ x = cc in subst P same h.0
at-recursion P (y ∷ xs) (suc k) x h at = at-recursion P xs k x h.1 at

pub reads-within : (b : Binding) (p : PinNo) (net : NetNo) → IsWellFormed b.netlist → Reads b p net → net.0 < bits_of b.netlist.wires
reads-within b p net well h = elim h [
  | inl a ↦ written-within (bits_of b.netlist.wires) a.pin net
      (at-recursion (IsWrittenPin (bits_of b.netlist.wires)) a.pin_of.i.pins a.pin_of.place a.pin
      (at-recursion (IsWrittenInst (bits_of b.netlist.wires)) b.netlist.insts a.inst a.pin_of.i well.insts a.pin_of.is_inst).pins a.pin_of.is_pin) a.on
  | inr c ↦ IsNumbered-below width_of b.netlist.wires net.0 c.place c.bit c.is_bit
]

-- ---- what the arcs along wires are made from

module _ (b : Binding) (found : List Sink) (is : found ≡ sinks b.types b.netlist) where
  pub sinks-on_nets : IsWellFormed b.netlist → AreOnNets (bits_of b.netlist.wires) found
  sinks-on_nets well = subst (AreOnNets (bits_of b.netlist.wires)) (sym is)
      (All-weaker (Contains (sinks b.types b.netlist)) (λ s. s.net.0 < bits_of b.netlist.wires) (λ s h. reads-within b s.pin s.net well (sinks-of b s h))
      (sinks b.types b.netlist) (All-contains_itself (sinks b.types b.netlist)))

  pub sinks-keyed : IsKeyed pin_number 0 (connection_count b.netlist.insts + bits_of b.netlist.wires) found
  sinks-keyed = subst (IsKeyed pin_number 0 (connection_count b.netlist.insts + bits_of b.netlist.wires)) (sym is)
      (let from : connection_count b.netlist.insts + 0 ≡ 0 + connection_count b.netlist.insts = omega arith in
      let to : connection_count b.netlist.insts + (0 + bits_of b.netlist.wires) ≡ connection_count b.netlist.insts + bits_of b.netlist.wires = omega arith in
      keyed-append pin_number 0 (0 + connection_count b.netlist.insts) (connection_count b.netlist.insts + bits_of b.netlist.wires)
      (over_insts pin_sinks b.types 0 b.netlist.insts) (port_sinks (connection_count b.netlist.insts) 0 b.netlist.ports b.netlist.wires) (omega arith) (omega arith)
      (inputs-keyed b.types b.netlist.insts)
      (subst (λ m. IsKeyed pin_number (0 + connection_count b.netlist.insts) m (port_sinks (connection_count b.netlist.insts) 0 b.netlist.ports b.netlist.wires)) to
      (subst (λ m. IsKeyed pin_number m (connection_count b.netlist.insts + (0 + bits_of b.netlist.wires)) (port_sinks (connection_count b.netlist.insts) 0 b.netlist.ports b.netlist.wires)) from
      (ports-keyed (connection_count b.netlist.insts) 0 b.netlist.ports b.netlist.wires))))

-- ---- a pin reads one net bit

pub pin_of-one : (b : Binding) (p : PinNo) (m n : ℕ) (t u : CellType) (x y : Pin) → IsPinOf b p m t x → IsPinOf b p n u y → x ≡ y
pin_of-one b p m n t u x y h k =
    let same = IsNumbered-one pin_count b.netlist.insts p.0 m h.place n k.place h.numbered k.numbered in
    let inst : Some h.i ≡ Some k.i = sym h.is_inst ∙ ap (slice_get b.netlist.insts) same.0 ∙ k.is_inst in
    let is : h.i ≡ k.i = cc in
    let pin : Some x ≡ Some y = sym h.is_pin ∙ ap (slice_get h.i.pins) same.1 ∙ ap (λ (i : Inst). slice_get i.pins k.place) is ∙ k.is_pin in
    cc

-- a connection's number is below those of the bits of ports
pub pin_of-below : (b : Binding) (p : PinNo) (n : ℕ) (t : CellType) (x : Pin) → IsPinOf b p n t x → p.0 < connection_count b.netlist.insts
pin_of-below b p n t x h = IsNumbered-below pin_count b.netlist.insts p.0 n h.place h.numbered

reads-one : (b : Binding) (p : PinNo) (m n : NetNo) → Reads b p m → Reads b p n → m ≡ n
reads-one b p m n h k = by h k
  where
    by : Reads b p m → Reads b p n → m ≡ n
    by (inl x) (inl y) =
        let pin = pin_of-one b p x.inst y.inst x.t y.t x.pin y.pin x.pin_of y.pin_of in
        let nets : Net m ≡ Net n = sym x.on ∙ ap (λ (q : Pin). q.source) pin ∙ y.on in
        cc
    by (inl x) (inr y) = absurd (omega (arith, pin_of-below b p x.inst x.t x.pin x.pin_of, y.number))
    by (inr x) (inl y) = absurd (omega (arith, pin_of-below b p y.inst y.t y.pin y.pin_of, x.number))
    by (inr x) (inr y) = let same : m.0 ≡ n.0 = omega (arith, x.number, y.number) in ap (λ i. record { 0 = i }) same

module _ (b : Binding) (found : List Sink) (is : found ≡ sinks b.types b.netlist) where
  listed : (j : ℕ) (s : Sink) → slice_get found j ≡ Some s → Reads b s.pin s.net
  listed j s at = sinks-of b s (subst (λ l. Contains l s) is (Contains-at found j s at))

  pub sinks-differ : HasDifferentPins found
  sinks-differ = record {
    each = λ j k s u at there same.
        let net = reads-one b u.pin s.net u.net (subst (λ p. Reads b p s.net) same (listed j s at)) (listed k u there) in
        let both : s ≡ u = ap (λ p. record { pin = p; net = s.net }) same ∙ ap (λ n. record { pin = u.pin; net = n }) net in
        (sinks-keyed b found is).once j k u (at ∙ ap Some both) there;
  }
