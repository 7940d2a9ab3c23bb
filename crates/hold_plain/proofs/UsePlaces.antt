-- The nets and instances that the list of pins names are nets and instances of the netlist.
use Rattle.std.proofs.Common.{◌≡◌, ℕ, ◌+◌, ◌<◌, ◌≤◌, List, [], ◌∷◌, map, length, take, Option, Some, None, refl, ap, arith, subst, ltb}
use Rattle.std.specs.Prelude.{All}
use Rattle.std.specs.List.{AllByRecursion}
use Rattle.std.proofs.lemmas.Bool.{ltb-false}
use Rattle.std.proofs.lemmas.List.{length-map, length-take}
use Rattle.std.proofs.lemmas.List.Elements.{All-nil, All-cons, All-head, All-tail, All-append}
use Rattle.std.proofs.lemmas.List.Sums.{sum_by-cons}
use Rattle.std.proofs.lemmas.Option.{same_Some, none-some}
use Rattle.hold_base.proofs.Bools.{cond-None, cond-Some}
use Rattle.hold_base.specs.declared.time.Interval.{Interval}
use Rattle.hold_base.specs.declared.stop.What.TheVariants.{Bits}
use Rattle.hold_netlist.specs.declared.inst.Source.{Source}
use Rattle.hold_netlist.specs.declared.inst.Source.TheVariants.{Net, Zero, One, Empty}
use Rattle.hold_netlist.specs.declared.inst.Pin.{Pin}
use Rattle.hold_netlist.specs.declared.inst.Inst.{Inst}
use Rattle.hold_netlist.specs.declared.wire.Port.{Port}
use Rattle.hold_netlist.specs.declared.wire.Wire.{Wire}
use Rattle.hold_netlist.specs.declared.wire.Direction.{Direction}
use Rattle.hold_netlist.specs.declared.wire.Direction.TheVariants.{Input as InputPort, Output as OutputPort}
use Rattle.hold_netlist.specs.Design.{Design}
use Rattle.hold_netlist.specs.Bits.{bits_of, width_of, width_of_range}
use Rattle.hold_netlist.specs.Names.{port_names, wire_names}
use Rattle.hold_netlist.specs.WellFormed.{IsSource, IsWrittenPin, IsWrittenInst, IsWellFormed}
use Rattle.hold_netlist.specs.Valid.{IsValid}
use Rattle.hold_plain.specs.declared.cell.Cell.{Cell}
use Rattle.hold_plain.specs.declared.timing.Timing.{Timing}
use Rattle.hold_plain.specs.declared.pin_use.PinUse.{PinUse}
use Rattle.hold_plain.specs.declared.pin_use.PinRole.{PinRole}
use Rattle.hold_plain.specs.declared.pin_use.PinRole.TheVariants.{Input, Output, Clock, Data, Launch, InPort, OutPort, Stray}
use Rattle.hold_plain.specs.Cells.{cell_named, clock_arrival}
use Rattle.hold_plain.specs.PinUses.{fed_name, port_role, use_of, stray_use, cell_uses, inst_uses, port_use, insts_uses, ports_uses, uses_of}
use Rattle.hold_plain.specs.Keys.{net_of, fed_as}
use Rattle.hold_plain.specs.Served.{IsScalar}
use Rattle.hold_plain.specs.inner.Served.{IsUseWithin}

-- ---- counts

width_of-scalar : (w : Wire) → w.range ≡ None → width_of w ≡ 1
width_of-scalar w scalar = ap width_of_range scalar

-- scalar wires are a bit each
pub bits_of-scalar : (wires : List Wire) → All (λ (w : Wire). w.range ≡ None) wires → bits_of wires ≡ length wires
bits_of-scalar [] all = refl
bits_of-scalar (w ∷ ws) all =
    omega (arith, sum_by-cons width_of w ws, width_of-scalar w (All-head (λ (v : Wire). v.range ≡ None) w ws all), bits_of-scalar ws (All-tail (λ (v : Wire). v.range ≡ None) w ws all))

-- the ports are among the wires
pub ports_within : (d : Design) → IsWellFormed d → length d.ports ≤ length d.wires
ports_within d fits =
    let names : length (port_names d.ports) ≡ length (take (length d.ports) (wire_names d.wires)) = ap length fits.ports in
    omega (arith, names, length-map d.ports (λ (p : Port). p.name), length-map d.wires (λ (w : Wire). w.name), length-take (length d.ports) (wire_names d.wires))

width_of_range-least : (range : Option (ℕ × ℕ)) → 1 ≤ width_of_range range
width_of_range-least None = omega arith
width_of_range-least (Some r) = omega arith

-- each wire has a bit at least
wires_within : (wires : List Wire) → length wires ≤ bits_of wires
wires_within [] = omega arith
wires_within (w ∷ ws) = omega (arith, sum_by-cons width_of w ws, width_of_range-least w.range, wires_within ws)

bits_few : (d : Design) → IsValid d → bits_of d.wires ≤ 33554432
bits_few d valid = ltb-false 33554432 (bits_of d.wires) (cond-None (ltb 33554432 (bits_of d.wires)) Bits _ valid.counts).0

-- a netlist has few ports
pub ports_few : (d : Design) → IsValid d → length d.ports ≤ 33554432
ports_few d valid = omega (arith, ports_within d valid.well_formed, wires_within d.wires, bits_few d valid)

-- ---- a connection

net_of-within : (nets : ℕ) (source : Source) (n : ℕ) → IsSource nets source → net_of source ≡ Some n → n < nets
net_of-within nets (Net net) n inside is = subst (λ (k : ℕ). k < nets) (same_Some net.0 n is) inside
net_of-within nets Zero n inside is = absurd (none-some n is)
net_of-within nets One n inside is = absurd (none-some n is)
net_of-within nets Empty n inside is = absurd (none-some n is)

fed_as-inst : (role : PinRole) (source : Source) (inst i : ℕ) → fed_as role source inst ≡ Some i → inst ≡ i
fed_as-inst Input source inst i is = same_Some inst i (cond-Some _ (Some inst) i is)
fed_as-inst Output source inst i is = absurd (none-some i is)
fed_as-inst Clock source inst i is = absurd (none-some i is)
fed_as-inst Data source inst i is = absurd (none-some i is)
fed_as-inst Launch source inst i is = absurd (none-some i is)
fed_as-inst InPort source inst i is = absurd (none-some i is)
fed_as-inst OutPort source inst i is = absurd (none-some i is)
fed_as-inst Stray source inst i is = absurd (none-some i is)

-- a pin whose net and instance are there is within
within_at : (nets insts : ℕ) (u : PinUse) → IsSource nets u.source → u.inst < insts → IsUseWithin nets insts u
within_at nets insts u source below = record {
  net = λ n is. net_of-within nets u.source n source is;
  inst = omega arith;
  feeds = λ i is. let same : u.inst ≡ i = fed_as-inst u.role u.source u.inst i is in omega arith;
}

-- each connection of a list that is written well
each_pin : (nets insts : ℕ) (f : Pin → PinUse) (pins : List Pin) → AllByRecursion (IsWrittenPin nets) pins
    → ((p : Pin) → IsWrittenPin nets p → IsUseWithin nets insts (f p)) → All (IsUseWithin nets insts) (map f pins)
each_pin nets insts f [] all each = All-nil (IsUseWithin nets insts)
each_pin nets insts f (p ∷ ps) all each = All-cons (IsUseWithin nets insts) (f p) (map f ps) (each p all.0) (each_pin nets insts f ps all.1 each)

cell_uses-within : (nets insts : ℕ) (cell : Option Cell) (arrival : Option Interval) (inst : ℕ) (pins : List Pin) → AllByRecursion (IsWrittenPin nets) pins → inst < insts
    → All (IsUseWithin nets insts) (cell_uses cell arrival inst pins)
cell_uses-within nets insts None arrival inst pins all below =
    each_pin nets insts (stray_use inst) pins all (λ p written. within_at nets insts (stray_use inst p) written.source below)
cell_uses-within nets insts (Some cell) arrival inst pins all below =
    each_pin nets insts (use_of cell arrival inst (fed_name cell pins)) pins all
    (λ p written. within_at nets insts (use_of cell arrival inst (fed_name cell pins) p) written.source below)

-- ---- all connections, and all ports

insts_uses-within : (nets count : ℕ) (timing : Timing) (inst : ℕ) (insts : List Inst) → AllByRecursion (IsWrittenInst nets) insts → inst + length insts ≤ count
    → All (IsUseWithin nets count) (insts_uses timing inst insts)
insts_uses-within nets count timing inst [] all below = All-nil (IsUseWithin nets count)
insts_uses-within nets count timing inst (i ∷ is) all below =
    All-append (IsUseWithin nets count) (inst_uses timing inst i) (insts_uses timing (inst + 1) is)
    (cell_uses-within nets count (cell_named i.kind timing.cells) (clock_arrival timing i.name) inst i.pins all.0.pins (omega arith))
    (insts_uses-within nets count timing (inst + 1) is all.1 (omega arith))

port_use-feeds : (direction : Direction) (source : Source) (inst i : ℕ) → fed_as (port_role direction) source inst ≡ Some i → ⊥
port_use-feeds InputPort source inst i is = none-some i is
port_use-feeds OutputPort source inst i is = none-some i is

port_use-within : (nets count net : ℕ) (port : Port) → net < nets → IsUseWithin nets count (port_use net port)
port_use-within nets count net port below = record {
  net = λ n is. let same : net ≡ n = same_Some net n is in omega arith;
  inst = omega arith;
  feeds = λ i is. absurd (port_use-feeds port.direction (port_use net port).source 0 i is);
}

ports_uses-within : (nets count net : ℕ) (ports : List Port) → net + length ports ≤ nets → All (IsUseWithin nets count) (ports_uses net ports)
ports_uses-within nets count net [] below = All-nil (IsUseWithin nets count)
ports_uses-within nets count net (port ∷ ports) below =
    All-cons (IsUseWithin nets count) (port_use net port) (ports_uses (net + 1) ports) (port_use-within nets count net port (omega arith))
    (ports_uses-within nets count (net + 1) ports (omega arith))

-- each pin of a netlist of scalar wires is tied to one of its nets and belongs to one of its instances
pub within_uses : (timing : Timing) (d : Design) → IsValid d → IsScalar d → All (IsUseWithin (length d.wires) (length d.insts)) (uses_of timing d)
within_uses timing d valid scalar =
    let few = ports_within d valid.well_formed in
    let written : AllByRecursion (IsWrittenInst (length d.wires)) d.insts =
    subst (λ (bits : ℕ). AllByRecursion (IsWrittenInst bits) d.insts) (bits_of-scalar d.wires scalar.wires) valid.well_formed.insts in
    All-append (IsUseWithin (length d.wires) (length d.insts)) (insts_uses timing 0 d.insts) (ports_uses 0 d.ports)
    (insts_uses-within (length d.wires) (length d.insts) timing 0 d.insts written (omega arith))
    (ports_uses-within (length d.wires) (length d.insts) 0 d.ports (omega arith))
