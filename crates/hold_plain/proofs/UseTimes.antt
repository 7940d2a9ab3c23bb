-- The delays, checks and arrivals of the list of pins are within the limits, where those of the cells and of the clock are.
use Rattle.std.proofs.Common.{ℕ, ◌+◌, List, [], ◌∷◌, Bool, true, false, cond, Option, Some, None}
use Rattle.std.specs.Prelude.{All, ◌&&◌, bytes_eq}
use Rattle.std.proofs.lemmas.List.Elements.{All-nil, All-cons, All-head, All-tail, All-append}
use Rattle.hold_base.proofs.Lists.{All-map}
use Rattle.hold_base.specs.declared.time.Interval.{Interval}
use Rattle.hold_netlist.specs.declared.inst.Pin.{Pin}
use Rattle.hold_netlist.specs.declared.inst.Inst.{Inst}
use Rattle.hold_netlist.specs.declared.wire.Port.{Port}
use Rattle.hold_netlist.specs.Design.{Design}
use Rattle.hold_graph.specs.Problem.{IsSpan}
use Rattle.hold_base.specs.Limits.{time_limit}
use Rattle.hold_plain.specs.declared.cell.Cell.{Cell}
use Rattle.hold_plain.specs.declared.cell.CellArc.{CellArc}
use Rattle.hold_plain.specs.declared.cell.CellCheck.{CellCheck}
use Rattle.hold_plain.specs.declared.timing.Clock.{Clock as ClockEntry}
use Rattle.hold_plain.specs.declared.timing.Timing.{Timing}
use Rattle.hold_plain.specs.declared.pin_use.PinRole.{PinRole}
use Rattle.hold_plain.specs.declared.pin_use.PinRole.TheVariants.{Input, Output, Clock, Data, Launch, InPort, OutPort, Stray}
use Rattle.hold_plain.specs.Cells.{cell_named, arc_span, check_of, arrival_in, or_else, clock_arrival, role_in}
use Rattle.hold_plain.specs.PinUses.{fed_name, arc_from, delay_to, check_at, use_of, stray_use, cell_uses, inst_uses, port_use, insts_uses, ports_uses, uses_of}
use Rattle.hold_plain.specs.Limits.{IfKnown, IsCheckInLimit, KeepsCellLimits, KeepsLimits}
use Rattle.hold_plain.specs.inner.Limits.{IsTimed}

-- what holds of the one where a test says yes, and of the other where it says no
known_if : {A : Type 0} (P : A → Type 0) (b : Bool) (a : A) (o : Option A) → P a → IfKnown P o → IfKnown P (cond b (Some a) o)
known_if P true a o here rest = here
known_if P false a o here rest = rest

arc_span-known : (from to : List ℕ) (arcs : List CellArc) → All (λ (arc : CellArc). IsSpan time_limit arc.span) arcs → IfKnown (IsSpan time_limit) (arc_span from to arcs)
arc_span-known from to [] all = tt
arc_span-known from to (arc ∷ arcs) all =
    known_if (IsSpan time_limit) (bytes_eq from arc.from && bytes_eq to arc.to) arc.span (arc_span from to arcs) (All-head (λ (a : CellArc). IsSpan time_limit a.span) arc arcs all)
    (arc_span-known from to arcs (All-tail (λ (a : CellArc). IsSpan time_limit a.span) arc arcs all))

check_of-known : (pin : List ℕ) (entries : List CellCheck) → All (λ (entry : CellCheck). IsCheckInLimit entry.check) entries → IfKnown IsCheckInLimit (check_of pin entries)
check_of-known pin [] all = tt
check_of-known pin (entry ∷ entries) all =
    known_if IsCheckInLimit (bytes_eq pin entry.pin) entry.check (check_of pin entries) (All-head (λ (e : CellCheck). IsCheckInLimit e.check) entry entries all)
    (check_of-known pin entries (All-tail (λ (e : CellCheck). IsCheckInLimit e.check) entry entries all))

cell_named-known : (name : List ℕ) (cells : List Cell) → All KeepsCellLimits cells → IfKnown KeepsCellLimits (cell_named name cells)
cell_named-known name [] all = tt
cell_named-known name (cell ∷ cells) all =
    known_if KeepsCellLimits (bytes_eq name cell.name) cell (cell_named name cells) (All-head KeepsCellLimits cell cells all)
    (cell_named-known name cells (All-tail KeepsCellLimits cell cells all))

arrival_in-known : (inst : List ℕ) (entries : List ClockEntry) → All (λ (entry : ClockEntry). IsSpan time_limit entry.arrival) entries
    → IfKnown (IsSpan time_limit) (arrival_in inst entries)
arrival_in-known inst [] all = tt
arrival_in-known inst (entry ∷ entries) all =
    known_if (IsSpan time_limit) (bytes_eq inst entry.inst) entry.arrival (arrival_in inst entries) (All-head (λ (e : ClockEntry). IsSpan time_limit e.arrival) entry entries all)
    (arrival_in-known inst entries (All-tail (λ (e : ClockEntry). IsSpan time_limit e.arrival) entry entries all))

or_else-known : {A : Type 0} (P : A → Type 0) (o other : Option A) → IfKnown P o → IfKnown P other → IfKnown P (or_else o other)
or_else-known P (Some a) other here rest = here
or_else-known P None other here rest = rest

clock_arrival-known : (timing : Timing) (inst : List ℕ) → KeepsLimits timing → IfKnown (IsSpan time_limit) (clock_arrival timing inst)
clock_arrival-known timing inst keeps = or_else-known (IsSpan time_limit) (arrival_in inst timing.clocks) timing.arrival (arrival_in-known inst timing.clocks keeps.clocks) keeps.arrival

arc_from-known : (from : Option (List ℕ)) (cell : Cell) (name : List ℕ) → KeepsCellLimits cell → IfKnown (IsSpan time_limit) (arc_from from cell name)
arc_from-known None cell name keeps = tt
arc_from-known (Some from) cell name keeps = arc_span-known from name cell.arcs keeps.arcs

delay_to-known : (cell : Cell) (fed : Option (List ℕ)) (name : List ℕ) (role : PinRole) → KeepsCellLimits cell → IfKnown (IsSpan time_limit) (delay_to cell fed name role)
delay_to-known cell fed name Output keeps = arc_from-known fed cell name keeps
delay_to-known cell fed name Launch keeps = arc_from-known cell.clock cell name keeps
delay_to-known cell fed name Input keeps = tt
delay_to-known cell fed name Clock keeps = tt
delay_to-known cell fed name Data keeps = tt
delay_to-known cell fed name InPort keeps = tt
delay_to-known cell fed name OutPort keeps = tt
delay_to-known cell fed name Stray keeps = tt

check_at-known : (cell : Cell) (name : List ℕ) (role : PinRole) → KeepsCellLimits cell → IfKnown IsCheckInLimit (check_at cell name role)
check_at-known cell name Data keeps = check_of-known name cell.checks keeps.checks
check_at-known cell name Input keeps = tt
check_at-known cell name Output keeps = tt
check_at-known cell name Clock keeps = tt
check_at-known cell name Launch keeps = tt
check_at-known cell name InPort keeps = tt
check_at-known cell name OutPort keeps = tt
check_at-known cell name Stray keeps = tt

use_of-timed : (cell : Cell) (arrival : Option Interval) (inst : ℕ) (fed : Option (List ℕ)) (pin : Pin) → KeepsCellLimits cell → IfKnown (IsSpan time_limit) arrival
    → IsTimed (use_of cell arrival inst fed pin)
use_of-timed cell arrival inst fed pin keeps known = record {
  delay = delay_to-known cell fed pin.name (role_in cell pin.name) keeps;
  check = check_at-known cell pin.name (role_in cell pin.name) keeps;
  arrival = known;
}

cell_uses-timed : (cell : Option Cell) (arrival : Option Interval) (inst : ℕ) (pins : List Pin) → IfKnown KeepsCellLimits cell → IfKnown (IsSpan time_limit) arrival
    → All IsTimed (cell_uses cell arrival inst pins)
cell_uses-timed None arrival inst pins keeps known = All-map IsTimed (stray_use inst) pins (λ pin. record { delay = tt; check = tt; arrival = tt })
cell_uses-timed (Some cell) arrival inst pins keeps known =
    All-map IsTimed (use_of cell arrival inst (fed_name cell pins)) pins (λ pin. use_of-timed cell arrival inst (fed_name cell pins) pin keeps known)

inst_uses-timed : (timing : Timing) (inst : ℕ) (i : Inst) → KeepsLimits timing → All IsTimed (inst_uses timing inst i)
inst_uses-timed timing inst i keeps =
    cell_uses-timed (cell_named i.kind timing.cells) (clock_arrival timing i.name) inst i.pins (cell_named-known i.kind timing.cells keeps.cells)
    (clock_arrival-known timing i.name keeps)

insts_uses-timed : (timing : Timing) (inst : ℕ) (insts : List Inst) → KeepsLimits timing → All IsTimed (insts_uses timing inst insts)
insts_uses-timed timing inst [] keeps = All-nil IsTimed
insts_uses-timed timing inst (i ∷ is) keeps =
    All-append IsTimed (inst_uses timing inst i) (insts_uses timing (inst + 1) is) (inst_uses-timed timing inst i keeps) (insts_uses-timed timing (inst + 1) is keeps)

ports_uses-timed : (net : ℕ) (ports : List Port) → All IsTimed (ports_uses net ports)
ports_uses-timed net [] = All-nil IsTimed
ports_uses-timed net (port ∷ ports) =
    All-cons IsTimed (port_use net port) (ports_uses (net + 1) ports) (record { delay = tt; check = tt; arrival = tt }) (ports_uses-timed (net + 1) ports)

-- the times of all pins are within the limits
pub timed_uses : (timing : Timing) (d : Design) → KeepsLimits timing → All IsTimed (uses_of timing d)
timed_uses timing d keeps = All-append IsTimed (insts_uses timing 0 d.insts) (ports_uses 0 d.ports) (insts_uses-timed timing 0 d.insts keeps) (ports_uses-timed 0 d.ports)
