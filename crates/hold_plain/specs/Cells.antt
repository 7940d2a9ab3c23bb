-- cell_named name cells: the first cell of that name, none where no cell has it.
-- arc_span from to arcs: the span of the first arc from the one pin to the other, none where there is no such arc.
-- check_of pin checks: the first check of that pin, none where it has none.
-- arrival_in inst clocks: the arrival of the first entry of that instance, none where it has no entry.
-- or_else a other: what a holds, else what the other holds.
-- clock_arrival timing inst: when the clock arrives at an instance of that name: its own entry, else the common arrival; none
--   where there is neither.
-- is_clock clock name: whether the name is that of the clock pin; never so where there is none.
-- role_in cell name: what a connection of that name is at an instance of the cell. Stray where the cell has no such pin. A pin that
--   stands in two lists of the cell has the first of clock, input or data, output.
-- role_as role cell name: the same, where the cell has that role.
use Rattle.std.specs.Prelude.{ℕ, List, [], ◌∷◌, Option, Some, None, Bool, false, ◌&&◌, if◌then◌else◌, bytes_eq}
use Rattle.hold_base.specs.declared.time.Interval.{Interval}
use Rattle.hold_netlist.specs.Names.{is_among}
use Rattle.hold_plain.specs.declared.cell.Cell.{Cell}
use Rattle.hold_plain.specs.declared.cell.CellArc.{CellArc}
use Rattle.hold_plain.specs.declared.cell.CellCheck.{CellCheck}
use Rattle.hold_plain.specs.declared.cell.Check.{Check}
use Rattle.hold_plain.specs.declared.cell.Role.{Role}
use Rattle.hold_plain.specs.declared.cell.Role.TheVariants.{Comb, Register}
use Rattle.hold_plain.specs.declared.timing.Clock.{Clock as ClockEntry}
use Rattle.hold_plain.specs.declared.timing.Timing.{Timing}
use Rattle.hold_plain.specs.declared.pin_use.PinRole.{PinRole}
use Rattle.hold_plain.specs.declared.pin_use.PinRole.TheVariants.{Input, Output, Clock, Data, Launch, Stray}

abbrev pub cell_named : List ℕ → List Cell → Option Cell
cell_named name [] = None
cell_named name (cell ∷ cells) = if bytes_eq name cell.name then Some cell else cell_named name cells

abbrev pub arc_span : List ℕ → List ℕ → List CellArc → Option Interval
arc_span from to [] = None
arc_span from to (arc ∷ arcs) = if bytes_eq from arc.from && bytes_eq to arc.to then Some arc.span else arc_span from to arcs

abbrev pub check_of : List ℕ → List CellCheck → Option Check
check_of pin [] = None
check_of pin (entry ∷ entries) = if bytes_eq pin entry.pin then Some entry.check else check_of pin entries

abbrev pub arrival_in : List ℕ → List ClockEntry → Option Interval
arrival_in inst [] = None
arrival_in inst (entry ∷ entries) = if bytes_eq inst entry.inst then Some entry.arrival else arrival_in inst entries

abbrev pub or_else : {A : Type 0} → Option A → Option A → Option A
or_else (Some a) other = Some a
or_else None other = other

abbrev pub clock_arrival : Timing → List ℕ → Option Interval
clock_arrival timing inst = or_else (arrival_in inst timing.clocks) timing.arrival

abbrev pub is_clock : Option (List ℕ) → List ℕ → Bool
is_clock None name = false
is_clock (Some clock) name = bytes_eq name clock

abbrev pub role_as : Role → Cell → List ℕ → PinRole
role_as Comb cell name = if is_among name cell.inputs then Input else if is_among name cell.outputs then Output else Stray
role_as Register cell name =
    if is_clock cell.clock name then Clock else if is_among name cell.inputs then Data else if is_among name cell.outputs then Launch else Stray

abbrev pub role_in : Cell → List ℕ → PinRole
role_in cell name = role_as cell.role cell name
