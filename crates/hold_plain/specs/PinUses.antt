-- is_tied source: whether the source is a net or a constant.
-- is_input role: whether the role is that of an input of a combinational instance.
-- is_fed cell pin: whether the connection is an input of a combinational instance that is tied to a net or to a constant.
-- fed_name cell pins: the name of the first such connection, none where there is none.
-- arc_from from cell name: the delay of the cell from that pin to the one of that name; none where no first pin is given, or the
--   cell has no such arc.
-- delay_to cell fed name role: at an output of a combinational instance the delay from its first connected input, at an output of
--   a register the delay from its clock; none where no input is connected, where the cell has no such arc, and at every other pin.
-- check_at cell name role: the check of a data pin; none where the cell has none for it, and at every other pin.
-- use_of cell arrival inst fed pin: what a connection of the instance of that number is. stray_use: the same, where no cell is known.
-- cell_uses cell arrival inst pins: what these connections are, in order, where the cell may be known.
-- inst_uses timing inst i: what the connections of an instance are, in order. insts_uses: those of the instances, of which the first
--   has that number.
-- port_role direction: what a port of that direction is.
-- port_use net port: what the bit of a scalar port is. ports_uses: those of the ports, of which the first has that number.
-- uses_of timing d: what each pin of the netlist is: the connections in the order of instances, then the ports. The wires are scalar,
--   so a port is its one bit, and its net has the port's number.
use Rattle.std.specs.Prelude.{ℕ, ◌+◌, List, [], ◌∷◌, ◌++◌, map, Option, Some, None, Bool, true, false, ◌&&◌, if◌then◌else◌}
use Rattle.hold_base.specs.declared.time.Interval.{Interval}
use Rattle.hold_netlist.specs.declared.inst.Source.{Source}
use Rattle.hold_netlist.specs.declared.inst.Source.TheVariants.{Net, Zero, One, Empty}
use Rattle.hold_netlist.specs.declared.inst.Pin.{Pin}
use Rattle.hold_netlist.specs.declared.inst.Inst.{Inst}
use Rattle.hold_netlist.specs.declared.wire.Port.{Port}
use Rattle.hold_netlist.specs.declared.wire.Direction.{Direction}
use Rattle.hold_netlist.specs.declared.wire.Direction.TheVariants.{Input as InputPort, Output as OutputPort}
use Rattle.hold_netlist.specs.Design.{Design}
use Rattle.hold_plain.specs.declared.cell.Cell.{Cell}
use Rattle.hold_plain.specs.declared.cell.Check.{Check}
use Rattle.hold_plain.specs.declared.timing.Timing.{Timing}
use Rattle.hold_plain.specs.declared.pin_use.PinUse.{PinUse}
use Rattle.hold_plain.specs.declared.pin_use.PinRole.{PinRole}
use Rattle.hold_plain.specs.declared.pin_use.PinRole.TheVariants.{Input, Output, Clock, Data, Launch, InPort, OutPort, Stray}
use Rattle.hold_plain.specs.Cells.{cell_named, arc_span, check_of, clock_arrival, role_in}

abbrev pub is_tied : Source → Bool
is_tied (Net n) = true
is_tied Zero = true
is_tied One = true
is_tied Empty = false

abbrev pub is_input : PinRole → Bool
is_input Input = true
is_input Output = false
is_input Clock = false
is_input Data = false
is_input Launch = false
is_input InPort = false
is_input OutPort = false
is_input Stray = false

abbrev pub is_fed : Cell → Pin → Bool
is_fed cell pin = is_input (role_in cell pin.name) && is_tied pin.source

abbrev pub fed_name : Cell → List Pin → Option (List ℕ)
fed_name cell [] = None
fed_name cell (pin ∷ pins) = if is_fed cell pin then Some pin.name else fed_name cell pins

abbrev pub arc_from : Option (List ℕ) → Cell → List ℕ → Option Interval
arc_from None cell name = None
arc_from (Some from) cell name = arc_span from name cell.arcs

abbrev pub delay_to : Cell → Option (List ℕ) → List ℕ → PinRole → Option Interval
delay_to cell fed name Output = arc_from fed cell name
delay_to cell fed name Launch = arc_from cell.clock cell name
delay_to cell fed name Input = None
delay_to cell fed name Clock = None
delay_to cell fed name Data = None
delay_to cell fed name InPort = None
delay_to cell fed name OutPort = None
delay_to cell fed name Stray = None

abbrev pub check_at : Cell → List ℕ → PinRole → Option Check
check_at cell name Data = check_of name cell.checks
check_at cell name Input = None
check_at cell name Output = None
check_at cell name Clock = None
check_at cell name Launch = None
check_at cell name InPort = None
check_at cell name OutPort = None
check_at cell name Stray = None

abbrev pub use_of : Cell → Option Interval → ℕ → Option (List ℕ) → Pin → PinUse
use_of cell arrival inst fed pin = record {
  role = role_in cell pin.name;
  inst = inst;
  source = pin.source;
  delay = delay_to cell fed pin.name (role_in cell pin.name);
  check = check_at cell pin.name (role_in cell pin.name);
  arrival = arrival;
}

abbrev pub stray_use : ℕ → Pin → PinUse
stray_use inst pin = record { role = Stray; inst = inst; source = pin.source; delay = None; check = None; arrival = None }

abbrev pub cell_uses : Option Cell → Option Interval → ℕ → List Pin → List PinUse
cell_uses None arrival inst pins = map (stray_use inst) pins
cell_uses (Some cell) arrival inst pins = map (use_of cell arrival inst (fed_name cell pins)) pins

abbrev pub inst_uses : Timing → ℕ → Inst → List PinUse
inst_uses timing inst i = cell_uses (cell_named i.kind timing.cells) (clock_arrival timing i.name) inst i.pins

abbrev pub port_role : Direction → PinRole
port_role InputPort = InPort
port_role OutputPort = OutPort

abbrev pub port_use : ℕ → Port → PinUse
port_use net port = record {
  role = port_role port.direction;
  inst = 0;
  source = Net (record { 0 = net });
  delay = None;
  check = None;
  arrival = None;
}

abbrev pub insts_uses : Timing → ℕ → List Inst → List PinUse
insts_uses timing inst [] = []
insts_uses timing inst (i ∷ is) = inst_uses timing inst i ++ insts_uses timing (inst + 1) is

abbrev pub ports_uses : ℕ → List Port → List PinUse
ports_uses net [] = []
ports_uses net (port ∷ ports) = port_use net port ∷ ports_uses (net + 1) ports

abbrev pub uses_of : Timing → Design → List PinUse
uses_of timing d = insts_uses timing 0 d.insts ++ ports_uses 0 d.ports
