-- What drives the net bits of a netlist. A drive is the number of a net bit and what drives it.
--
-- Driver: what drives a net bit: a pin, another net bit by an assignment, or a constant by an assignment.
-- net_drive source driver: that driver's drive, where the source is a net bit; else none.
-- pin_drive t p pin: the drive of pin p, a connection of an instance of the type: an output drives the net bit that it is
--   connected to. pin_drives: those of connections, in order, the first of which is pin p.
-- cell_drives t p pins: the same, where the type is known; else none.
-- inst_drives types p insts: those of the connections of instances, in order, the first of which is pin p.
-- bit_drive p n: that pin p + n, a bit of a port, drives net bit n. An input port's bits drive their net bits.
-- direction_drives direction p n width: those of the bits of a port of that direction and width, the first of which is net bit n.
-- port_drives p n ports wires: those of the bits of ports, in order, whose wires these are; the first bit is net bit n, and the
--   first bit of all ports is pin p.
-- source_drive left source: that an assignment of that source drives net bit `left`. assign_drive a: the same of an assignment.
-- drives types d: all drives of a netlist whose instances are of these types: those of pins, in their order, and then those of
--   assignments.
-- drivers_on n drives: what drives net bit n, by these drives.
-- drivers types d n: what drives net bit n of a netlist.
-- IsDoubleDriven drivers n: net bit n has two drivers or more.
use Rattle.std.specs.Prelude.{ℕ, ◌+◌, ◌<◌, ◌==◌, List, [], ◌∷◌, ◌++◌, length, map, flat_map, Option, Some, None, if◌then◌else◌}
use Rattle.std.specs.List.{range_with_len}
use Rattle.hold_netlist.specs.declared.inst.Source.{Source}
use Rattle.hold_netlist.specs.declared.inst.Source.TheVariants.{Net, Zero, One, Empty}
use Rattle.hold_netlist.specs.declared.inst.Pin.{Pin}
use Rattle.hold_netlist.specs.declared.inst.Inst.{Inst}
use Rattle.hold_netlist.specs.declared.inst.Assign.{Assign}
use Rattle.hold_netlist.specs.declared.wire.Direction.{Direction}
use Rattle.hold_netlist.specs.declared.wire.Direction.TheVariants.{Input, Output}
use Rattle.hold_netlist.specs.declared.wire.Port.{Port}
use Rattle.hold_netlist.specs.declared.wire.Wire.{Wire}
use Rattle.hold_netlist.specs.Bits.{width_of}
use Rattle.hold_netlist.specs.Design.{Design}
use Rattle.hold_netlist.specs.Pins.{connection_count}
use Rattle.hold_roles.specs.declared.role.CellType.{CellType}
use Rattle.hold_roles.specs.declared.drivers.Driver.{Driver}
use Rattle.hold_roles.specs.declared.drivers.Driver.TheVariants.{Pin as ByPin, Net as ByNet, Zero as ByZero, One as ByOne}
use Rattle.hold_roles.specs.Types.{type_named}
use Rattle.hold_roles.specs.TypePins.{is_output_pin}

abbrev pub net_drive : Source → Driver → List (ℕ × Driver)
net_drive (Net n) driver = (n.0, driver) ∷ []
net_drive Zero driver = []
net_drive One driver = []
net_drive Empty driver = []

abbrev pub pin_drive : CellType → ℕ → Pin → List (ℕ × Driver)
pin_drive t p pin = if is_output_pin t pin.name then net_drive pin.source (ByPin (record { 0 = p })) else []

abbrev pub pin_drives : CellType → ℕ → List Pin → List (ℕ × Driver)
pin_drives t p [] = []
pin_drives t p (pin ∷ pins) = pin_drive t p pin ++ pin_drives t (p + 1) pins

abbrev pub cell_drives : Option CellType → ℕ → List Pin → List (ℕ × Driver)
cell_drives None p pins = []
cell_drives (Some t) p pins = pin_drives t p pins

abbrev pub inst_drives : List CellType → ℕ → List Inst → List (ℕ × Driver)
inst_drives types p [] = []
inst_drives types p (i ∷ is) = cell_drives (type_named i.kind types) p i.pins ++ inst_drives types (p + length i.pins) is

abbrev pub bit_drive : ℕ → ℕ → ℕ × Driver
bit_drive p n = (n, ByPin (record { 0 = p + n }))

abbrev pub direction_drives : Direction → ℕ → ℕ → ℕ → List (ℕ × Driver)
direction_drives Input p n width = map (bit_drive p) (range_with_len n width)
direction_drives Output p n width = []

abbrev pub port_drives : ℕ → ℕ → List Port → List Wire → List (ℕ × Driver)
port_drives p n [] wires = []
port_drives p n (port ∷ ports) [] = []
port_drives p n (port ∷ ports) (w ∷ ws) = direction_drives port.direction p n (width_of w) ++ port_drives p (n + width_of w) ports ws

abbrev pub source_drive : ℕ → Source → List (ℕ × Driver)
source_drive left (Net n) = (left, ByNet n) ∷ []
source_drive left Zero = (left, ByZero) ∷ []
source_drive left One = (left, ByOne) ∷ []
source_drive left Empty = []

abbrev pub assign_drive : Assign → List (ℕ × Driver)
assign_drive a = source_drive a.left.0 a.right

abbrev pub drives : List CellType → Design → List (ℕ × Driver)
drives types d = inst_drives types 0 d.insts ++ (port_drives (connection_count d.insts) 0 d.ports d.wires ++ flat_map assign_drive d.assigns)

abbrev pub drivers_on : ℕ → List (ℕ × Driver) → List Driver
drivers_on n [] = []
drivers_on n (x ∷ xs) = if n == x.0 then x.1 ∷ drivers_on n xs else drivers_on n xs

abbrev pub drivers : List CellType → Design → ℕ → List Driver
drivers types d n = drivers_on n (drives types d)

abbrev pub IsDoubleDriven : (ℕ → List Driver) → ℕ → Type 0
IsDoubleDriven drivers n = 1 < length (drivers n)
