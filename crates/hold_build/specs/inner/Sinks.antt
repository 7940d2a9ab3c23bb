-- Sinks: pins that have their value from a net bit, each with that net bit.
--
-- net_sink p source: pin p with the source's net bit; none where it is tied to a constant or to nothing.
-- pin_sink t p pin: the same of a connection that is an input-side pin of the type; else none.
-- pin_sinks t p pins: those of connections, in order, the first of which is pin p.
-- bit_sink p n: pin p + n, a bit of a port, with net bit n.
-- direction_sinks direction p n width: those of the bits of a port of that direction and width, the first of which is net bit n.
-- port_sinks p n ports wires: those of the bits of ports, in order, whose wires these are; the first bit is net bit n, and the first
--   bit of all ports is pin p.
-- sinks types d: all of a netlist, in the order of pins.
use Rattle.std.specs.Prelude.{ℕ, ◌+◌, List, [], ◌∷◌, ◌++◌, map, if◌then◌else◌}
use Rattle.std.specs.List.{range_with_len}
use Rattle.hold_netlist.specs.declared.inst.Pin.{Pin}
use Rattle.hold_netlist.specs.declared.inst.Source.{Source}
use Rattle.hold_netlist.specs.declared.inst.Source.TheVariants.{Net, Zero, One, Empty}
use Rattle.hold_netlist.specs.declared.wire.Direction.{Direction}
use Rattle.hold_netlist.specs.declared.wire.Direction.TheVariants.{Input, Output}
use Rattle.hold_netlist.specs.declared.wire.Port.{Port}
use Rattle.hold_netlist.specs.declared.wire.Wire.{Wire}
use Rattle.hold_netlist.specs.Bits.{width_of}
use Rattle.hold_netlist.specs.Design.{Design}
use Rattle.hold_netlist.specs.Pins.{connection_count}
use Rattle.hold_roles.specs.declared.role.CellType.{CellType}
use Rattle.hold_roles.specs.TypePins.{is_input_pin}
use Rattle.hold_build.specs.declared.sinks.Sink.{Sink}
use Rattle.hold_build.specs.inner.Insts.{over_insts, over_pins}

abbrev pub net_sink : ℕ → Source → List Sink
net_sink p (Net n) = record { pin = record { 0 = p }; net = n } ∷ []
net_sink p Zero = []
net_sink p One = []
net_sink p Empty = []

abbrev pub pin_sink : CellType → ℕ → Pin → List Sink
pin_sink t p pin = if is_input_pin t pin.name then net_sink p pin.source else []

abbrev pub pin_sinks : CellType → ℕ → List Pin → List Sink
pin_sinks t p pins = over_pins (pin_sink t) p pins

abbrev pub bit_sink : ℕ → ℕ → Sink
bit_sink p n = record { pin = record { 0 = p + n }; net = record { 0 = n } }

abbrev pub direction_sinks : Direction → ℕ → ℕ → ℕ → List Sink
direction_sinks Output p n width = map (bit_sink p) (range_with_len n width)
direction_sinks Input p n width = []

abbrev pub port_sinks : ℕ → ℕ → List Port → List Wire → List Sink
port_sinks p n [] wires = []
port_sinks p n (port ∷ ports) [] = []
port_sinks p n (port ∷ ports) (w ∷ ws) = direction_sinks port.direction p n (width_of w) ++ port_sinks p (n + width_of w) ports ws

abbrev pub sinks : List CellType → Design → List Sink
sinks types d = over_insts pin_sinks types 0 d.insts ++ port_sinks (connection_count d.insts) 0 d.ports d.wires
