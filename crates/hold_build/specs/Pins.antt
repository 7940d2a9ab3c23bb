-- What the pins of a bound netlist are. They are numbered as the netlist numbers them: the connections in the order of instances,
-- one that is written empty too, and then the bits of the ports.
--
-- IsPinOf b p inst t pin: pin p is the connection `pin` of instance `inst`, counted from 0, and the instance's type is t.
-- IsPortPin d p direction net: pin p is a bit of a port of that direction, and `net` is the net bit that it is. The bits of the ports are
--   the first net bits, so they stand in one order as pins and as net bits.
-- IsInputOn b p net: pin p is an input-side pin of an instance, an input or data pin, a clock pin or a quiet pin, that is connected to
--   that net bit.
-- Reads b p net: pin p has its value from that net bit: it is such a pin, or the bit of an output port. What is tied to a constant or
--   written empty reads no net bit.
-- is_data_pin t name, is_clock_pin t name: whether the type has an input, or its clock pin, of that name. A register's inputs are its
--   data pins.
-- IsRegisterPin b sort p: pin p is a connection of a register that is of this sort, by the register's type and the connection's name.
use Rattle.std.specs.Prelude.{◌≡◌, ℕ, ◌+◌, List, Bool, IsTrue, Some, slice_get, ◌⊎◌}
use Rattle.hold_base.specs.declared.number.NetNo.{NetNo}
use Rattle.hold_base.specs.declared.number.PinNo.{PinNo}
use Rattle.hold_netlist.specs.declared.inst.Source.TheVariants.{Net}
use Rattle.hold_netlist.specs.declared.inst.Inst.{Inst}
use Rattle.hold_netlist.specs.declared.inst.Pin.{Pin}
use Rattle.hold_netlist.specs.declared.wire.Direction.{Direction}
use Rattle.hold_netlist.specs.declared.wire.Direction.TheVariants.{Output}
use Rattle.hold_netlist.specs.declared.wire.Port.{Port}
use Rattle.hold_netlist.specs.Bits.{IsNetBit}
use Rattle.hold_netlist.specs.Design.{Design}
use Rattle.hold_netlist.specs.Names.{is_among}
use Rattle.hold_netlist.specs.Pins.{connection_count, IsConnection}
use Rattle.hold_roles.specs.declared.role.CellType.{CellType}
use Rattle.hold_roles.specs.declared.role.Role.TheVariants.{Register}
use Rattle.hold_roles.specs.Binding.{Binding}
use Rattle.hold_roles.specs.TypePins.{is_clock, is_input_pin}
use Rattle.hold_roles.specs.Types.{type_named}

pub record IsPinOf (b : Binding) (p : PinNo) (inst : ℕ) (t : CellType) (pin : Pin) : Type 0 where
  pub place : ℕ
  pub numbered : IsConnection b.netlist.insts p.0 inst place
  pub i : Inst
  pub is_inst : slice_get b.netlist.insts inst ≡ Some i
  pub is_pin : slice_get i.pins place ≡ Some pin
  pub typed : type_named i.kind b.types ≡ Some t

pub record IsPortPin (d : Design) (p : PinNo) (direction : Direction) (net : NetNo) : Type 0 where
  pub place : ℕ
  pub port : Port
  pub is_port : slice_get d.ports place ≡ Some port
  pub directed : port.direction ≡ direction
  pub bit : ℕ
  pub is_bit : IsNetBit d.wires net.0 place bit
  pub number : p.0 ≡ connection_count d.insts + net.0

pub record IsInputOn (b : Binding) (p : PinNo) (net : NetNo) : Type 0 where
  pub inst : ℕ
  pub t : CellType
  pub pin : Pin
  pub pin_of : IsPinOf b p inst t pin
  pub input : IsTrue (is_input_pin t pin.name)
  pub on : pin.source ≡ Net net

abbrev pub Reads : Binding → PinNo → NetNo → Type 0
Reads b p net = IsInputOn b p net ⊎ IsPortPin b.netlist p Output net

abbrev pub is_data_pin : CellType → List ℕ → Bool
is_data_pin t name = is_among name t.inputs

abbrev pub is_clock_pin : CellType → List ℕ → Bool
is_clock_pin t name = is_clock t.clock name

pub record IsRegisterPin (b : Binding) (sort : CellType → List ℕ → Bool) (p : PinNo) : Type 0 where
  pub inst : ℕ
  pub t : CellType
  pub pin : Pin
  pub pin_of : IsPinOf b p inst t pin
  pub register : t.role ≡ Register
  pub named : IsTrue (sort t pin.name)
