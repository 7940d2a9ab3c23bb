-- What the names in SDF entries name in a bound netlist.
--
-- IsNamedPin insts inst pin p: pin p is the connection of that name of the instance of that name.
-- IsBitOfPort d w bit net: the net bit is the one that is `bit` from the left bound of the port whose wire is w.
-- IsWholePort d text net: the text is the name of a port of one bit, which the net bit is.
-- IsIndexedBit d text net: the text is how a bit of a port is said, which the net bit is: the port's name and, for a vector, the
--   index of the bit in brackets, without leading zeros.
-- NamesBit d text net: the text names that bit of a port: whole, or else by its index. So the one bit of a vector of width one may be
--   named both ways, and a port that is called as another one's bit goes before it.
-- IsPathTo d path p: the path names pin p: a connection of an instance, or, without an instance, the bit of a port.
-- HasPin b inst pin: the type of the instance of that name has a pin of that name, whether or not the instance has it written.
-- HasPath b path: the path names a pin of the instance's type, or, without an instance, a bit of a port.
use Rattle.std.specs.Prelude.{◌≡◌, ℕ, ◌+◌, ◌<◌, List, length, Option, Some, None, slice_get, Contains}
use Rattle.hold_base.specs.declared.number.NetNo.{NetNo}
use Rattle.hold_base.specs.declared.number.PinNo.{PinNo}
use Rattle.hold_job.specs.Rules.{pins_of}
use Rattle.hold_netlist.specs.declared.inst.Inst.{Inst}
use Rattle.hold_netlist.specs.declared.inst.Pin.{Pin}
use Rattle.hold_netlist.specs.declared.wire.Wire.{Wire}
use Rattle.hold_netlist.specs.Bits.{width_of, IsNetBit}
use Rattle.hold_netlist.specs.Design.{Design}
use Rattle.hold_netlist.specs.PinText.{wire_bit_name}
use Rattle.hold_netlist.specs.Pins.{connection_count, IsConnection}
use Rattle.hold_roles.specs.declared.role.CellType.{CellType}
use Rattle.hold_roles.specs.Binding.{Binding}
use Rattle.hold_roles.specs.Types.{type_named}
use Rattle.hold_sdf.specs.declared.entry.PinPath.{PinPath}
use Rattle.hold_told.specs.Else.{OrElse}

pub record IsNamedPin (insts : List Inst) (inst pin : List ℕ) (p : PinNo) : Type 0 where
  pub place : ℕ
  pub i : Inst
  pub is_inst : slice_get insts place ≡ Some i
  pub inst_named : i.name ≡ inst
  pub at : ℕ
  pub connection : Pin
  pub is_pin : slice_get i.pins at ≡ Some connection
  pub pin_named : connection.name ≡ pin
  pub numbered : IsConnection insts p.0 place at

pub record IsBitOfPort (d : Design) (w : Wire) (bit : ℕ) (net : NetNo) : Type 0 where
  pub place : ℕ
  pub of_port : place < length d.ports
  pub is_wire : slice_get d.wires place ≡ Some w
  pub is_bit : IsNetBit d.wires net.0 place bit

pub record IsWholePort (d : Design) (text : List ℕ) (net : NetNo) : Type 0 where
  pub wire : Wire
  pub bit : ℕ
  pub of_port : IsBitOfPort d wire bit net
  pub only : width_of wire ≡ 1
  pub named : wire.name ≡ text

pub record IsIndexedBit (d : Design) (text : List ℕ) (net : NetNo) : Type 0 where
  pub wire : Wire
  pub bit : ℕ
  pub of_port : IsBitOfPort d wire bit net
  pub said : wire_bit_name wire bit ≡ text

abbrev pub NamesBit : Design → List ℕ → NetNo → Type 0
NamesBit d text = OrElse (IsWholePort d text) (IsIndexedBit d text)

pub record IsPortPath (d : Design) (text : List ℕ) (p : PinNo) : Type 0 where
  pub net : NetNo
  pub names : NamesBit d text net
  pub number : p.0 ≡ connection_count d.insts + net.0

abbrev pub IsPathIn : Design → Option (List ℕ) → List ℕ → PinNo → Type 0
IsPathIn d None pin p = IsPortPath d pin p
IsPathIn d (Some inst) pin p = IsNamedPin d.insts inst pin p

abbrev pub IsPathTo : Design → PinPath → PinNo → Type 0
IsPathTo d path p = IsPathIn d path.inst path.pin p

pub record HasPin (b : Binding) (inst pin : List ℕ) : Type 0 where
  pub i : Inst
  pub listed : Contains b.netlist.insts i
  pub named : i.name ≡ inst
  pub t : CellType
  pub typed : type_named i.kind b.types ≡ Some t
  pub has : Contains (pins_of t) pin

pub record HasPortBit (d : Design) (text : List ℕ) : Type 0 where
  pub net : NetNo
  pub names : NamesBit d text net

abbrev pub HasPathIn : Binding → Option (List ℕ) → List ℕ → Type 0
HasPathIn b None pin = HasPortBit b.netlist pin
HasPathIn b (Some inst) pin = HasPin b inst pin

abbrev pub HasPath : Binding → PinPath → Type 0
HasPath b path = HasPathIn b path.inst path.pin
