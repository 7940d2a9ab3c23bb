-- passed_limit d: what a netlist has too many of to be bound, the first of net bits, instances and pins. None where each count is
--   within its limit.
-- first_unknown types insts: the type of the first instance whose type isn't among these. None where each is.
-- is_bad_pin t pin: whether the type has no pin of the connection's name, or it is an output that is tied to a constant.
-- first_bad_in t inst pins: the fault that names the first such connection of these, of the instance of that name; None where
--   there is none. bad_in t i: the same of an instance, where its type is known; else None.
-- first_bad_pin types insts: the same of the first instance that has one.
-- plain_fault types d: what a netlist is refused for before its drivers are looked at: a passed limit, else an unknown type, else
--   a bad pin. None where there is none of these.
-- HasNone P: P holds of no number. IsFirst P n: P holds of n, and of no number below it.
-- IsFirstDouble types d name: no plain fault is there, and the first net bit with two drivers has that name.
-- IsFirstRing types d name: no such fault is there either, and the first net bit on a ring has that name.
-- IsFirstFault types d fault: the one fault that a netlist is refused for: a plain one, else the first net bit with two drivers,
--   else the first net bit on a ring.
-- IsSound types d: nothing of the netlist is at fault.
use Rattle.std.specs.Prelude.{◌≡◌, ℕ, ◌<◌, List, [], ◌∷◌, length, Option, Some, None, Bool, not, ◌&&◌, ◌||◌, is_none, nat_lt, if◌then◌else◌}
use Rattle.std.specs.Option.{option_map, option_or}
use Rattle.hold_base.specs.Limits.{bound_bits_limit, bound_insts_limit, bound_pins_limit}
use Rattle.hold_base.specs.declared.stop.What.{What}
use Rattle.hold_base.specs.declared.stop.What.TheVariants.{Bits, Instances, Pins}
use Rattle.hold_netlist.specs.declared.inst.Pin.{Pin}
use Rattle.hold_netlist.specs.declared.inst.Inst.{Inst}
use Rattle.hold_netlist.specs.Bits.{bits_of}
use Rattle.hold_netlist.specs.Design.{Design}
use Rattle.hold_netlist.specs.PinText.{bit_name}
use Rattle.hold_netlist.specs.Pins.{pins_of}
use Rattle.hold_roles.specs.declared.role.CellType.{CellType}
use Rattle.hold_roles.specs.declared.fault.RoleFault.{RoleFault}
use Rattle.hold_roles.specs.declared.fault.RoleFault.TheVariants.{Limit, NoRole, BadPin, DoubleDriver, AssignRing}
use Rattle.hold_roles.specs.Types.{type_named}
use Rattle.hold_roles.specs.TypePins.{is_input_pin, is_output_pin, is_constant}
use Rattle.hold_roles.specs.Drivers.{drivers, IsDoubleDriven}
use Rattle.hold_roles.specs.Roots.{IsRing}

abbrev pub passed_limit : Design → Option What
passed_limit d = if nat_lt bound_bits_limit (bits_of d.wires) then Some Bits else if nat_lt bound_insts_limit (length d.insts) then Some Instances else if nat_lt bound_pins_limit (pins_of d) then Some Pins else None

abbrev pub first_unknown : List CellType → List Inst → Option (List ℕ)
first_unknown types [] = None
first_unknown types (i ∷ is) = if is_none (type_named i.kind types) then Some i.kind else first_unknown types is

abbrev pub is_bad_pin : CellType → Pin → Bool
is_bad_pin t pin = not (is_input_pin t pin.name || is_output_pin t pin.name) || (is_output_pin t pin.name && is_constant pin.source)

abbrev pub first_bad_in : CellType → List ℕ → List Pin → Option RoleFault
first_bad_in t inst [] = None
first_bad_in t inst (pin ∷ pins) = if is_bad_pin t pin then Some (BadPin inst pin.name) else first_bad_in t inst pins

abbrev pub bad_in : Option CellType → Inst → Option RoleFault
bad_in None i = None
bad_in (Some t) i = first_bad_in t i.name i.pins

abbrev pub first_bad_pin : List CellType → List Inst → Option RoleFault
first_bad_pin types [] = None
first_bad_pin types (i ∷ is) = option_or (bad_in (type_named i.kind types) i) (first_bad_pin types is)

abbrev pub plain_fault : List CellType → Design → Option RoleFault
plain_fault types d = option_or (option_map Limit (passed_limit d)) (option_or (option_map NoRole (first_unknown types d.insts)) (first_bad_pin types d.insts))

abbrev pub HasNone : (ℕ → Type 0) → Type 0
HasNone P = (n : ℕ) → P n → ⊥

pub record IsFirst (P : ℕ → Type 0) (n : ℕ) : Type 0 where
  pub holds : P n
  pub none_before : (m : ℕ) → m < n → P m → ⊥

pub record IsFirstDouble (types : List CellType) (d : Design) (name : List ℕ) : Type 0 where
  pub plain : plain_fault types d ≡ None
  pub bit : ℕ
  pub first : IsFirst (IsDoubleDriven (drivers types d)) bit
  pub named : name ≡ bit_name d.wires bit

pub record IsFirstRing (types : List CellType) (d : Design) (name : List ℕ) : Type 0 where
  pub plain : plain_fault types d ≡ None
  pub no_double : HasNone (IsDoubleDriven (drivers types d))
  pub bit : ℕ
  pub first : IsFirst (IsRing (drivers types d)) bit
  pub named : name ≡ bit_name d.wires bit

abbrev pub IsFirstFault : List CellType → Design → RoleFault → Type 0
IsFirstFault types d (Limit what) = plain_fault types d ≡ Some (Limit what)
IsFirstFault types d (NoRole kind) = plain_fault types d ≡ Some (NoRole kind)
IsFirstFault types d (BadPin inst pin) = plain_fault types d ≡ Some (BadPin inst pin)
IsFirstFault types d (DoubleDriver name) = IsFirstDouble types d name
IsFirstFault types d (AssignRing name) = IsFirstRing types d name

pub record IsSound (types : List CellType) (d : Design) : Type 0 where
  pub plain : plain_fault types d ≡ None
  pub no_double : HasNone (IsDoubleDriven (drivers types d))
  pub no_ring : HasNone (IsRing (drivers types d))
