-- is_empty source: whether nothing is connected.
-- is_of_sort sort t pin: whether the connection, of an instance of the type, is of that sort.
-- sort_pin sort t p pin: pin p, if the connection is of that sort; else none.
-- sort_pins sort t p pins: the connections of that sort, in order, where the first of all is pin p.
-- register_pins sort t p pins: the same of a register; none of another instance.
use Rattle.std.specs.Prelude.{ℕ, List, [], ◌∷◌, Bool, true, false, not, ◌&&◌, if◌then◌else◌}
use Rattle.hold_base.specs.declared.number.PinNo.{PinNo}
use Rattle.hold_netlist.specs.declared.inst.Pin.{Pin}
use Rattle.hold_netlist.specs.declared.inst.Source.{Source}
use Rattle.hold_netlist.specs.declared.inst.Source.TheVariants.{Net, Zero, One, Empty}
use Rattle.hold_roles.specs.declared.role.CellType.{CellType}
use Rattle.hold_roles.specs.declared.role.Role.{Role}
use Rattle.hold_roles.specs.declared.role.Role.TheVariants.{Comb, Register, Opaque}
use Rattle.hold_roles.specs.TypePins.{is_output_pin}
use Rattle.hold_build.specs.declared.sort.Sort.{Sort}
use Rattle.hold_build.specs.declared.sort.Sort.TheVariants.{Clock, Data, Output, Tied}
use Rattle.hold_build.specs.Pins.{is_clock_pin, is_data_pin}
use Rattle.hold_build.specs.inner.Insts.{over_pins}

abbrev pub is_empty : Source → Bool
is_empty (Net n) = false
is_empty Zero = false
is_empty One = false
is_empty Empty = true

abbrev pub is_of_sort : Sort → CellType → Pin → Bool
is_of_sort Clock t pin = is_clock_pin t pin.name
is_of_sort Data t pin = is_data_pin t pin.name
is_of_sort Output t pin = is_output_pin t pin.name
is_of_sort Tied t pin = is_data_pin t pin.name && not (is_empty pin.source)

abbrev pub sort_pin : Sort → CellType → ℕ → Pin → List PinNo
sort_pin sort t p pin = if is_of_sort sort t pin then record { 0 = p } ∷ [] else []

abbrev pub sort_pins : Sort → CellType → ℕ → List Pin → List PinNo
sort_pins sort t p pins = over_pins (sort_pin sort t) p pins

abbrev pub role_pins : Role → Sort → CellType → ℕ → List Pin → List PinNo
role_pins Register sort t p pins = sort_pins sort t p pins
role_pins Comb sort t p pins = []
role_pins Opaque sort t p pins = []

abbrev pub register_pins : Sort → CellType → ℕ → List Pin → List PinNo
register_pins sort t p pins = role_pins t.role sort t p pins
