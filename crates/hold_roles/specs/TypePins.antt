-- is_clock clock name: whether the name is that of the clock pin; never so where there is none.
-- is_input_pin t name: whether the type has an input-side pin of that name: an input or data pin, the clock pin or a quiet pin.
-- is_output_pin t name: whether it has an output of that name.
-- is_constant source: whether the source is a constant.
use Rattle.std.specs.Prelude.{ℕ, List, Option, Some, None, Bool, true, false, ◌||◌, bytes_eq}
use Rattle.hold_netlist.specs.declared.inst.Source.{Source}
use Rattle.hold_netlist.specs.declared.inst.Source.TheVariants.{Net, Zero, One, Empty}
use Rattle.hold_netlist.specs.Names.{is_among}
use Rattle.hold_roles.specs.declared.role.CellType.{CellType}

abbrev pub is_clock : Option (List ℕ) → List ℕ → Bool
is_clock None name = false
is_clock (Some clock) name = bytes_eq name clock

abbrev pub is_input_pin : CellType → List ℕ → Bool
is_input_pin t name = is_among name t.inputs || (is_clock t.clock name || is_among name t.quiet)

abbrev pub is_output_pin : CellType → List ℕ → Bool
is_output_pin t name = is_among name t.outputs

abbrev pub is_constant : Source → Bool
is_constant (Net n) = false
is_constant Zero = true
is_constant One = true
is_constant Empty = false
