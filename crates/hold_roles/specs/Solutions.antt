-- What the instances of a netlist compute, as equations. The values of a netlist are a bit for each net bit, by its number.
--
-- same_bit, same_bits: whether two bits, or two lists of bits, are the same.
-- has_row row kind output inputs: whether the row is of that output of that type, and fits these values of the type's inputs.
-- output_value rows kind output inputs: the value of the first row that fits; 0 where none does. The rows are an interpretation.
-- bit_at values n: the value of net bit n; 0 past the last.
-- source_value values source: what is read from a source: its net bit's value or its constant, and 0 where it is Empty.
-- pin_value values pins name: what the pin of that name reads, by an instance's connections; 0 where it isn't written.
-- input_values values t pins: what the inputs of an instance of the type read, in the type's order.
-- HasValue values source value: where the source is a net bit, it has that value.
-- FollowsRows rows values t pins pin: where the connection is an output of the type and on a net bit, the net bit has the output's value
--   under what the instance's inputs read.
-- IsCellSolved role rows values t pins: so it is of each connection, where the role is comb. Nothing is asked of the outputs of others.
--   IsTypeSolved, IsInstSolved: the same of a type, where it is known, and of an instance.
-- IsAssignSolved values a: an assignment's left side has the value of its right one.
-- IsSolution types rows d values: the values are a solution of the netlist: one for each net bit, and each assignment and each instance
--   is solved. Net bits that nothing of this speaks of are free: outputs of registers and of opaque types, input ports, undriven ones.
-- Worked examples, in proofs/Examples: divider-solved, divider-only, aliases-solved, aliases-only, empty_input-solved, empty_input-only,
--   unwritten_input-solved, unwritten_input-only.
use Rattle.std.specs.Prelude.{◌≡◌, ℕ, List, [], ◌∷◌, length, map, Option, Some, None, Bool, true, false, ◌&&◌, IsTrue, bytes_eq, slice_index_or, if◌then◌else◌}
use Rattle.std.specs.List.{AllByRecursion}
use Rattle.hold_netlist.specs.declared.inst.Source.{Source}
use Rattle.hold_netlist.specs.declared.inst.Source.TheVariants.{Net, Zero, One, Empty}
use Rattle.hold_netlist.specs.declared.inst.Pin.{Pin}
use Rattle.hold_netlist.specs.declared.inst.Inst.{Inst}
use Rattle.hold_netlist.specs.declared.inst.Assign.{Assign}
use Rattle.hold_netlist.specs.Bits.{bits_of}
use Rattle.hold_netlist.specs.Design.{Design}
use Rattle.hold_roles.specs.declared.role.CellType.{CellType}
use Rattle.hold_roles.specs.declared.role.Role.{Role}
use Rattle.hold_roles.specs.declared.role.Role.TheVariants.{Comb, Register, Opaque}
use Rattle.hold_roles.specs.declared.row.Row.{Row}
use Rattle.hold_roles.specs.Types.{type_named}
use Rattle.hold_roles.specs.TypePins.{is_output_pin}

abbrev pub same_bit : Bool → Bool → Bool
same_bit true b = b
same_bit false true = false
same_bit false false = true

abbrev pub same_bits : List Bool → List Bool → Bool
same_bits [] [] = true
same_bits [] (b ∷ bs) = false
same_bits (a ∷ more) [] = false
same_bits (a ∷ more) (b ∷ bs) = same_bit a b && same_bits more bs

abbrev pub has_row : Row → List ℕ → List ℕ → List Bool → Bool
has_row row kind output inputs = bytes_eq row.kind kind && (bytes_eq row.output output && same_bits row.inputs inputs)

abbrev pub output_value : List Row → List ℕ → List ℕ → List Bool → Bool
output_value [] kind output inputs = false
output_value (row ∷ rows) kind output inputs = if has_row row kind output inputs then row.value else output_value rows kind output inputs

abbrev pub bit_at : List Bool → ℕ → Bool
bit_at values n = slice_index_or values n false

abbrev pub source_value : List Bool → Source → Bool
source_value values (Net n) = bit_at values n.0
source_value values Zero = false
source_value values One = true
source_value values Empty = false

abbrev pub pin_value : List Bool → List Pin → List ℕ → Bool
pin_value values [] name = false
pin_value values (pin ∷ pins) name = if bytes_eq name pin.name then source_value values pin.source else pin_value values pins name

abbrev pub input_values : List Bool → CellType → List Pin → List Bool
input_values values t pins = map (pin_value values pins) t.inputs

abbrev pub HasValue : List Bool → Source → Bool → Type 0
HasValue values (Net n) value = bit_at values n.0 ≡ value
HasValue values Zero value = Unit {0}
HasValue values One value = Unit {0}
HasValue values Empty value = Unit {0}

abbrev pub FollowsRows : List Row → List Bool → CellType → List Pin → Pin → Type 0
FollowsRows rows values t pins pin =
    IsTrue (is_output_pin t pin.name) → HasValue values pin.source (output_value rows t.name pin.name (input_values values t pins))

abbrev pub IsCellSolved : Role → List Row → List Bool → CellType → List Pin → Type 0
IsCellSolved Comb rows values t pins = AllByRecursion (FollowsRows rows values t pins) pins
IsCellSolved Register rows values t pins = Unit {0}
IsCellSolved Opaque rows values t pins = Unit {0}

abbrev pub IsTypeSolved : Option CellType → List Row → List Bool → List Pin → Type 0
IsTypeSolved None rows values pins = Unit {0}
IsTypeSolved (Some t) rows values pins = IsCellSolved t.role rows values t pins

abbrev pub IsInstSolved : List CellType → List Row → List Bool → Inst → Type 0
IsInstSolved types rows values i = IsTypeSolved (type_named i.kind types) rows values i.pins

abbrev pub IsAssignSolved : List Bool → Assign → Type 0
IsAssignSolved values a = bit_at values a.left.0 ≡ source_value values a.right

pub record IsSolution (types : List CellType) (rows : List Row) (d : Design) (values : List Bool) : Type 0 where
  pub each : length values ≡ bits_of d.wires
  pub assigns : AllByRecursion (IsAssignSolved values) d.assigns
  pub insts : AllByRecursion (IsInstSolved types rows values) d.insts
