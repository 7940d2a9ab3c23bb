-- Reach: what a name is among the nets: None where there is no such net; else its range, which is None for a
--   scalar.
-- reach wires name: the reach of a name among these wires.
-- is_within r i: whether the index lies between the bounds of a range, or is one.
-- runs_along r s: whether the bounds s run the same way as those of the range. A single bit runs either way; a range
--   of one bit counts as running down.
-- has_bits r s: whether both bounds s lie within the range and run along it.
-- is_missing reach s: whether what is selected isn't there: there is no such net, or a bit or a part of a scalar is
--   selected, or the bit or a bound of the part lies outside the range, or the part runs against the range.
-- width reach s: how many bits are selected, as it is written; None of a whole net that isn't there.
-- part_width wires p, is_missing_part wires p: that width, and whether it is missing, of a part of a net.
-- right_width wires r: how many bits the right side of an assignment has. A constant has one.
-- differ a b: whether two widths are known and differ.
-- misfit_left, misfit_right: the net on that side of an assignment, where what is selected of it isn't there; the left
--   one also where the two sides differ in width. misfit_assignment: both.
-- misfit_tied: the net in a connection, where its bit isn't there or where, named whole, it hasn't one bit.
-- misfit_instance, misfit_named: these of all connections of an instance.
-- misfit m: all of these in the module.
use Rattle.std.specs.Prelude.{ℕ, Bool, true, false, not, ◌&&◌, ◌||◌, ◌==◌, nat_le, min, max, bytes_eq, List, [], ◌∷◌, ◌++◌, flat_map, if◌then◌else◌, Option, Some, None}
use Rattle.hold_netlist.specs.Bits.{width_of_range}
use Rattle.hold_netlist.specs.declared.wire.Wire.{Wire}
use Rattle.hold_vsyntax.specs.declared.tree.Ident.{Ident}
use Rattle.hold_vsyntax.specs.declared.tree.Selected.{Selected}
use Rattle.hold_vsyntax.specs.declared.tree.Selected.TheVariants.{Whole, Bit, Part as Bits}
use Rattle.hold_vsyntax.specs.declared.tree.Part.{Part}
use Rattle.hold_vsyntax.specs.declared.tree.Right.{Right}
use Rattle.hold_vsyntax.specs.declared.tree.Right.TheVariants.{Net as Side, Constant as ConstantSide}
use Rattle.hold_vsyntax.specs.declared.tree.Assignment.{Assignment}
use Rattle.hold_vsyntax.specs.declared.tree.Tied.{Tied}
use Rattle.hold_vsyntax.specs.declared.tree.Tied.TheVariants.{Open, Net, Bit as BitOf, Constant}
use Rattle.hold_vsyntax.specs.declared.tree.Connection.{Connection}
use Rattle.hold_vsyntax.specs.declared.tree.Instance.{Instance}
use Rattle.hold_vsyntax.specs.declared.tree.Module.{Module}
use Rattle.hold_vparse.specs.Lines.{range_bounds, assignments, instances}
use Rattle.hold_vparse.specs.Nets.{nets}

abbrev pub Reach : Type 0
Reach = Option (Option (ℕ × ℕ))

abbrev pub reach : List Wire → List ℕ → Reach
reach [] name = None
reach (w ∷ ws) name = if bytes_eq name w.name then Some w.range else reach ws name

abbrev pub is_within : ℕ × ℕ → ℕ → Bool
is_within r i = nat_le (min r.0 r.1) i && nat_le i (max r.0 r.1)

abbrev pub runs_along : ℕ × ℕ → ℕ × ℕ → Bool
runs_along r s = if nat_le r.1 r.0 then nat_le s.1 s.0 else nat_le s.0 s.1

abbrev pub has_bits : ℕ × ℕ → ℕ × ℕ → Bool
has_bits r s = is_within r s.0 && is_within r s.1 && runs_along r s

abbrev pub is_missing : Reach → Selected → Bool
is_missing None s = true
is_missing (Some r) Whole = false
is_missing (Some None) (Bit index) = true
is_missing (Some None) (Bits s) = true
is_missing (Some (Some r)) (Bit index) = not (is_within r index)
is_missing (Some (Some r)) (Bits s) = not (has_bits r (range_bounds s))

abbrev pub width : Reach → Selected → Option ℕ
width None Whole = None
width (Some r) Whole = Some (width_of_range r)
width r (Bit index) = Some 1
width r (Bits s) = Some (width_of_range (Some (range_bounds s)))

abbrev pub part_width : List Wire → Part → Option ℕ
part_width wires p = width (reach wires p.net.name) p.selected

abbrev pub is_missing_part : List Wire → Part → Bool
is_missing_part wires p = is_missing (reach wires p.net.name) p.selected

abbrev pub right_width : List Wire → Right → Option ℕ
right_width wires (Side p) = part_width wires p
right_width wires (ConstantSide value) = Some 1

abbrev pub differ : Option ℕ → Option ℕ → Bool
differ (Some a) (Some b) = not (a == b)
differ (Some a) None = false
differ None b = false

abbrev pub misfit_right : List Wire → Right → List Ident
misfit_right wires (Side p) = if is_missing_part wires p then p.net ∷ [] else []
misfit_right wires (ConstantSide value) = []

abbrev pub misfit_left : List Wire → Assignment → List Ident
misfit_left wires a =
    if is_missing_part wires a.left || differ (part_width wires a.left) (right_width wires a.right) then a.left.net ∷ [] else []

abbrev pub misfit_assignment : List Wire → Assignment → List Ident
misfit_assignment wires a = misfit_left wires a ++ misfit_right wires a.right

abbrev pub misfit_tied : List Wire → Tied → List Ident
misfit_tied wires Open = []
misfit_tied wires (Net name) = if differ (width (reach wires name.name) Whole) (Some 1) then name ∷ [] else []
misfit_tied wires (BitOf name index) = if is_missing (reach wires name.name) (Bit index) then name ∷ [] else []
misfit_tied wires (Constant value) = []

abbrev pub misfit_instance : List Wire → Instance → List Ident
misfit_instance wires i = flat_map (λ (c : Connection). misfit_tied wires c.tied) i.connections

abbrev pub misfit_named : List Wire → Ident × Instance → List Ident
misfit_named wires i = misfit_instance wires i.1

abbrev pub misfit : Module → List Ident
misfit m =
    flat_map (misfit_assignment (nets m)) (assignments m.items)
    ++ flat_map (misfit_named (nets m)) (instances m.items)
