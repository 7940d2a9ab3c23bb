-- first_bit wires name: the number of the first bit of the first wire of that name; where there is none, how many
--   bits there are.
-- place_in reach i: how many bits of a net stand before its bit i, the distance from its left bound; 0 for a scalar
--   and for no net. net_width reach: how many bits the net has; 1 for no net.
-- selected_bits first reach s: the net bits that s selects of a net whose first bit is `first`, from the left end of s.
-- part_bits wires p: the net bits that a part selects, from its left end.
-- net_number n, net_bit n: the net bit of that number, and as a source. constant value: a constant as a source.
-- sources wires r: what the bits of a right side are, from its left end.
-- tied_bits lefts rights: one assignment for each pair of bits, from the left end; a bit without a partner has none.
--   Both sides are equally wide wherever no fault is found, so the same bits are paired from the right end.
-- assigned wires a: the assignments of single bits that one assignment makes.
-- source wires t: what a pin is tied to. pin, inst, port: a connection, an instance with the name of its type, and a
--   port, as the netlist has them.
-- design_of m: the netlist that the module declares: its ports, its wires, its instances, and its assignments bit
--   by bit.
use Rattle.std.specs.Prelude.{ℕ, ◌+◌, ◌-◌, Bool, true, false, bytes_eq, List, [], ◌∷◌, map, flat_map, if◌then◌else◌, Some, None}
use Rattle.std.specs.List.{range_with_len}
use Rattle.hold_base.specs.declared.number.NetNo.{NetNo}
use Rattle.hold_netlist.specs.Bits.{width_of_range, width_of}
use Rattle.hold_netlist.specs.Design.{Design}
use Rattle.hold_netlist.specs.declared.wire.Port.{Port}
use Rattle.hold_netlist.specs.declared.wire.Wire.{Wire}
use Rattle.hold_netlist.specs.declared.inst.Source.{Source}
use Rattle.hold_netlist.specs.declared.inst.Source.TheVariants.{Net as NetBit, Zero, One, Empty}
use Rattle.hold_netlist.specs.declared.inst.Pin.{Pin}
use Rattle.hold_netlist.specs.declared.inst.Inst.{Inst}
use Rattle.hold_netlist.specs.declared.inst.Assign.{Assign}
use Rattle.hold_vsyntax.specs.declared.tree.Ident.{Ident}
use Rattle.hold_vsyntax.specs.declared.tree.Selected.{Selected}
use Rattle.hold_vsyntax.specs.declared.tree.Selected.TheVariants.{Whole, Bit, Part as Bits}
use Rattle.hold_vsyntax.specs.declared.tree.Part.{Part}
use Rattle.hold_vsyntax.specs.declared.tree.Right.{Right}
use Rattle.hold_vsyntax.specs.declared.tree.Right.TheVariants.{Net as Side, Constant as ConstantSide}
use Rattle.hold_vsyntax.specs.declared.tree.Assignment.{Assignment}
use Rattle.hold_vsyntax.specs.declared.tree.Tied.{Tied}
use Rattle.hold_vsyntax.specs.declared.tree.Tied.TheVariants.{Open, Net, Bit as BitOf, Constant}
use Rattle.hold_vsyntax.specs.declared.tree.Connection.{Connection}
use Rattle.hold_vsyntax.specs.declared.tree.Instance.{Instance}
use Rattle.hold_vsyntax.specs.declared.tree.Module.{Module}
use Rattle.hold_vparse.specs.Lines.{PortLine, range_bounds, ports_of, assignments, instances}
use Rattle.hold_vparse.specs.Nets.{nets}
use Rattle.hold_vparse.specs.BitFaults.{Reach, reach}

abbrev pub first_bit : List Wire → List ℕ → ℕ
first_bit [] name = 0
first_bit (w ∷ ws) name = if bytes_eq name w.name then 0 else width_of w + first_bit ws name

abbrev pub place_in : Reach → ℕ → ℕ
place_in None i = 0
place_in (Some None) i = 0
place_in (Some (Some r)) i = (r.0 - i) + (i - r.0)

abbrev pub net_width : Reach → ℕ
net_width None = 1
net_width (Some r) = width_of_range r

abbrev pub selected_bits : ℕ → Reach → Selected → List ℕ
selected_bits first r Whole = range_with_len first (net_width r)
selected_bits first r (Bit index) = (first + place_in r index) ∷ []
selected_bits first r (Bits s) = range_with_len (first + place_in r s.left) (width_of_range (Some (range_bounds s)))

abbrev pub part_bits : List Wire → Part → List ℕ
part_bits wires p = selected_bits (first_bit wires p.net.name) (reach wires p.net.name) p.selected

abbrev pub net_number : ℕ → NetNo
net_number n = record { 0 = n }

abbrev pub net_bit : ℕ → Source
net_bit n = NetBit (net_number n)

abbrev pub constant : Bool → Source
constant false = Zero
constant true = One

abbrev pub sources : List Wire → Right → List Source
sources wires (Side p) = map net_bit (part_bits wires p)
sources wires (ConstantSide value) = constant value ∷ []

abbrev pub tied_bits : List ℕ → List Source → List Assign
tied_bits (n ∷ ns) (s ∷ ss) = record { left = net_number n; right = s } ∷ tied_bits ns ss
tied_bits (n ∷ ns) [] = []
tied_bits [] ss = []

abbrev pub assigned : List Wire → Assignment → List Assign
assigned wires a = tied_bits (part_bits wires a.left) (sources wires a.right)

abbrev pub source : List Wire → Tied → Source
source wires Open = Empty
source wires (Net name) = net_bit (first_bit wires name.name)
source wires (BitOf name index) = net_bit (first_bit wires name.name + place_in (reach wires name.name) index)
source wires (Constant value) = constant value

abbrev pub pin : List Wire → Connection → Pin
pin wires c = record { name = c.pin.name; source = source wires c.tied }

abbrev pub inst : List Wire → Ident × Instance → Inst
inst wires i = record { name = i.1.name.name; kind = i.0.name; pins = map (pin wires) i.1.connections }

abbrev pub port : PortLine → Port
port l = record { name = l.name.name; direction = l.direction }

abbrev pub design_of : Module → Design
design_of m = record {
  name = m.name.name;
  ports = map port (ports_of m);
  wires = nets m;
  insts = map (inst (nets m)) (instances m.items);
  assigns = flat_map (assigned (nets m)) (assignments m.items);
}
