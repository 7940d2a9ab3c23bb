-- A part that selects one bit of the wires, and a pin or a side that is tied to one, is that bit and no other.
--
-- IsBit wires name selected n: what is selected of the net of that name is net bit n of the wires.
-- IsSideOf wires r s, IsTiedTo wires t s: a right side, or what a pin is tied to, is this source.
-- IsAssigned wires a x: the assignment a is written as x. IsConnected wires p c: the connection p is written as c.
use Rattle.std.proofs.Common.{◌≡◌, ℕ, List, [], ◌∷◌, map, true, false, not, refl, sym, ap}
use Rattle.std.specs.Prelude.{Some, None}
use Rattle.hold_netlist.specs.Names.{wire_names, is_among}
use Rattle.hold_netlist.specs.declared.wire.Wire.{Wire}
use Rattle.hold_netlist.specs.declared.inst.Source.{Source}
use Rattle.hold_netlist.specs.declared.inst.Source.TheVariants.{Net as NetBit, Zero, One, Empty}
use Rattle.hold_netlist.specs.declared.inst.Pin.{Pin}
use Rattle.hold_netlist.specs.declared.inst.Assign.{Assign}
use Rattle.hold_vsyntax.specs.declared.tree.Selected.{Selected}
use Rattle.hold_vsyntax.specs.declared.tree.Selected.TheVariants.{Whole, Bit, Part as Bits}
use Rattle.hold_vsyntax.specs.declared.tree.Right.{Right}
use Rattle.hold_vsyntax.specs.declared.tree.Right.TheVariants.{Net as Side, Constant as ConstantSide}
use Rattle.hold_vsyntax.specs.declared.tree.Assignment.{Assignment}
use Rattle.hold_vsyntax.specs.declared.tree.Tied.{Tied}
use Rattle.hold_vsyntax.specs.declared.tree.Tied.TheVariants.{Open, Net, Bit as BitOf, Constant}
use Rattle.hold_vsyntax.specs.declared.tree.Connection.{Connection}
use Rattle.hold_vparse.specs.BitFaults.{Reach, reach, is_missing, width, right_width, misfit_right, misfit_assignment}
use Rattle.hold_vparse.specs.Declares.{first_bit, selected_bits, net_bit, constant, sources, assigned}
use Rattle.hold_vround.proofs.BitPlaces.{StandsAt, IsPlace}

abbrev pub IsBit : List Wire → List ℕ → Selected → ℕ → Type 0
IsBit wires name Whole n = IsPlace wires name None n
IsBit wires name (Bit i) n = IsPlace wires name (Some i) n
IsBit wires name (Bits r) n = ⊥

abbrev pub IsSideOf : List Wire → Right → Source → Type 0
IsSideOf wires (Side p) (NetBit n) = IsBit wires p.net.name p.selected n.0
IsSideOf wires (Side p) Zero = ⊥
IsSideOf wires (Side p) One = ⊥
IsSideOf wires (Side p) Empty = ⊥
IsSideOf wires (ConstantSide value) s = s ≡ constant value

abbrev pub IsTiedTo : List Wire → Tied → Source → Type 0
IsTiedTo wires Open s = s ≡ Empty
IsTiedTo wires (Constant value) s = s ≡ constant value
IsTiedTo wires (Net name) (NetBit n) = IsPlace wires name.name None n.0
IsTiedTo wires (Net name) Zero = ⊥
IsTiedTo wires (Net name) One = ⊥
IsTiedTo wires (Net name) Empty = ⊥
IsTiedTo wires (BitOf name i) (NetBit n) = IsPlace wires name.name (Some i) n.0
IsTiedTo wires (BitOf name i) Zero = ⊥
IsTiedTo wires (BitOf name i) One = ⊥
IsTiedTo wires (BitOf name i) Empty = ⊥

pub record IsAssigned (wires : List Wire) (a : Assign) (x : Assignment) : Type 0 where
  pub left_side : IsBit wires x.left.net.name x.left.selected a.left.0
  pub right_side : IsSideOf wires x.right a.right

pub record IsConnected (wires : List Wire) (p : Pin) (c : Connection) : Type 0 where
  pub named : c.pin.name ≡ p.name
  pub tied_to : IsTiedTo wires c.tied p.source

-- a bit by itself: its number, that it is there, and its width
record IsOneBit (found : Reach) (first : ℕ) (selected : Selected) (n : ℕ) : Type 0 where
  bits : selected_bits first found selected ≡ n ∷ []
  there : is_missing found selected ≡ false
  single : width found selected ≡ Some 1

whole_bit : (found : Reach) (first n : ℕ) → StandsAt found None first n → IsOneBit found first Whole n
whole_bit None first n h = absurd h
whole_bit (Some None) first n h = record { bits = ap (λ k. k ∷ []) h; there = refl; single = refl }
whole_bit (Some (Some r)) first n h = absurd h

indexed_bit : (found : Reach) (first n i : ℕ) → StandsAt found (Some i) first n → IsOneBit found first (Bit i) n
indexed_bit None first n i h = absurd h
indexed_bit (Some None) first n i h = absurd h
indexed_bit (Some (Some r)) first n i h = record { bits = ap (λ k. k ∷ []) h.1; there = ap not h.0; single = refl }

one_bit : (wires : List Wire) (name : List ℕ) (selected : Selected) (n : ℕ) → IsBit wires name selected n → IsOneBit (reach wires name) (first_bit wires name) selected n
one_bit wires name Whole n h = whole_bit (reach wires name) (first_bit wires name) n h.stands
one_bit wires name (Bit i) n h = indexed_bit (reach wires name) (first_bit wires name) n i h.stands
one_bit wires name (Bits r) n h = absurd h

among_wires : (wires : List Wire) (name : List ℕ) (selected : Selected) (n : ℕ) → IsBit wires name selected n → is_among name (wire_names wires) ≡ true
among_wires wires name Whole n h = h.among
among_wires wires name (Bit i) n h = h.among
among_wires wires name (Bits r) n h = absurd h

-- a right side
record IsOneSide (wires : List Wire) (r : Right) (s : Source) : Type 0 where
  is : sources wires r ≡ s ∷ []
  fits : misfit_right wires r ≡ []
  single : right_width wires r ≡ Some 1

one_side : (wires : List Wire) (r : Right) (s : Source) → IsSideOf wires r s → IsOneSide wires r s
one_side wires (Side p) (NetBit n) h =
    let bit = one_bit wires p.net.name p.selected n.0 h in
    record { is = ap (λ bits. map net_bit bits) bit.bits; fits = rw bit.there refl; single = bit.single }
one_side wires (Side p) Zero h = absurd h
one_side wires (Side p) One h = absurd h
one_side wires (Side p) Empty h = absurd h
one_side wires (ConstantSide value) s h = record { is = ap (λ (t : Source). t ∷ []) (sym h); fits = refl; single = refl }

pub record IsWellAssigned (wires : List Wire) (a : Assign) (x : Assignment) : Type 0 where
  pub is : assigned wires x ≡ a ∷ []
  pub fits : misfit_assignment wires x ≡ []
  pub among : is_among x.left.net.name (wire_names wires) ≡ true

pub well_assigned : (wires : List Wire) (a : Assign) (x : Assignment) → IsAssigned wires a x → IsWellAssigned wires a x
well_assigned wires a x h =
    let left = one_bit wires x.left.net.name x.left.selected a.left.0 h.left_side in
    let right = one_side wires x.right a.right h.right_side in
    record {
      is = rw (left.bits, right.is) refl;
      fits = rw (left.there, left.single, right.single, right.fits) refl;
      among = among_wires wires x.left.net.name x.left.selected a.left.0 h.left_side;
    }
