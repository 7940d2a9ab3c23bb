-- The bits that a canonical text's tree names are those of the netlist, wherever they stand.
use Rattle.std.proofs.Common.{◌≡◌, ℕ, ◌-◌, ◌<◌, List, [], ◌∷◌, Bool, true, false, refl, sym, subst}
use Rattle.std.specs.Prelude.{Option, Some, None, nat_lt, if◌then◌else◌}
use Rattle.std.specs.List.{AllByRecursion}
use Rattle.hold_base.specs.declared.number.NetNo.{NetNo}
use Rattle.hold_netlist.specs.Bits.{width_of, bits_of}
use Rattle.hold_netlist.specs.Names.{wire_names}
use Rattle.hold_netlist.specs.WellFormed.{IsSource, IsWrittenPin, IsWrittenInst, IsWrittenAssign}
use Rattle.hold_netlist.specs.declared.wire.Wire.{Wire}
use Rattle.hold_netlist.specs.declared.inst.Source.{Source}
use Rattle.hold_netlist.specs.declared.inst.Source.TheVariants.{Net as NetBit, Zero, One, Empty}
use Rattle.hold_netlist.specs.declared.inst.Pin.{Pin}
use Rattle.hold_netlist.specs.declared.inst.Inst.{Inst}
use Rattle.hold_netlist.specs.declared.inst.Assign.{Assign}
use Rattle.hold_vsyntax.specs.declared.tree.Ident.{Ident}
use Rattle.hold_vsyntax.specs.declared.tree.Part.{Part}
use Rattle.hold_vsyntax.specs.declared.tree.Selected.{Selected}
use Rattle.hold_vsyntax.specs.declared.tree.Selected.TheVariants.{Whole, Bit, Part as Bits}
use Rattle.hold_vparse.specs.Lines.{assignments, instances}
use Rattle.hold_vround.proofs.CanonicalTree.{selected_of, part_of, bit_part, tied_to, tied_of, right_of, assign_items, connections_at, inst_items}
use Rattle.hold_vparse.proofs.NameLists.{Differ}
use Rattle.hold_vround.proofs.BitPlaces.{index_in, name_at, index_at, IsPlace, place_of_bit}
use Rattle.hold_vround.proofs.Pairs.{Each}
use Rattle.hold_vround.proofs.BitParts.{IsBit, IsSideOf, IsTiedTo, IsAssigned, IsConnected}
use Rattle.hold_vround.proofs.Placed.{IsPlaced}

-- a bit by its index; a scalar's as a whole
selection : Option ℕ → Selected
selection None = Whole
selection (Some i) = Bit i

selected_in : (range : Option (ℕ × ℕ)) (n : ℕ) → selected_of range n ≡ selection (index_in range n)
unfolding selection
selected_in None n = refl
selected_in (Some r) n = refl

record IsPart (p : Part) (name : List ℕ) (index : Option ℕ) : Type 0 where
  name_is : p.net.name ≡ name
  index_is : p.selected ≡ selection index

either_part : (here : Bool) (at : ℕ) (w : Wire) (n : ℕ) (other : Part) (name : List ℕ) (index : Option ℕ) → IsPart other name index
    → IsPart (if here then part_of at w n else other) (if here then w.name else name) (if here then index_in w.range n else index)
either_part true at w n other name index h = record { name_is = refl; index_is = selected_in w.range n }
either_part false at w n other name index h = h

part_at : (wires : List Wire) (n at : ℕ) → IsPart (bit_part at wires n) (name_at wires n) (index_at wires n)
unfolding selection
part_at [] n at = record { name_is = refl; index_is = refl }
part_at (w ∷ ws) n at = either_part (nat_lt n (width_of w)) at w n (bit_part at ws (n - width_of w)) (name_at ws (n - width_of w)) (index_at ws (n - width_of w)) (part_at ws (n - width_of w) at)

bit_at_place : (wires : List Wire) (name : List ℕ) (index : Option ℕ) (n : ℕ) → IsPlace wires name index n → IsBit wires name (selection index) n
unfolding selection
bit_at_place wires name None n h = h
bit_at_place wires name (Some i) n h = h

module _ (wires : List Wire) (differ : Differ (wire_names wires)) where
  bit_is : (n at : ℕ) → n < bits_of wires → IsBit wires (bit_part at wires n).net.name (bit_part at wires n).selected n
  bit_is n at within =
      let part = part_at wires n at in
      let place = bit_at_place wires (name_at wires n) (index_at wires n) n (place_of_bit wires n differ within) in
      subst (λ name. IsBit wires name (bit_part at wires n).selected n) (sym part.name_is)
      (subst (λ selected. IsBit wires (name_at wires n) selected n) (sym part.index_is) place)

  side_is : (s : Source) (at : ℕ) → IsSource (bits_of wires) s → (s ≡ Empty → ⊥) → IsSideOf wires (right_of at wires s) s
  side_is (NetBit n) at within tied = bit_is n.0 at within
  side_is Zero at within tied = refl
  side_is One at within tied = refl
  side_is Empty at within tied = absurd (tied refl)

  tied_net : (net : Ident) (selected : Selected) (n : NetNo) → IsBit wires net.name selected n.0 → IsTiedTo wires (tied_to net selected) (NetBit n)
  tied_net net Whole n h = h
  tied_net net (Bit i) n h = h
  tied_net net (Bits r) n h = absurd h

  tied_is : (s : Source) (at : ℕ) → IsSource (bits_of wires) s → IsTiedTo wires (tied_of at wires s) s
  tied_is (NetBit n) at within = tied_net (bit_part at wires n.0).net (bit_part at wires n.0).selected n (bit_is n.0 at within)
  tied_is Zero at within = refl
  tied_is One at within = refl
  tied_is Empty at within = refl

  pub assignments_are : (xs : List Assign) (at : ℕ) → AllByRecursion (IsWrittenAssign (bits_of wires)) xs → Each (IsAssigned wires) xs (assignments (assign_items at wires xs))
  assignments_are [] at h = tt
  assignments_are (a ∷ xs) at h = (record { left_side = bit_is a.left.0 _ h.0.left; right_side = side_is a.right _ h.0.right h.0.tied }, assignments_are xs _ h.1)

  connections_are : (ps : List Pin) (at : ℕ) → AllByRecursion (IsWrittenPin (bits_of wires)) ps → Each (IsConnected wires) ps (connections_at at wires ps)
  connections_are [] at h = tt
  connections_are (p ∷ ps) at h = (record { named = refl; tied_to = tied_is p.source _ h.0.source }, connections_are ps _ h.1)

  pub instances_are : (is : List Inst) (at : ℕ) → AllByRecursion (IsWrittenInst (bits_of wires)) is → Each (IsPlaced wires) is (instances (inst_items at wires is))
  instances_are [] at h = tt
  instances_are (i ∷ is) at h = (record { kind_named = refl; named = refl; each = connections_are i.pins _ h.0.pins }, instances_are is _ h.1)
