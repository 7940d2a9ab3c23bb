-- What is selected of a net and is there, is among the bits of the nets.
--
-- AreBits bits ns: each of the numbers is one of so many bits.
-- IsTiedSource bits s: the source is one, and not Empty.
use Rattle.std.proofs.Common.{◌≡◌, ℕ, zero, suc, ◌+◌, ◌<◌, ◌≤◌, List, [], ◌∷◌, map, Bool, true, false, cond, min, max, refl, arith}
use Rattle.std.specs.Prelude.{Option, Some, None, ◌≢◌, ◌&&◌, ◌||◌, nat_le}
use Rattle.std.specs.List.{AllByRecursion, range_with_len}
use Rattle.std.proofs.lemmas.Bool.{or_parts, and_parts}
use Rattle.std.proofs.lemmas.Bool.Decides.{nat_tests}
use Rattle.hold_base.proofs.Bools.{not-false}
use Rattle.hold_base.proofs.Lists.{append-nil_left, append-nil_right}
use Rattle.hold_netlist.specs.Bits.{width_of_range, bits_of}
use Rattle.hold_netlist.specs.WellFormed.{IsSource, IsWrittenAssign}
use Rattle.hold_netlist.specs.declared.wire.Wire.{Wire}
use Rattle.hold_netlist.specs.declared.inst.Source.{Source}
use Rattle.hold_netlist.specs.declared.inst.Source.TheVariants.{Zero, One, Empty}
use Rattle.hold_vsyntax.specs.declared.tree.Selected.{Selected}
use Rattle.hold_vsyntax.specs.declared.tree.Selected.TheVariants.{Whole, Bit, Part as Bits}
use Rattle.hold_vsyntax.specs.declared.tree.Part.{Part}
use Rattle.hold_vsyntax.specs.declared.tree.Right.{Right}
use Rattle.hold_vsyntax.specs.declared.tree.Right.TheVariants.{Net as Side, Constant as ConstantSide}
use Rattle.hold_vsyntax.specs.declared.tree.Assignment.{Assignment}
use Rattle.hold_vsyntax.specs.declared.tree.Ident.{Ident}
use Rattle.hold_vparse.specs.Lines.{range_bounds}
use Rattle.hold_vparse.specs.BitFaults.{Reach, reach, is_within, runs_along, has_bits, is_missing, is_missing_part, part_width, right_width, differ, misfit_left, misfit_right, misfit_assignment}
use Rattle.hold_vparse.specs.Declares.{first_bit, place_in, selected_bits, part_bits, net_bit, constant, sources, tied_bits, assigned}
use Rattle.hold_vparse.proofs.LayoutLemmas.{first_bit-reach}

abbrev pub AreBits : ℕ → List ℕ → Type 0
AreBits bits ns = AllByRecursion (λ n. n < bits) ns

abbrev pub IsTiedSource : ℕ → Source → Type 0
IsTiedSource bits s = IsSource bits s × (s ≢ Empty)

row_within : (bits first n : ℕ) → first + n ≤ bits → AreBits bits (range_with_len first n)
row_within bits first zero h = tt
row_within bits first (suc n) h = (omega arith, row_within bits (first + 1) n (omega arith))

-- an index between the bounds stands within the range
pub index-place : (r : ℕ × ℕ) (i : ℕ) → is_within r i ≡ true → place_in (Some (Some r)) i < width_of_range (Some r)
index-place r i h =
    let inside = and_parts (nat_le (min r.0 r.1) i) (nat_le i (max r.0 r.1)) h in
    let low = inside.0 in
    let high = inside.1 in
    grind (arith, nat_tests)

-- bounds that run along a range and lie in it stand within it
bounds-place : (r s : ℕ × ℕ) → has_bits r s ≡ true → place_in (Some (Some r)) s.0 + width_of_range (Some s) ≤ width_of_range (Some r)
bounds-place r s h =
    let whole = and_parts (is_within r s.0 && is_within r s.1) (runs_along r s) h in
    let ends = and_parts (is_within r s.0) (is_within r s.1) whole.0 in
    let left = and_parts (nat_le (min r.0 r.1) s.0) (nat_le s.0 (max r.0 r.1)) ends.0 in
    let right = and_parts (nat_le (min r.0 r.1) s.1) (nat_le s.1 (max r.0 r.1)) ends.1 in
    by (nat_le r.1 r.0) refl left.0 left.1 right.0 right.1 whole.1
  where
    by : (falls : Bool) → nat_le r.1 r.0 ≡ falls → nat_le (min r.0 r.1) s.0 ≡ true → nat_le s.0 (max r.0 r.1) ≡ true → nat_le (min r.0 r.1) s.1 ≡ true → nat_le s.1 (max r.0 r.1) ≡ true
        → cond falls (nat_le s.1 s.0) (nat_le s.0 s.1) ≡ true → place_in (Some (Some r)) s.0 + width_of_range (Some s) ≤ width_of_range (Some r)
    by true e a b c d along = grind (arith, nat_tests)
    by false e a b c d along = grind (arith, nat_tests)

-- what is selected of a net whose bits are among all
pub selected_within : (bits first : ℕ) (rc : Reach) (s : Selected) → ((r : Option (ℕ × ℕ)) → rc ≡ Some r → first + width_of_range r ≤ bits) → is_missing rc s ≡ false → AreBits bits (selected_bits first rc s)
selected_within bits first None s net h = cc
selected_within bits first (Some r) Whole net h = row_within bits first (width_of_range r) (net r refl)
selected_within bits first (Some None) (Bit i) net h = cc
selected_within bits first (Some None) (Bits s) net h = cc
selected_within bits first (Some (Some r)) (Bit i) net h = (omega (arith, net (Some r) refl, index-place r i (not-false (is_within r i) h)), tt)
selected_within bits first (Some (Some r)) (Bits s) net h =
    row_within bits (first + place_in (Some (Some r)) s.left) (width_of_range (Some (range_bounds s)))
    (omega (arith, net (Some r) refl, bounds-place r (range_bounds s) (not-false (has_bits r (range_bounds s)) h)))

pub part_within : (wires : List Wire) (p : Part) → is_missing_part wires p ≡ false → AreBits (bits_of wires) (part_bits wires p)
part_within wires p h = selected_within (bits_of wires) (first_bit wires p.net.name) (reach wires p.net.name) p.selected (λ r e. first_bit-reach p.net.name wires r e) h

-- sources
net_tied : (n : ℕ) → net_bit n ≢ Empty
net_tied n e = cc

constant_tied : (bits : ℕ) (value : Bool) → IsTiedSource bits (constant value)
constant_tied bits false = (tt, λ e. never e)
  where
    never : Zero ≢ Empty
    never e = cc
constant_tied bits true = (tt, λ e. never e)
  where
    never : One ≢ Empty
    never e = cc

pub constant_source : (bits : ℕ) (value : Bool) → IsSource bits (constant value)
constant_source bits value = (constant_tied bits value).0

nets_tied : (bits : ℕ) (ns : List ℕ) → AreBits bits ns → AllByRecursion (IsTiedSource bits) (map net_bit ns)
nets_tied bits [] h = tt
nets_tied bits (n ∷ ns) h = ((h.0, net_tied n), nets_tied bits ns h.1)

pub unless_listed : (b : Bool) (i : Ident) → cond b (i ∷ []) [] ≡ [] → b ≡ false
unless_listed true i h = cc
unless_listed false i h = refl

right_within : (wires : List Wire) (r : Right) → misfit_right wires r ≡ [] → AllByRecursion (IsTiedSource (bits_of wires)) (sources wires r)
right_within wires (Side p) h = nets_tied (bits_of wires) (part_bits wires p) (part_within wires p (unless_listed (is_missing_part wires p) p.net h))
right_within wires (ConstantSide value) h = (constant_tied (bits_of wires) value, tt)

pairs_written : (bits : ℕ) (ns : List ℕ) (ss : List Source) → AreBits bits ns → AllByRecursion (IsTiedSource bits) ss → AllByRecursion (IsWrittenAssign bits) (tied_bits ns ss)
pairs_written bits [] ss h k = tt
pairs_written bits (n ∷ ns) [] h k = tt
pairs_written bits (n ∷ ns) (s ∷ ss) h k = (record { left = h.0; right = k.0.0; tied = k.0.1 }, pairs_written bits ns ss h.1 k.1)

-- the left side of an assignment without a fault is there
left-there : (wires : List Wire) (a : Assignment) → misfit_assignment wires a ≡ [] → is_missing_part wires a.left ≡ false
left-there wires a h =
    let missing = is_missing_part wires a.left in
    let unlike = differ (part_width wires a.left) (right_width wires a.right) in
    (or_parts missing unlike (unless_listed (missing || unlike) a.left.net (append-nil_left (misfit_left wires a) (misfit_right wires a.right) h))).0

-- an assignment without a fault gives assignments of bits that are there
pub assigned_written : (wires : List Wire) (a : Assignment) → misfit_assignment wires a ≡ [] → AllByRecursion (IsWrittenAssign (bits_of wires)) (assigned wires a)
assigned_written wires a h =
    pairs_written (bits_of wires) (part_bits wires a.left) (sources wires a.right) (part_within wires a.left (left-there wires a h))
    (right_within wires a.right (append-nil_right (misfit_left wires a) (misfit_right wires a.right) h))
