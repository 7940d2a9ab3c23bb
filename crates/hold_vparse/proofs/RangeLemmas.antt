-- Declared ranges, their classes, and the places of the ranges of lines and nets.
use Rattle.std.proofs.Common.{◌≡◌, ℕ, zero, suc, ◌+◌, ◌-◌, List, [], ◌∷◌, ◌++◌, Bool, true, false, refl, sym, ap, ◌∙◌, subst, inl, inr, map, length, replicate, arith}
use Rattle.std.specs.Prelude.{Option, None, Some, slice_get, ◌==◌, ◌&&◌, unwrap_or}
use Rattle.std.specs.Option.{option_map, option_copied}
use Rattle.std.specs.Borrow.{Bor}
use Rattle.std.proofs.lemmas.Bool.{cases_Bool}
use Rattle.std.proofs.lemmas.List.{map-append, length-map}
use Rattle.std.proofs.lemmas.Option.{slice_get-map}
use Rattle.hold_base.specs.inner.Lists.{OneEach}
use Rattle.hold_base.proofs.Lists.{slice_get-push}
use Rattle.hold_netlist.specs.Bits.{width_of_range}
use Rattle.hold_vparse.specs.declared.measured.Classes.{Classes}
use Rattle.hold_vparse.specs.declared.measured.Measured.{Measured}
use Rattle.hold_vparse.specs.inner.Bounds.{distance_of}
use Rattle.hold_vparse.specs.inner.Index.{at_place}
use Rattle.hold_vparse.specs.inner.Measured.{AreClasses, HasClasses, HaveClasses, Keeps, measured_bounds}
use Rattle.hold_vparse.specs.PortFaults.{same_range}
use Rattle.hold_vparse.specs.inner.Ranges.{RangeLists, range_lists, with_nets, line_range}
use Rattle.hold_vparse.proofs.LineLemmas.{at_place-map}

pub HaveClasses-kept : (old new : List ℕ) (list : List Measured) → Keeps old new → HaveClasses old list → HaveClasses new list
HaveClasses-kept old new list kept h = record {
  each = λ k m at. record {
    left = kept.each m.classes.left m.range.now.left (h.each k m at).left;
    right = kept.each m.classes.right m.range.now.right (h.each k m at).right;
    distance = kept.each m.classes.distance (distance_of (measured_bounds m)) (h.each k m at).distance;
  };
}

pub HaveClasses-push : (numbers : List ℕ) (list : List Measured) (m : Measured) → HaveClasses numbers list → HasClasses numbers m → HaveClasses numbers (list ++ m ∷ [])
HaveClasses-push numbers list m h here = record {
  each = λ k x at. elim (slice_get-push list m k x at) [
    | inl old ↦ h.each k x old
    | inr last ↦ subst (HasClasses numbers) last.1 here
  ];
}

-- two numbers are equal where their classes are
same_class : (numbers : List ℕ) (i j n m : ℕ) → OneEach numbers → slice_get numbers i ≡ Some n → slice_get numbers j ≡ Some m → (i == j) ≡ (n == m)
same_class numbers i j n m one a b = elim (cases_Bool (i == j)) [
  | inl same ↦
      let place : i ≡ j = grind (arith, same) in
      let number : Some n ≡ Some m = sym a ∙ ap (slice_get numbers) place ∙ b in
      let equal : n ≡ m = cc in
      let told : (n == m) ≡ true = grind (arith, equal) in
      same ∙ sym told
  | inr apart ↦ elim (cases_Bool (n == m)) [
    | inl equal ↦
        let number : n ≡ m = grind (arith, equal) in
        let place : i ≡ j = one.apart i j m (a ∙ ap Some number) b in
        absurd (grind (arith, apart, place))
    | inr other ↦ apart ∙ sym other
  ]
]

pub same_bounds_by_classes : (numbers : List ℕ) (r s : ℕ × ℕ) (c d : Classes) → OneEach numbers → AreClasses numbers r c → AreClasses numbers s d
    → (c.left == d.left && c.right == d.right) ≡ same_range (Some r) (Some s)
same_bounds_by_classes numbers r s c d one a b =
    ap (λ (t : Bool). t && (c.right == d.right)) (same_class numbers c.left d.left r.0 s.0 one a.left b.left)
    ∙ ap (λ (t : Bool). (r.0 == s.0) && t) (same_class numbers c.right d.right r.1 s.1 one a.right b.right)

one_more : (n m : ℕ) → (n == m) ≡ ((n + 1) == (m + 1))
one_more n m = elim (cases_Bool (n == m)) [
  | inl same ↦ let next : ((n + 1) == (m + 1)) ≡ true = grind (arith, same) in same ∙ sym next
  | inr apart ↦ let next : ((n + 1) == (m + 1)) ≡ false = grind (arith, apart) in apart ∙ sym next
]

pub same_width_by_classes : (numbers : List ℕ) (r s : ℕ × ℕ) (c d : Classes) → OneEach numbers → AreClasses numbers r c → AreClasses numbers s d
    → (c.distance == d.distance) ≡ (width_of_range (Some r) == width_of_range (Some s))
same_width_by_classes numbers r s c d one a b =
    same_class numbers c.distance d.distance (distance_of r) (distance_of s) one a.distance b.distance ∙ one_more (distance_of r) (distance_of s)

-- a range that was found in a list: what the list has there, its bounds in the table, and its classes
pub found_at : (list lent : List Measured) (place : Option ℕ) (r : Option (Bor Measured)) (m : Option (Bor Measured)) → option_copied r ≡ at_place lent place → lent ≡ list → r ≡ m → option_copied m ≡ at_place list place
found_at list lent place r m at same is = ap option_copied (sym is) ∙ at ∙ ap (λ (l : List Measured). at_place l place) same

pub bounds_at : (list : List Measured) (table : List (ℕ × ℕ)) (place : Option ℕ) (m : Option Measured) → map measured_bounds list ≡ table → m ≡ at_place list place → option_map measured_bounds m ≡ at_place table place
bounds_at list table place m view at = ap (option_map measured_bounds) at ∙ sym (at_place-map measured_bounds list place) ∙ ap (λ (t : List (ℕ × ℕ)). at_place t place) view

pub classes_at : (numbers : List ℕ) (list : List Measured) (place : Option ℕ) (m : Measured) → HaveClasses numbers list → Some m ≡ at_place list place → HasClasses numbers m
classes_at numbers list None m h at = absurd cc
classes_at numbers list (Some k) m h at = h.each k m (sym at)

-- the range of a line by its place
pub line_range-map : (ranges : List (ℕ × ℕ)) (places : List (Option ℕ)) (line : ℕ) → line_range (map (at_place ranges) places) line ≡ at_place ranges (unwrap_or (slice_get places line) None)
line_range-map ranges places line = ap (λ (o : Option (Option (ℕ × ℕ))). unwrap_or o None) (slice_get-map (at_place ranges) places line) ∙ by (slice_get places line)
  where
    by : (o : Option (Option ℕ)) → unwrap_or (option_map (at_place ranges) o) None ≡ at_place ranges (unwrap_or o None)
    by None = refl
    by (Some place) = refl

-- a line's range in the table that its place leads to
pub place_range : (table : List (ℕ × ℕ)) (places lent : List (Option ℕ)) (ranges : List (Option (ℕ × ℕ))) (line : ℕ) (place : Option ℕ)
    → map (at_place table) places ≡ ranges → lent ≡ places → place ≡ unwrap_or (slice_get lent line) None → at_place table place ≡ line_range ranges line
place_range table places lent ranges line place view same is =
    ap (at_place table) (is ∙ ap (λ (ps : List (Option ℕ)). unwrap_or (slice_get ps line) None) same) ∙ sym (line_range-map table places line)
    ∙ ap (λ (rs : List (Option (ℕ × ℕ))). line_range rs line) view

-- places that are put behind those of the nets
pub nets_put : (table : List (ℕ × ℕ)) (ports wires nets longer places : List (Option ℕ)) (seen : RangeLists) (more : List (Option (ℕ × ℕ)))
    → range_lists (map (at_place table) ports) (map (at_place table) wires) (map (at_place table) nets) ≡ seen → longer ≡ nets ++ places → map (at_place table) places ≡ more
    → range_lists (map (at_place table) ports) (map (at_place table) wires) (map (at_place table) longer) ≡ with_nets seen more
nets_put table ports wires nets longer places seen more view put are =
    ap (range_lists (map (at_place table) ports) (map (at_place table) wires))
    (ap (map (at_place table)) put ∙ map-append (at_place table) nets places ∙ ap (λ (rs : List (Option (ℕ × ℕ))). map (at_place table) nets ++ rs) are)
    ∙ ap (λ (s : RangeLists). with_nets s more) view

map-replicate : (table : List (ℕ × ℕ)) (n : ℕ) → map (at_place table) (replicate n None) ≡ replicate n None
map-replicate table zero = refl
map-replicate table (suc n) = ap (λ (rs : List (Option (ℕ × ℕ))). None ∷ rs) (map-replicate table n)

pub filled : (table : List (ℕ × ℕ)) (nets : List (Option ℕ)) (ranges : List (Option (ℕ × ℕ))) (count : ℕ) → map (at_place table) nets ≡ ranges
    → map (at_place table) (replicate (count - length nets) None) ≡ replicate (count - length ranges) None
filled table nets ranges count view =
    map-replicate table (count - length nets) ∙ ap (λ (n : ℕ). replicate (count - n) None) (sym (length-map nets (at_place table)) ∙ ap length view)
