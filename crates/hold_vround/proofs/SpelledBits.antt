-- How ranges, net bits and sources are read.
use Rattle.std.proofs.Common.{◌≡◌, ◌≢◌, ℕ, ◌+◌, ◌-◌, ◌<◌, ◌≤◌, ◌^◌, Bool, true, false, cond, List, [], ◌∷◌, ◌++◌, Option, Some, None, refl, sym, ◌∙◌, ap, subst, arith}
use Rattle.std.specs.Prelude.{nat_lt, nat_eq, codes, decimal, not, ◌&&◌}
use Rattle.std.specs.List.{AllByRecursion, list_all}
use Rattle.std.proofs.lemmas.Bool.Decides.{nat_tests}
use Rattle.std.proofs.lemmas.List.{append_assoc}
use Rattle.std.proofs.lemmas.List.Sums.{sum_by-cons}
use Rattle.hold_netlist.specs.declared.wire.Wire.{Wire}
use Rattle.hold_netlist.specs.declared.inst.Source.{Source}
use Rattle.hold_netlist.specs.declared.inst.Source.TheVariants.{Net as NetBit, Zero, One, Empty}
use Rattle.hold_netlist.specs.Bits.{width_of_range, width_of, bits_of}
use Rattle.hold_base.specs.NameBytes.{IsName}
use Rattle.hold_netlist.specs.Names.{is_among}
use Rattle.hold_netlist.specs.Keywords.{keywords}
use Rattle.hold_netlist.specs.Identifier.{is_word_byte, is_letter}
use Rattle.hold_netlist.specs.WellFormed.{HasBoundsInLimit, IsWrittenWire, IsSource}
use Rattle.hold_netlist.specs.CanonicalText.{spelled, range_text, index_text, bit_of_wire, bit_text, source_text}
use Rattle.hold_text.specs.Blanks.{heads, star}
use Rattle.hold_vsyntax.specs.Symbols.{Symbol, Named, ident}
use Rattle.hold_vsyntax.specs.Grammar.{range_symbols, selected_symbols, part_symbols, right_symbols, tied_symbols}
use Rattle.hold_vround.proofs.CanonicalTree.{range_of, index_of, selected_of, part_of, bit_part, tied_to, tied_of, right_of}
use Rattle.hold_vround.proofs.Spells.{Spells, Spells-nil, join}
use Rattle.hold_vround.proofs.SpelledTokens.{Breaks, Spells-blank, Spells-spelled, Spells-decimal, Spells-zero, Spells-one, Spells-colon, Spells-left_bracket, Spells-right_bracket}

-- the text may be grouped otherwise
pub Spells-text : (at : ℕ) (text other rest : List ℕ) (ss : List Symbol) → text ≡ other → Spells at other rest ss → Spells at text rest ss
Spells-text at text other rest ss e h = subst (λ (t : List ℕ). Spells at t rest ss) (sym e) h

Spells-bounds : (at : ℕ) (r : ℕ × ℕ) (rest : List ℕ) → HasBoundsInLimit (Some r) → Spells at (range_text (Some r)) rest (range_symbols (range_of (Some r)))
Spells-bounds at r rest h =
    let end : List ℕ = codes "] " in
    let right : List ℕ = decimal r.1 ++ end in
    let middle : List ℕ = codes ":" ++ right in
    let left : List ℕ = decimal r.0 ++ middle in
    let small-left : r.0 < 2 ^ 64 = omega (arith, h.0) in
    let small-right : r.1 < 2 ^ 64 = omega (arith, h.1) in
    Spells-text at (range_text (Some r)) (codes "[" ++ left) rest _ (simp append_assoc refl)
    (join at _ (codes "[") left rest _ _ refl (Spells-left_bracket at _)
    (join _ _ (decimal r.0) middle rest _ _ refl (Spells-decimal _ r.0 _ small-left refl)
    (join _ _ (codes ":") right rest _ _ refl (Spells-colon _ _)
    (join _ _ (decimal r.1) end rest _ _ refl (Spells-decimal _ r.1 _ small-right refl)
    (join _ _ (codes "]") (codes " ") rest _ _ refl (Spells-right_bracket _ _) (Spells-blank _ rest))))))

pub Spells-range : (at : ℕ) (r : Option (ℕ × ℕ)) (rest : List ℕ) → HasBoundsInLimit r → Spells at (range_text r) rest (range_symbols (range_of r))
Spells-range at None rest h = Spells-nil at rest
Spells-range at (Some r) rest h = Spells-bounds at r rest h

-- an index is at most the greater of the bounds
index_of-small : (r : ℕ × ℕ) (n : ℕ) → HasBoundsInLimit (Some r) → n < width_of_range (Some r) → index_of r n < 2 ^ 64
index_of-small r n h within = by_order (nat_lt r.0 r.1) refl
  where
    by_order : (t : Bool) → nat_lt r.0 r.1 ≡ t → cond t (r.0 + n) (r.0 - n) < 2 ^ 64
    by_order true e = let less : r.0 < r.1 = grind (arith, nat_tests) in omega (arith, h.1)
    by_order false e = omega (arith, h.0)

Spells-index : (at : ℕ) (r : Option (ℕ × ℕ)) (n : ℕ) (rest : List ℕ) → HasBoundsInLimit r → n < width_of_range r → Spells at (index_text r n) rest (selected_symbols (selected_of r n))
Spells-index at None n rest h within = Spells-nil at rest
Spells-index at (Some r) n rest h within =
    let end : List ℕ = codes "]" in
    let number : List ℕ = decimal (index_of r n) ++ end in
    Spells-text at (index_text (Some r) n) (codes "[" ++ number) rest _ (append_assoc (codes "[") (decimal (index_of r n)) end)
    (join at _ (codes "[") number rest _ _ refl (Spells-left_bracket at _)
    (join _ _ (decimal (index_of r n)) end rest _ _ refl (Spells-decimal _ (index_of r n) _ (index_of-small r n h within) refl)
    (Spells-right_bracket _ rest)))

Breaks-index : (r : Option (ℕ × ℕ)) (n : ℕ) (rest : List ℕ) → Breaks rest → Breaks (index_text r n ++ rest)
Breaks-index None n rest stop = stop
Breaks-index (Some r) n rest stop = refl

Spells-bit_of_wire : (at : ℕ) (w : Wire) (n : ℕ) (rest : List ℕ) → IsWrittenWire w → n < width_of w → Breaks rest → Spells at (bit_of_wire w n) rest (part_symbols (part_of at w n))
Spells-bit_of_wire at w n rest h within stop =
    join at _ (spelled w.name) (index_text w.range n) rest _ _ refl
    (Spells-spelled at w.name _ h.name (Breaks-index w.range n rest stop))
    (Spells-index _ w.range n rest h.bounds within)

-- a net bit, found going down the wires
pub Spells-bit : (at : ℕ) (wires : List Wire) (n : ℕ) (rest : List ℕ) → AllByRecursion IsWrittenWire wires → n < bits_of wires → Breaks rest → Spells at (bit_text wires n) rest (part_symbols (bit_part at wires n))
Spells-bit at [] n rest h within stop = absurd (omega arith)
Spells-bit at (w ∷ ws) n rest h within stop = by_wire (nat_lt n (width_of w)) refl (λ later. Spells-bit at ws (n - width_of w) rest h.1 later stop)
  where
    by_wire : (t : Bool) → nat_lt n (width_of w) ≡ t → (n - width_of w < bits_of ws → Spells at (bit_text ws (n - width_of w)) rest (part_symbols (bit_part at ws (n - width_of w))))
        → Spells at (cond t (bit_of_wire w n) (bit_text ws (n - width_of w))) rest (part_symbols (cond t (part_of at w n) (bit_part at ws (n - width_of w))))
    by_wire true e more = let here : n < width_of w = grind (arith, nat_tests) in Spells-bit_of_wire at w n rest h.0 here stop
    by_wire false e more = let past : width_of w ≤ n = grind (arith, nat_tests) in more (omega (arith, within, sum_by-cons width_of w ws))

-- a bit is tied as it is selected
tied-part : (at : ℕ) (w : Wire) (n : ℕ) → tied_symbols (tied_to (ident w.name at) (selected_of w.range n)) ≡ part_symbols (part_of at w n)
tied-part at w n = by_range w.range
  where
    by_range : (r : Option (ℕ × ℕ)) → tied_symbols (tied_to (ident w.name at) (selected_of r n)) ≡ Named (ident w.name at) ∷ selected_symbols (selected_of r n)
    by_range None = refl
    by_range (Some r) = refl

tied-bit : (at : ℕ) (wires : List Wire) (n : ℕ) → tied_symbols (tied_to (bit_part at wires n).net (bit_part at wires n).selected) ≡ part_symbols (bit_part at wires n)
tied-bit at [] n = refl
tied-bit at (w ∷ ws) n = by_wire (nat_lt n (width_of w)) (tied-bit at ws (n - width_of w))
  where
    by_wire : (t : Bool) → tied_symbols (tied_to (bit_part at ws (n - width_of w)).net (bit_part at ws (n - width_of w)).selected) ≡ part_symbols (bit_part at ws (n - width_of w))
        → tied_symbols (tied_to (cond t (part_of at w n) (bit_part at ws (n - width_of w))).net (cond t (part_of at w n) (bit_part at ws (n - width_of w))).selected) ≡ part_symbols (cond t (part_of at w n) (bit_part at ws (n - width_of w)))
    by_wire true e = tied-part at w n
    by_wire false e = e

-- what a pin is tied to
pub Spells-tied : (at : ℕ) (wires : List Wire) (s : Source) (rest : List ℕ) → AllByRecursion IsWrittenWire wires → IsSource (bits_of wires) s → Breaks rest → Spells at (source_text wires s) rest (tied_symbols (tied_of at wires s))
Spells-tied at wires (NetBit n) rest h within stop = subst (Spells at (bit_text wires n.0) rest) (sym (tied-bit at wires n.0)) (Spells-bit at wires n.0 rest h within stop)
Spells-tied at wires Zero rest h within stop = Spells-zero at rest stop
Spells-tied at wires One rest h within stop = Spells-one at rest stop
Spells-tied at wires Empty rest h within stop = Spells-nil at rest

-- the right side of an assignment
pub Spells-right : (at : ℕ) (wires : List Wire) (s : Source) (rest : List ℕ) → AllByRecursion IsWrittenWire wires → IsSource (bits_of wires) s → s ≢ Empty → Breaks rest → Spells at (source_text wires s) rest (right_symbols (right_of at wires s))
Spells-right at wires (NetBit n) rest h within some stop = Spells-bit at wires n.0 rest h within stop
Spells-right at wires Zero rest h within some stop = Spells-zero at rest stop
Spells-right at wires One rest h within some stop = Spells-one at rest stop
Spells-right at wires Empty rest h within some stop = absurd (some refl)

-- no star begins a name or a source
letter-no_star : (b : ℕ) → is_letter b ≡ true → nat_eq b star ≡ false
letter-no_star b h = grind (arith, nat_tests)

pub heads-spelled : (name rest : List ℕ) → IsName name → heads star (spelled name ++ rest) ≡ false
heads-spelled [] rest h = absurd (h.some refl)
heads-spelled (b ∷ bs) rest h = by_simple (is_letter b) (list_all is_word_byte bs) (is_among (b ∷ bs) keywords) refl
  where
    by_simple : (l w k : Bool) → is_letter b ≡ l → heads star (cond ((l && w) && not k) (b ∷ bs) (codes "\\" ++ (b ∷ bs) ++ codes " ") ++ rest) ≡ false
    by_simple true true false e = letter-no_star b e
    by_simple true true true e = refl
    by_simple true false k e = refl
    by_simple false w k e = refl

heads-bit : (wires : List Wire) (n : ℕ) (rest : List ℕ) → AllByRecursion IsWrittenWire wires → heads star rest ≡ false → heads star (bit_text wires n ++ rest) ≡ false
heads-bit [] n rest h stop = stop
heads-bit (w ∷ ws) n rest h stop = by_wire (nat_lt n (width_of w)) (heads-bit ws (n - width_of w) rest h.1 stop)
  where
    by_wire : (t : Bool) → heads star (bit_text ws (n - width_of w) ++ rest) ≡ false → heads star (cond t (bit_of_wire w n) (bit_text ws (n - width_of w)) ++ rest) ≡ false
    by_wire true e = ap (heads star) (append_assoc (spelled w.name) (index_text w.range n) rest) ∙ heads-spelled w.name (index_text w.range n ++ rest) h.0.name
    by_wire false e = e

pub heads-source : (wires : List Wire) (s : Source) (rest : List ℕ) → AllByRecursion IsWrittenWire wires → heads star rest ≡ false → heads star (source_text wires s ++ rest) ≡ false
heads-source wires (NetBit n) rest h stop = heads-bit wires n.0 rest h stop
heads-source wires Zero rest h stop = refl
heads-source wires One rest h stop = refl
heads-source wires Empty rest h stop = stop
