-- The text of a net bit, by its wire and how far it is from the wire's left bound.
use Rattle.std.proofs.Common.{◌≡◌, ℕ, ◌+◌, ◌-◌, ◌<◌, ◌≤◌, List, [], ◌∷◌, take, length, get_or, true, false, refl, ap, sym, ◌∙◌, arith, zero, suc}
use Rattle.std.proofs.lemmas.Bool.Decides.{nat_tests}
use Rattle.std.proofs.lemmas.List.Sums.{sum_by-cons}
use Rattle.std.proofs.lemmas.Option.{slice_get_within, slice_get_read, get_or_from_slice_get}
use Rattle.std.specs.Prelude.{nat_lt, slice_get, Some}
use Rattle.hold_netlist.specs.declared.wire.Wire.{Wire}
use Rattle.hold_netlist.specs.Bits.{width_of, bits_of, IsNetBit}
use Rattle.hold_netlist.specs.CanonicalText.{bit_text, bit_of_wire}
use Rattle.hold_netlist.specs.Numbering.{first_of}

text-at : (wires : List Wire) (n i k : ℕ) (w : Wire) → slice_get wires i ≡ Some w → n ≡ first_of width_of wires i + k → k < width_of w → bit_text wires n ≡ bit_of_wire w k
text-at [] n i k w at is h = absurd cc
text-at (v ∷ ws) n zero k w at is h =
    let same : v ≡ w = cc in
    let first : n ≡ k = omega (arith, is) in
    let short : n < width_of v = omega (arith, first, h, ap width_of same) in
    let inside : nat_lt n (width_of v) ≡ true = grind (arith, nat_tests) in
    rw inside (ap (λ (x : Wire). bit_of_wire x n) same ∙ ap (bit_of_wire w) first)
text-at (v ∷ ws) n (suc i) k w at is h =
    let split = sum_by-cons width_of v (take i ws) in
    let past : width_of v ≤ n = omega (arith, split, is) in
    let outside : nat_lt n (width_of v) ≡ false = grind (arith, nat_tests) in
    rw outside (text-at ws (n - width_of v) i k w at (omega (arith, split, is)) h)

-- a net bit of a wire
pub bit_text-here : (wires : List Wire) (n i k : ℕ) (w : Wire) → IsNetBit wires n i k → w ≡ get_or wires i w → bit_text wires n ≡ bit_of_wire w k
bit_text-here wires n i k w is here =
    let inside = slice_get_within wires i is.within.0 is.within.1 in
    let at : slice_get wires i ≡ Some w = slice_get_read wires (length wires) i w refl inside here in
    let same : is.within.0 ≡ w = sym (get_or_from_slice_get wires i is.within.0 w is.within.1) ∙ sym here in
    text-at wires n i k w at is.number (omega (arith, is.within.2, ap width_of same))

-- past the last there is none
pub bit_text-past : (wires : List Wire) (n : ℕ) → bits_of wires ≤ n → bit_text wires n ≡ []
bit_text-past [] n past = refl
bit_text-past (w ∷ ws) n past =
    let split = sum_by-cons width_of w ws in
    let outside : nat_lt n (width_of w) ≡ false = grind (arith, nat_tests) in
    rw outside (bit_text-past ws (n - width_of w) (omega (arith, split, past)))
