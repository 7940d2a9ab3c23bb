-- The lists of a netlist from those of a syntax tree.
use Rattle.std.proofs.Common.{◌≡◌, ℕ, suc, ◌+◌, ◌-◌, ◌<◌, ◌∷◌, refl, ap, ◌∙◌, zero, map, length, arith}
use Rattle.std.specs.Prelude.{min}
use Rattle.std.specs.List.{range_with_len}
use Rattle.hold_vparse.specs.Declares.{tied_bits, net_bit, net_number}

tied-same : (l r n l' r' n' : ℕ) → l ≡ l' → r ≡ r' → n ≡ n' → tied_bits (range_with_len l n) (map net_bit (range_with_len r n)) ≡ tied_bits (range_with_len l' n') (map net_bit (range_with_len r' n'))
tied-same l r n l' r' n' a b c =
    ap (λ (k : ℕ). tied_bits (range_with_len k n) (map net_bit (range_with_len r n))) a
    ∙ ap (λ (k : ℕ). tied_bits (range_with_len l' n) (map net_bit (range_with_len k n))) b
    ∙ ap (λ (k : ℕ). tied_bits (range_with_len l' k) (map net_bit (range_with_len r' k))) c

-- one bit of an assignment, and the bits that are left
pub tied_bits-step : (l r c i : ℕ) → i < c
    → tied_bits (range_with_len (l + i) (c - i)) (map net_bit (range_with_len (r + i) (c - i)))
    ≡ record { left = net_number (l + i); right = net_bit (r + i) } ∷ tied_bits (range_with_len (l + (i + 1)) (c - (i + 1))) (map net_bit (range_with_len (r + (i + 1)) (c - (i + 1))))
tied_bits-step l r c i h =
    let more : c - i ≡ suc (c - (i + 1)) = omega arith in
    tied-same (l + i) (r + i) (c - i) (l + i) (r + i) (suc (c - (i + 1))) refl refl more
    ∙ ap (λ rest. record { left = net_number (l + i); right = net_bit (r + i) } ∷ rest)
    (tied-same (l + i + 1) (r + i + 1) (c - (i + 1)) (l + (i + 1)) (r + (i + 1)) (c - (i + 1)) (omega arith) (omega arith) refl)

-- as many assignments as the shorter side has bits
pub length-tied_bits : (a n b k : ℕ) → length (tied_bits (range_with_len a n) (map net_bit (range_with_len b k))) ≡ min n k
length-tied_bits a zero b k = omega arith
length-tied_bits a (suc n) b zero = omega arith
length-tied_bits a (suc n) b (suc k) = omega (arith, length-tied_bits (a + 1) n (b + 1) k)
