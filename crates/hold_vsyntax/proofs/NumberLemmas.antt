-- What a number is whose first digits are read, and that decimal digits write the number that std reads in them.
use Rattle.std.proofs.Common.{◌≡◌, ℕ, zero, suc, ◌+◌, ◌-◌, ◌*◌, ◌<◌, ◌≤◌, ◌^◌, true, List, [], ◌∷◌, length, drop, get_or, refl, sym, ◌∙◌, ap, arith}
use Rattle.std.specs.Char.{digit_value, is_ascii_digit}
use Rattle.std.specs.Fmt.{decimal}
use Rattle.std.specs.List.{list_all}
use Rattle.std.specs.Prelude.{IsTrue}
use Rattle.std.specs.Str.Parse.{AllDigits, digits_value, digits_value_after}
use Rattle.std.proofs.lemmas.Fmt.{decimal_is_IsNumeral}
use Rattle.std.proofs.lemmas.Str.{digit_value_digit}
use Rattle.std.proofs.lemmas.Str.Parse.{digit_from_value}
use Rattle.hold_base.specs.Digits.{number_of}
use Rattle.hold_base.specs.inner.Digits.{number_from}
use Rattle.hold_base.proofs.Digits.{is_ascii_digit-within, number_from-is}
use Rattle.hold_vsyntax.specs.inner.Number.{value_of}
use Rattle.hold_vsyntax.specs.declared.number.Kept.{Kept}
use Rattle.hold_vsyntax.specs.declared.number.Kept.TheVariants.{Small}

-- digits behind nothing
pub number_from-zero : (digits : List ℕ) → number_from 0 digits ≡ number_of digits
number_from-zero digits = omega (arith, number_from-is 0 digits)

-- more digits don't make a number less
number_from_grows : (n : ℕ) (digits : List ℕ) → n ≤ number_from n digits
number_from_grows n [] = omega arith
number_from_grows n (d ∷ ds) = omega (arith, number_from_grows (n * 10 + (d - 48)) ds)

-- one digit further
pub number_from-drop : (n : ℕ) (digits : List ℕ) (i : ℕ) → i < length digits
    → number_from n (drop i digits) ≡ number_from (n * 10 + (get_or digits i 0 - 48)) (drop (suc i) digits)
number_from-drop n [] i h = absurd (omega arith)
number_from-drop n (d ∷ ds) zero h = refl
number_from-drop n (d ∷ ds) (suc i) h = number_from-drop n ds i (omega arith)

-- it is no less than what its first digits write
pub at_least_front : (n total : ℕ) (digits : List ℕ) (i : ℕ) → i < length digits → number_from n (drop i digits) ≡ total
    → n * 10 + (get_or digits i 0 - 48) ≤ total
at_least_front n total digits i h e =
    omega (arith, number_from-drop n digits i h, number_from_grows (n * 10 + (get_or digits i 0 - 48)) (drop (suc i) digits))

-- decimal digits behind those of a number write what std reads in them
number_from-digits : (n : ℕ) (digits : List ℕ) → AllDigits 10 digits → number_from n digits ≡ digits_value_after 10 n digits
number_from-digits n [] h = refl
number_from-digits n (d ∷ ds) h =
    let value : n * 10 + (d - 48) ≡ n * 10 + digit_value d = omega (arith, digit_value_digit d (digit_from_value d h.0)) in
    ap (λ (m : ℕ). number_from m ds) value ∙ number_from-digits (n * 10 + digit_value d) ds h.1

pub number_of-digits : (digits : List ℕ) → AllDigits 10 digits → number_of digits ≡ digits_value 10 digits
number_of-digits digits h = sym (number_from-zero digits) ∙ number_from-digits 0 digits h

-- decimal digits as bytes
pub is_digit-from_value : (c : ℕ) → digit_value c < 10 → is_ascii_digit c ≡ true
is_digit-from_value c h = let bounds = digit_from_value c h in is_ascii_digit-within c bounds.0 bounds.1

pub all-digits : (ds : List ℕ) → AllDigits 10 ds → list_all is_ascii_digit ds ≡ true
all-digits [] h = refl
all-digits (c ∷ cs) h = rw (is_digit-from_value c h.0) (all-digits cs h.1)

-- what std writes of a number
pub decimal-digits : (n : ℕ) → n < 2 ^ 64 → IsTrue (list_all is_ascii_digit (decimal n))
decimal-digits n small = let h = decimal_is_IsNumeral n small in all-digits (decimal n) h.0.1

pub number_of-decimal : (n : ℕ) → n < 2 ^ 64 → number_of (decimal n) ≡ n
number_of-decimal n small = let h = decimal_is_IsNumeral n small in number_of-digits (decimal n) h.0.1 ∙ h.1

-- the number of plain digits that were taken from what std writes of a small number
pub number_of-written : (kept : Kept) (n number : ℕ) (plain text written : List ℕ) → kept ≡ Small n → value_of kept ≡ number → n < 2 ^ 64
    → number_of plain ≡ number_of text → text ≡ written → written ≡ decimal n → number_of plain ≡ number
number_of-written kept n number plain text written is view small same bytes write =
    same ∙ ap number_of (bytes ∙ write) ∙ number_of-decimal n small ∙ sym (ap value_of is) ∙ view
