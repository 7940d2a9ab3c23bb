-- A number is read from its own text, and from no other.
use Rattle.std.proofs.Common.{◌≡◌, ℕ, ◌<◌, List, true, sym, ap, ◌∙◌, arith}
use Rattle.std.specs.Prelude.{◌^◌, Some, None, nat_lt, ◌&&◌, decimal}
use Rattle.std.specs.Str.{bytes_eq, IsUtf8}
use Rattle.std.specs.Str.Parse.{digits_value}
use Rattle.std.proofs.lemmas.Bool.{and_parts}
use Rattle.std.proofs.lemmas.Bool.Decides.{nat_tests}
use Rattle.std.proofs.lemmas.Fmt.{decimal_is_IsNumeral, IsAscii-decimal}
use Rattle.std.proofs.lemmas.Str.{IsUtf8-from_ascii}
use Rattle.hold_base.proofs.Bools.{and-true}
use Rattle.hold_base.proofs.Bytes.{bytes_eq-self, bytes_eq-same}
use Rattle.hold_certtext.specs.inner.Parsing.{guard, read_number}
use Rattle.hold_certtext.proofs.GuardLemmas.{guard-Some, guard-true, guard-never}

pub read_number-decimal : (n : ℕ) → n < 2 ^ 64 → read_number (decimal n) ≡ Some n
unfolding read_number
read_number-decimal n small =
    let value : digits_value 10 (decimal n) ≡ n = (decimal_is_IsNumeral n small).1 in
    let below : nat_lt n 18446744073709551616 ≡ true = grind (arith, nat_tests) in
    ap (λ v. guard (bytes_eq (decimal v) (decimal n) && nat_lt v 18446744073709551616) v) value
    ∙ guard-true (bytes_eq (decimal n) (decimal n) && nat_lt n 18446744073709551616) n (and-true (bytes_eq (decimal n) (decimal n)) (nat_lt n 18446744073709551616) (bytes_eq-self (decimal n)) below)

pub read_number-back : (word : List ℕ) (n : ℕ) → read_number word ≡ Some n → (decimal n ≡ word) × (n < 2 ^ 64)
unfolding read_number
read_number-back word n h =
    let value = digits_value 10 word in
    let found = guard-Some (bytes_eq (decimal value) word && nat_lt value 18446744073709551616) value n h in
    let parts = and_parts (bytes_eq (decimal value) word) (nat_lt value 18446744073709551616) found.0 in
    let test : nat_lt value 18446744073709551616 ≡ true = parts.1 in
    let below : value < 18446744073709551616 = grind (arith, nat_tests) in
    (ap decimal (sym found.1) ∙ bytes_eq-same (decimal value) word parts.0, omega (arith, found.1))

-- a word is read as no number where it is the text of none
pub read_number-never : (word : List ℕ) → ((n : ℕ) → n < 2 ^ 64 → word ≡ decimal n → ⊥) → None ≡ read_number word
unfolding read_number
read_number-never word never =
    let value = digits_value 10 word in
    sym (guard-never (bytes_eq (decimal value) word && nat_lt value 18446744073709551616) value
    (λ h.
    let parts = and_parts (bytes_eq (decimal value) word) (nat_lt value 18446744073709551616) h in
    let test : nat_lt value 18446744073709551616 ≡ true = parts.1 in
    never value (grind (arith, nat_tests)) (sym (bytes_eq-same (decimal value) word parts.0))))

pub utf8-decimal : (word : List ℕ) (n : ℕ) → n < 2 ^ 64 → word ≡ decimal n → IsUtf8 word
utf8-decimal word n small is = rw is (IsUtf8-from_ascii (decimal n) (IsAscii-decimal n small))

-- a word that std parses is read as that number where it is its text
pub read_number-text : (word text : List ℕ) (n : ℕ) → n < 2 ^ 64 → text ≡ decimal n → text ≡ word → Some n ≡ read_number word
read_number-text word text n small printed is = sym (ap read_number (sym is ∙ printed) ∙ read_number-decimal n small)
