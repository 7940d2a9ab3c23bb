-- The function that cuts a number into its parts gives what the grammar of numbers says.
use Rattle.std.proofs.Common.{◌≡◌, ℕ, ◌+◌, ◌≤◌, Bool, true, false, Option, Some, None, List, [], ◌∷◌, length, take, drop, refl, ap, sym, subst, ◌∙◌, arith, inl, inr, add-one}
use Rattle.std.specs.Prelude.{if◌then◌else◌, ◌==◌, ◌&&◌, ◌||◌, nat_le, option_map}
use Rattle.std.specs.List.{list_all}
use Rattle.std.specs.Char.{is_ascii_digit}
use Rattle.std.proofs.lemmas.Bool.{eqb-true, eq-eqb}
use Rattle.std.proofs.lemmas.Bool.Decides.{nat_tests}
use Rattle.hold_base.specs.Digits.{number_of}
use Rattle.hold_base.proofs.Digits.{is_ascii_digit-within, is_ascii_digit-bounds}
use Rattle.hold_base.proofs.Options.{option_map-Some}
use Rattle.hold_decimal.specs.Numeral.{AllDigits, IsPower, IsExponent, Numeral, Spells}
use Rattle.hold_decimal.specs.inner.Reading.{leading, front_digits, after_digits, begins_with, after_sign, part_of as part_read, after_part}
use Rattle.hold_decimal.proofs.Cuts.{reading-spelled, spelled-reading, reading-power, power-reading}
use Rattle.hold_sdf.specs.Times.{digits, behind_digits, begins, behind_sign, part_of, behind_part, power_of, exponent_of, numeral_by, numeral_of}

digits-front : (xs : List ℕ) → digits xs ≡ front_digits xs
digits-front [] = refl
digits-front (b ∷ bs) = by_first (digits-front bs) (is_ascii_digit b)
  where
    by_first : digits bs ≡ front_digits bs → (t : Bool) → (if t then b ∷ digits bs else []) ≡ take (if t then leading bs + 1 else 0) (b ∷ bs)
    by_first rest true = rw add-one (ap (λ ds. b ∷ ds) rest)
    by_first rest false = refl

behind_digits-after : (xs : List ℕ) → behind_digits xs ≡ after_digits xs
behind_digits-after [] = refl
behind_digits-after (b ∷ bs) = by_first (behind_digits-after bs) (is_ascii_digit b)
  where
    by_first : behind_digits bs ≡ after_digits bs → (t : Bool) → (if t then behind_digits bs else b ∷ bs) ≡ drop (if t then leading bs + 1 else 0) (b ∷ bs)
    by_first rest true = rw add-one rest
    by_first rest false = refl

begins-with : (sign : ℕ) (xs : List ℕ) → begins sign xs ≡ begins_with sign xs
begins-with sign [] = refl
begins-with sign (b ∷ bs) = refl

behind_sign-after : (xs : List ℕ) → behind_sign xs ≡ after_sign xs
behind_sign-after [] = refl
behind_sign-after (b ∷ bs) = refl

part_of-read : (xs : List ℕ) → part_of xs ≡ part_read xs
part_of-read [] = refl
part_of-read (b ∷ bs) = ap (λ ds. if b == 46 then ds else []) (digits-front bs)

behind_part-after : (xs : List ℕ) → behind_part xs ≡ after_part xs
behind_part-after [] = refl
behind_part-after (b ∷ bs) = ap (λ ds. if b == 46 then ds else b ∷ bs) (behind_digits-after bs)

-- all digits, by a test
all_digits-true : (xs : List ℕ) → AllDigits xs → list_all is_ascii_digit xs ≡ true
all_digits-true [] d = refl
all_digits-true (b ∷ bs) d = rw (is_ascii_digit-within b d.0 d.1) (all_digits-true bs d.2)

true-all_digits : (xs : List ℕ) → list_all is_ascii_digit xs ≡ true → AllDigits xs
true-all_digits [] e = tt
true-all_digits (b ∷ bs) e = by_first (true-all_digits bs) (is_ascii_digit b) refl e
  where
    by_first : (list_all is_ascii_digit bs ≡ true → AllDigits bs) → (t : Bool) → is_ascii_digit b ≡ t → t && list_all is_ascii_digit bs ≡ true → AllDigits (b ∷ bs)
    by_first rest true is e = ((is_ascii_digit-bounds b is).0, (is_ascii_digit-bounds b is).1, rest e)
    by_first rest false is e = cc

at_least : {n : ℕ} → nat_le 1 n ≡ true → 1 ≤ n
at_least {n} e = grind (arith, nat_tests)

at_most : {n : ℕ} → nat_le n 3 ≡ true → n ≤ 3
at_most {n} e = grind (arith, nat_tests)

-- one to three digits
record IsShort (text : List ℕ) (n : ℕ) : Type 0 where
  pub value : n ≡ number_of text
  pub all : AllDigits text
  pub one : 1 ≤ length text
  pub three : length text ≤ 3

power_of-short : (text : List ℕ) (n : ℕ) → power_of text ≡ Some n → IsShort text n
power_of-short text n is = by_tests (list_all is_ascii_digit text) (nat_le 1 (length text)) (nat_le (length text) 3) refl refl refl is
  where
    by_tests : (a b c : Bool) → list_all is_ascii_digit text ≡ a → nat_le 1 (length text) ≡ b → nat_le (length text) 3 ≡ c → (if a && (b && c) then Some (number_of text) else None) ≡ Some n → IsShort text n
    by_tests true true true d one three e = record { value = sym (cc); all = true-all_digits text d; one = at_least one; three = at_most three }
    by_tests true true false d one three e = cc
    by_tests true false c d one three e = cc
    by_tests false b c d one three e = cc

short-power_of : (text : List ℕ) → AllDigits text → 1 ≤ length text → length text ≤ 3 → power_of text ≡ Some (number_of text)
short-power_of text d one three = rw (all_digits-true text d) (let low : nat_le 1 (length text) ≡ true = grind (arith, nat_tests) in let high : nat_le (length text) 3 ≡ true = grind (arith, nat_tests) in rw (low, high) refl)

-- by how much a power raises and lowers
abbrev by_sign : Bool → ℕ → ℕ × ℕ
by_sign lowers n = if lowers then (0, n) else (n, 0)

abbrev power_parts : List ℕ → Option (ℕ × ℕ)
power_parts bs = option_map (by_sign (begins 45 bs)) (power_of (behind_sign bs))

power_parts-IsPower : (bs : List ℕ) (raise lower : ℕ) → IsPower bs raise lower → power_parts bs ≡ Some (raise, lower)
power_parts-IsPower bs raise lower p =
    let r = reading-power bs raise lower p in
    rw (begins-with 45 bs, behind_sign-after bs, short-power_of (after_sign bs) r.all_digits r.one r.three) (by_minus (begins_with 45 bs) (number_of (after_sign bs)) r.raised r.lowered)
  where
    by_minus : (t : Bool) (n : ℕ) → raise ≡ (if t then 0 else n) → lower ≡ (if t then n else 0) → Some (by_sign t n) ≡ Some (raise, lower)
    by_minus true n e f = λ i. Some (sym e i, sym f i)
    by_minus false n e f = λ i. Some (sym e i, sym f i)

signed_parts : (t : Bool) (n raise lower : ℕ) → by_sign t n ≡ (raise, lower) → (raise ≡ (if t then 0 else n)) × (lower ≡ (if t then n else 0))
signed_parts true n raise lower e = (sym (ap (λ p. p.0) e), sym (ap (λ p. p.1) e))
signed_parts false n raise lower e = (sym (ap (λ p. p.0) e), sym (ap (λ p. p.1) e))

IsPower-power_parts : (bs : List ℕ) (raise lower : ℕ) → power_parts bs ≡ Some (raise, lower) → IsPower bs raise lower
IsPower-power_parts bs raise lower is =
    let found = option_map-Some (by_sign (begins 45 bs)) (power_of (behind_sign bs)) (raise, lower) is in
    let short = power_of-short (behind_sign bs) found.0 found.1 in
    let text = behind_sign-after bs in
    let parts = signed_parts (begins 45 bs) found.0 raise lower found.2 in
    let sign = begins-with 45 bs in
    let size : found.0 ≡ number_of (after_sign bs) = short.value ∙ ap number_of text in
    power-reading bs raise lower (record {
      raised = parts.0 ∙ (λ i. if sign i then 0 else size i);
      lowered = parts.1 ∙ (λ i. if sign i then size i else 0);
      all_digits = subst AllDigits text short.all;
      one = subst (λ d. 1 ≤ length d) text short.one;
      three = subst (λ d. length d ≤ 3) text short.three;
    })

exponent_of-IsExponent : (text : List ℕ) (raise lower : ℕ) → IsExponent text raise lower → exponent_of text ≡ Some (raise, lower)
exponent_of-IsExponent [] raise lower h = λ i. Some (sym h.0 i, sym h.1 i)
exponent_of-IsExponent (b ∷ bs) raise lower (inl e, p) = rw (eq-eqb b 101 e) (power_parts-IsPower bs raise lower p)
exponent_of-IsExponent (b ∷ bs) raise lower (inr e, p) = let not_small : (b == 101) ≡ false = grind (arith, nat_tests) in rw (not_small, eq-eqb b 69 e) (power_parts-IsPower bs raise lower p)

no_exponent : {raise lower : ℕ} → ◌≡◌ {A = Option (ℕ × ℕ)} (Some (0, 0)) (Some (raise, lower)) → (raise ≡ 0) × (lower ≡ 0)
no_exponent {raise} {lower} is = let parts : ◌≡◌ {A = ℕ × ℕ} (0, 0) (raise, lower) = cc in (sym (ap (λ p. p.0) parts), sym (ap (λ p. p.1) parts))

IsExponent-exponent_of : (text : List ℕ) (raise lower : ℕ) → exponent_of text ≡ Some (raise, lower) → IsExponent text raise lower
IsExponent-exponent_of [] raise lower is = no_exponent is
IsExponent-exponent_of (b ∷ bs) raise lower is = by_letter (b == 101) (b == 69) refl refl is
  where
    by_letter : (s t : Bool) → (b == 101) ≡ s → (b == 69) ≡ t → (if s || t then power_parts bs else None) ≡ Some (raise, lower) → IsExponent (b ∷ bs) raise lower
    by_letter true t e f is = (inl (eqb-true b 101 e), IsPower-power_parts bs raise lower is)
    by_letter false true e f is = (inr (eqb-true b 69 f), IsPower-power_parts bs raise lower is)
    by_letter false false e f is = cc

numeral_by-some : (n : Numeral) → 1 ≤ length n.whole + length n.part → numeral_by n.negative n.whole n.part (Some (n.raise, n.lower)) ≡ Some n
numeral_by-some n some = let one : nat_le 1 (length n.whole + length n.part) ≡ true = grind (arith, nat_tests) in rw one refl

-- a text that spells a number has its parts
pub numeral_of-spelled : (text : List ℕ) (n : Numeral) → Spells text n → numeral_of text ≡ Some n
unfolding numeral_of
numeral_of-spelled text n s =
    let r = reading-spelled text n s in
    let unsigned = behind_sign-after text in
    let whole = ap digits unsigned ∙ digits-front (after_sign text) ∙ sym r.whole in
    let rest = ap behind_digits unsigned ∙ behind_digits-after (after_sign text) in
    let part = ap part_of rest ∙ part_of-read (after_digits (after_sign text)) ∙ sym r.part in
    let last = ap behind_part rest ∙ behind_part-after (after_digits (after_sign text)) in
    let exponent = ap exponent_of last ∙ exponent_of-IsExponent (after_part (after_digits (after_sign text))) n.raise n.lower r.powered in
    (λ i. numeral_by ((begins-with 45 text ∙ sym r.negative) i) (whole i) (part i) (exponent i)) ∙ numeral_by-some n s.some_digit

-- and parts that were cut out are those of a number that the text spells
record IsCut (negative : Bool) (whole part : List ℕ) (exponent : Option (ℕ × ℕ)) (n : Numeral) : Type 0 where
  pub negative_is : n.negative ≡ negative
  pub whole_is : n.whole ≡ whole
  pub part_is : n.part ≡ part
  pub exponent_is : exponent ≡ Some (n.raise, n.lower)
  pub some : 1 ≤ length n.whole + length n.part

cut_of : (negative : Bool) (whole part : List ℕ) (exponent : Option (ℕ × ℕ)) (n : Numeral) → numeral_by negative whole part exponent ≡ Some n → IsCut negative whole part exponent n
cut_of negative whole part None n is = by_some (nat_le 1 (length whole + length part)) is
  where
    by_some : (t : Bool) → (if t then None else None) ≡ Some n → IsCut negative whole part None n
    by_some true e = cc
    by_some false e = cc
cut_of negative whole part (Some e) n is = by_some (nat_le 1 (length whole + length part)) refl is
  where
    by_some : (t : Bool) → nat_le 1 (length whole + length part) ≡ t → (if t then Some (record { negative = negative; whole = whole; part = part; raise = e.0; lower = e.1 }) else None) ≡ Some n → IsCut negative whole part (Some e) n
    by_some true low is =
        let same : record { negative = negative; whole = whole; part = part; raise = e.0; lower = e.1 } ≡ n = cc in
        subst (IsCut negative whole part (Some e)) same (record { negative_is = refl; whole_is = refl; part_is = refl; exponent_is = refl; some = at_least low })
    by_some false low is = cc

pub spelled-numeral_of : (text : List ℕ) (n : Numeral) → numeral_of text ≡ Some n → Spells text n
unfolding numeral_of
spelled-numeral_of text n is =
    let unsigned = behind_sign-after text in
    let rest = ap behind_digits unsigned ∙ behind_digits-after (after_sign text) in
    let cut = cut_of (begins 45 text) (digits (behind_sign text)) (part_of (behind_digits (behind_sign text))) (exponent_of (behind_part (behind_digits (behind_sign text)))) n is in
    spelled-reading text n (record {
      negative = cut.negative_is ∙ begins-with 45 text;
      whole = cut.whole_is ∙ ap digits unsigned ∙ digits-front (after_sign text);
      part = cut.part_is ∙ ap part_of rest ∙ part_of-read (after_digits (after_sign text));
      powered = IsExponent-exponent_of (after_part (after_digits (after_sign text))) n.raise n.lower (sym (ap exponent_of (ap behind_part rest ∙ behind_part-after (after_digits (after_sign text)))) ∙ cut.exponent_is);
    }) cut.some
