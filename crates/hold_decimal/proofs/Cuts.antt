-- Cuts: the one way in which a text falls into the parts of a number.
use Rattle.std.proofs.Common.{◌≡◌, ℕ, suc, ◌+◌, ◌-◌, ◌*◌, ◌^◌, ◌≤◌, ◌⊎◌, Bool, true, false, min, Option, Some, None, ◌≢◌, List, [], ◌∷◌, ◌++◌, length, take, drop, refl, ap, sym, subst, ◌∙◌, arith, take-append-drop, append-nil, inl, inr, add-one}
use Rattle.std.proofs.lemmas.List.{take_all}
use Rattle.std.proofs.Math.Seq.{take-append_seam, drop-append_seam}
use Rattle.std.proofs.lemmas.Bool.{eqb-true, eq-eqb}
use Rattle.std.proofs.lemmas.Bool.Decides.{nat_tests}
use Rattle.std.specs.Char.{is_ascii_digit}
use Rattle.std.specs.Prelude.{IfNone, ◌==◌, ◌||◌, if◌then◌else◌}
use Rattle.hold_base.specs.Limits.{time_limit}
use Rattle.hold_base.proofs.Digits.{is_ascii_digit-within, is_ascii_digit-bounds, is_ascii_digit-outside, ten-mono}
use Rattle.hold_decimal.proofs.Digits.{number_of-below}
use Rattle.hold_decimal.specs.Numeral.{AllDigits, IsSign, IsPoint, IsPower, IsExponent, Numeral, Spells}
use Rattle.hold_base.specs.Digits.{number_of}
use Rattle.hold_decimal.specs.inner.Reading.{leading, front_digits, after_digits, begins_with, after_sign, part_of, after_part}

-- the digits in front are digits
pub leading-digits : (xs : List ℕ) → AllDigits (take (leading xs) xs)
leading-digits [] = tt
leading-digits (x ∷ xs) = by_first (leading-digits xs) (is_ascii_digit x) refl
  where
    by_first : AllDigits (take (leading xs) xs) → (b : Bool) → is_ascii_digit x ≡ b → AllDigits (take (if b then leading xs + 1 else 0) (x ∷ xs))
    by_first rest true e = rw add-one ((is_ascii_digit-bounds x e).0, (is_ascii_digit-bounds x e).1, rest)
    by_first rest false e = tt

-- digits in front are counted all
pub leading-append : (ds xs : List ℕ) → AllDigits ds → leading (ds ++ xs) ≡ length ds + leading xs
leading-append [] xs d = omega arith
leading-append (b ∷ ds) xs d = rw (is_ascii_digit-within b d.0 d.1) (omega (arith, leading-append ds xs d.2))

pub leading_within : (xs : List ℕ) → leading xs ≤ length xs
leading_within [] = omega arith
leading_within (x ∷ xs) = by_first (leading_within xs) (is_ascii_digit x)
  where
    by_first : leading xs ≤ length xs → (b : Bool) → (if b then leading xs + 1 else 0) ≤ suc (length xs)
    by_first rest true = omega arith
    by_first rest false = omega arith

-- all are digits where all are counted
pub all_from_leading : (xs : List ℕ) → leading xs ≡ length xs → AllDigits xs
all_from_leading xs e = let h = leading-digits xs in subst AllDigits (ap (λ n. take n xs) e ∙ take_all (length xs) xs (omega arith)) h

pub leading_from_all : (xs : List ℕ) → AllDigits xs → leading xs ≡ length xs
leading_from_all xs d = sym (ap leading (append-nil xs)) ∙ leading-append xs [] d ∙ omega arith

-- the sign in front, if there is one
abbrev sign_text : List ℕ → List ℕ
sign_text [] = []
sign_text (b ∷ bs) = if b == 43 || b == 45 then b ∷ [] else []

sign_text-after_sign : (text : List ℕ) → text ≡ sign_text text ++ after_sign text
sign_text-after_sign [] = refl
sign_text-after_sign (b ∷ bs) = grind (arith, nat_tests)

IsSign-sign_text : (text : List ℕ) → IsSign (sign_text text) (begins_with 45 text)
IsSign-sign_text [] = refl
IsSign-sign_text (b ∷ bs) = by_sign (b == 43) (b == 45) refl refl
  where
    by_sign : (p m : Bool) → (b == 43) ≡ p → (b == 45) ≡ m → IsSign (if p || m then b ∷ [] else []) m
    by_sign true true e f = absurd (omega (arith, eqb-true b 43 e, eqb-true b 45 f))
    by_sign true false e f = inl (eqb-true b 43 e, refl)
    by_sign false true e f = inr (eqb-true b 45 f, refl)
    by_sign false false e f = refl

-- no sign stands first
abbrev pub BeginsWithoutSign : List ℕ → Type 0
BeginsWithoutSign [] = Unit {0}
BeginsWithoutSign (b ∷ bs) = (b ≢ 43) × (b ≢ 45)

pub after_sign-sign : (sign rest : List ℕ) (negative : Bool) → IsSign sign negative → BeginsWithoutSign rest → after_sign (sign ++ rest) ≡ rest
after_sign-sign [] [] negative h none = refl
after_sign-sign [] (b ∷ bs) negative h none = grind (arith, nat_tests)
after_sign-sign (c ∷ []) rest negative (inl h) none = grind (arith, nat_tests)
after_sign-sign (c ∷ []) rest negative (inr h) none = grind (arith, nat_tests)
after_sign-sign (c ∷ d ∷ more) rest negative h none = absurd h

pub begins_with-sign : (sign rest : List ℕ) (negative : Bool) → IsSign sign negative → BeginsWithoutSign rest → begins_with 45 (sign ++ rest) ≡ negative
begins_with-sign [] [] negative h none = sym h
begins_with-sign [] (b ∷ bs) negative h none = grind (arith, nat_tests)
begins_with-sign (c ∷ []) rest negative (inl h) none = grind (arith, nat_tests)
begins_with-sign (c ∷ []) rest negative (inr h) none = grind (arith, nat_tests)
begins_with-sign (c ∷ d ∷ more) rest negative h none = absurd h

-- the text is over, or an exponent's letter stands first
abbrev EndsDigits : List ℕ → Type 0
EndsDigits [] = Unit {0}
EndsDigits (b ∷ bs) = (b ≡ 101) ⊎ (b ≡ 69)

EndsDigits-exponent : (text : List ℕ) (raise lower : ℕ) → IsExponent text raise lower → EndsDigits text
EndsDigits-exponent [] raise lower h = tt
EndsDigits-exponent (b ∷ bs) raise lower h = h.0

leading-end : (rest : List ℕ) → EndsDigits rest → leading rest ≡ 0
leading-end [] h = refl
leading-end (b ∷ bs) (inl h) = rw (is_ascii_digit-outside b (inr (omega arith))) refl
leading-end (b ∷ bs) (inr h) = rw (is_ascii_digit-outside b (inr (omega arith))) refl

part_of-end : (rest : List ℕ) → EndsDigits rest → part_of rest ≡ []
part_of-end [] h = refl
part_of-end (b ∷ bs) (inl h) = grind (arith, nat_tests)
part_of-end (b ∷ bs) (inr h) = grind (arith, nat_tests)

after_part-end : (rest : List ℕ) → EndsDigits rest → after_part rest ≡ rest
after_part-end [] h = refl
after_part-end (b ∷ bs) (inl h) = grind (arith, nat_tests)
after_part-end (b ∷ bs) (inr h) = grind (arith, nat_tests)

-- the digits in front end where the others begin
take-leading : (ds rest : List ℕ) → AllDigits ds → leading rest ≡ 0 → take (leading (ds ++ rest)) (ds ++ rest) ≡ ds
take-leading ds rest d none = ap (λ n. take n (ds ++ rest)) (leading-append ds rest d ∙ omega arith) ∙ take-append_seam ds rest

drop-leading : (ds rest : List ℕ) → AllDigits ds → leading rest ≡ 0 → drop (leading (ds ++ rest)) (ds ++ rest) ≡ rest
drop-leading ds rest d none = ap (λ n. drop n (ds ++ rest)) (leading-append ds rest d ∙ omega arith) ∙ drop-append_seam ds rest

part_of-point : (point part rest : List ℕ) → IsPoint point part → AllDigits part → EndsDigits rest → part_of (point ++ (part ++ rest)) ≡ part
part_of-point [] part rest h d e = rw h (part_of-end rest e)
part_of-point (b ∷ []) part rest h d e = rw (eq-eqb b 46 h) (take-leading part rest d (leading-end rest e))
part_of-point (b ∷ c ∷ more) part rest h d e = absurd h

after_part-point : (point part rest : List ℕ) → IsPoint point part → AllDigits part → EndsDigits rest → after_part (point ++ (part ++ rest)) ≡ rest
after_part-point [] part rest h d e = rw h (after_part-end rest e)
after_part-point (b ∷ []) part rest h d e = rw (eq-eqb b 46 h) (drop-leading part rest d (leading-end rest e))
after_part-point (b ∷ c ∷ more) part rest h d e = absurd h

leading-point : (point part rest : List ℕ) → IsPoint point part → EndsDigits rest → leading (point ++ (part ++ rest)) ≡ 0
leading-point [] part rest h e = rw h (leading-end rest e)
leading-point (b ∷ []) part rest h e = rw (is_ascii_digit-outside b (inl (omega arith))) refl
leading-point (b ∷ c ∷ more) part rest h e = absurd h

without_sign : (whole point part rest : List ℕ) → AllDigits whole → IsPoint point part → 1 ≤ length whole + length part → BeginsWithoutSign (whole ++ (point ++ (part ++ rest)))
without_sign (b ∷ whole) point part rest d h some = ((λ e. absurd (omega arith)), (λ e. absurd (omega arith)))
without_sign [] [] part rest d h some = absurd (omega (arith, ap length h))
without_sign [] (b ∷ []) part rest d h some = ((λ e. absurd (omega arith)), (λ e. absurd (omega arith)))
without_sign [] (b ∷ c ∷ more) part rest d h some = absurd h

digits_without_sign : (digits : List ℕ) → AllDigits digits → BeginsWithoutSign digits
digits_without_sign [] d = tt
digits_without_sign (b ∷ digits) d = ((λ e. absurd (omega arith)), (λ e. absurd (omega arith)))

-- how the reader cuts a text
abbrev pub whole_of : List ℕ → List ℕ
whole_of text = front_digits (after_sign text)

abbrev pub after_whole : List ℕ → List ℕ
after_whole text = after_digits (after_sign text)

-- the numeral has the parts that the reader cuts out
pub record IsReading (text : List ℕ) (n : Numeral) : Type 0 where
  pub negative : n.negative ≡ begins_with 45 text
  pub whole : n.whole ≡ whole_of text
  pub part : n.part ≡ part_of (after_whole text)
  pub powered : IsExponent (after_part (after_whole text)) n.raise n.lower

-- a number of the grammar has the parts that the reader cuts out
pub reading-spelled : (text : List ℕ) (n : Numeral) → Spells text n → IsReading text n
reading-spelled text n s =
    let rest : List ℕ = s.point ++ (n.part ++ s.exponent) in
    let ends = EndsDigits-exponent s.exponent n.raise n.lower s.powered in
    let none = without_sign n.whole s.point n.part s.exponent s.whole_digits s.pointed s.some_digit in
    let unsigned : after_sign text ≡ n.whole ++ rest = ap after_sign s.cut ∙ after_sign-sign s.sign (n.whole ++ rest) n.negative s.signed none in
    let no_more = leading-point s.point n.part s.exponent s.pointed ends in
    let after : after_whole text ≡ rest = ap (λ w. drop (leading w) w) unsigned ∙ drop-leading n.whole rest s.whole_digits no_more in
    let last : after_part (after_whole text) ≡ s.exponent = ap after_part after ∙ after_part-point s.point n.part s.exponent s.pointed s.part_digits ends in
    record {
      negative = sym (ap (begins_with 45) s.cut ∙ begins_with-sign s.sign (n.whole ++ rest) n.negative s.signed none);
      whole = sym (ap (λ w. take (leading w) w) unsigned ∙ take-leading n.whole rest s.whole_digits no_more);
      part = sym (ap part_of after ∙ part_of-point s.point n.part s.exponent s.pointed s.part_digits ends);
      powered = subst (λ e. IsExponent e n.raise n.lower) (sym last) s.powered;
    }

-- the point in front, if there is one
abbrev point_text : List ℕ → List ℕ
point_text [] = []
point_text (b ∷ bs) = if b == 46 then b ∷ [] else []

point_text-parts : (text : List ℕ) → text ≡ point_text text ++ (part_of text ++ after_part text)
point_text-parts [] = refl
point_text-parts (b ∷ bs) = by_point (b == 46)
  where
    by_point : (p : Bool) → b ∷ bs ≡ (if p then b ∷ [] else []) ++ ((if p then take (leading bs) bs else []) ++ (if p then drop (leading bs) bs else b ∷ bs))
    by_point true = ap (λ l. b ∷ l) (sym (take-append-drop (leading bs) bs))
    by_point false = refl

IsPoint-point_text : (text : List ℕ) → IsPoint (point_text text) (part_of text)
IsPoint-point_text [] = refl
IsPoint-point_text (b ∷ bs) = by_point (b == 46) refl
  where
    by_point : (p : Bool) → (b == 46) ≡ p → IsPoint (if p then b ∷ [] else []) (if p then take (leading bs) bs else [])
    by_point true e = eqb-true b 46 e
    by_point false e = refl

AllDigits-part_of : (text : List ℕ) → AllDigits (part_of text)
AllDigits-part_of [] = tt
AllDigits-part_of (b ∷ bs) = by_point (b == 46)
  where
    by_point : (p : Bool) → AllDigits (if p then take (leading bs) bs else [])
    by_point true = leading-digits bs
    by_point false = tt

-- and a numeral of those parts is in the grammar
pub spelled-reading : (text : List ℕ) (n : Numeral) → IsReading text n → 1 ≤ length n.whole + length n.part → Spells text n
spelled-reading text n r some =
    let rest = after_whole text in
    record {
      sign = sign_text text;
      point = point_text rest;
      exponent = after_part rest;
      cut = sign_text-after_sign text ∙ ap (λ l. sign_text text ++ l) (sym (take-append-drop (leading (after_sign text)) (after_sign text)) ∙ (λ i. sym r.whole i ++ (point_text-parts rest ∙ ap (λ p. point_text rest ++ (p ++ after_part rest)) (sym r.part)) i));
      signed = subst (IsSign (sign_text text)) (sym r.negative) (IsSign-sign_text text);
      whole_digits = subst AllDigits (sym r.whole) (leading-digits (after_sign text));
      pointed = subst (IsPoint (point_text rest)) (sym r.part) (IsPoint-point_text rest);
      part_digits = subst AllDigits (sym r.part) (AllDigits-part_of rest);
      some_digit = some;
      powered = r.powered;
    }

-- what a power's text says
pub record IsPowerReading (text : List ℕ) (raise lower : ℕ) : Type 0 where
  pub raised : raise ≡ (if begins_with 45 text then 0 else number_of (after_sign text))
  pub lowered : lower ≡ (if begins_with 45 text then number_of (after_sign text) else 0)
  pub all_digits : AllDigits (after_sign text)
  pub one : 1 ≤ length (after_sign text)
  pub three : length (after_sign text) ≤ 3

pub reading-power : (text : List ℕ) (raise lower : ℕ) → IsPower text raise lower → IsPowerReading text raise lower
reading-power text raise lower p =
    let none = digits_without_sign p.digits p.all_digits in
    let digits : after_sign text ≡ p.digits = ap after_sign p.cut ∙ after_sign-sign p.sign p.digits p.negative p.signed none in
    let sign : begins_with 45 text ≡ p.negative = ap (begins_with 45) p.cut ∙ begins_with-sign p.sign p.digits p.negative p.signed none in
    record {
      raised = p.raised ∙ (λ i. if sym sign i then 0 else number_of (sym digits i));
      lowered = p.lowered ∙ (λ i. if sym sign i then number_of (sym digits i) else 0);
      all_digits = subst AllDigits (sym digits) p.all_digits;
      one = subst (λ d. 1 ≤ length d) (sym digits) p.one;
      three = subst (λ d. length d ≤ 3) (sym digits) p.three;
    }

pub power-reading : (text : List ℕ) (raise lower : ℕ) → IsPowerReading text raise lower → IsPower text raise lower
power-reading text raise lower r = record {
  sign = sign_text text;
  negative = begins_with 45 text;
  digits = after_sign text;
  cut = sign_text-after_sign text;
  signed = IsSign-sign_text text;
  all_digits = r.all_digits;
  one = r.one;
  three = r.three;
  raised = r.raised;
  lowered = r.lowered;
}

exponent-one : (text : List ℕ) (raise lower raise' lower' : ℕ) → IsExponent text raise lower → IsExponent text raise' lower' → (raise ≡ raise') × (lower ≡ lower')
exponent-one [] raise lower raise' lower' h k = (h.0 ∙ sym k.0, h.1 ∙ sym k.1)
exponent-one (b ∷ bs) raise lower raise' lower' h k =
    let first = reading-power bs raise lower h.1 in
    let second = reading-power bs raise' lower' k.1 in
    (first.raised ∙ sym second.raised, first.lowered ∙ sym second.lowered)

-- a text spells one number at most
pub numeral-one : (text : List ℕ) (n m : Numeral) → Spells text n → Spells text m → n ≡ m
numeral-one text n m s t =
    let first = reading-spelled text n s in
    let second = reading-spelled text m t in
    let powers = exponent-one (after_part (after_whole text)) n.raise n.lower m.raise m.lower first.powered second.powered in
    λ i. record {
      negative = (first.negative ∙ sym second.negative) i;
      whole = (first.whole ∙ sym second.whole) i;
      part = (first.part ∙ sym second.part) i;
      raise = powers.0 i;
      lower = powers.1 i;
    }

-- no number has no digit
pub no_digits : (text : List ℕ) → whole_of text ≡ [] → part_of (after_whole text) ≡ [] → (n : Numeral) → Spells text n → ⊥
no_digits text whole part n s =
    let r = reading-spelled text n s in
    let none : 1 ≤ 0 = subst (λ k. 1 ≤ k) (λ i. length ((r.whole ∙ whole) i) + length ((r.part ∙ part) i)) s.some_digit in
    absurd (omega arith)

-- no number has another exponent
pub no_exponent : (text : List ℕ) → ((raise lower : ℕ) → IsExponent (after_part (after_whole text)) raise lower → ⊥) → (n : Numeral) → Spells text n → ⊥
no_exponent text none n s = none n.raise n.lower (reading-spelled text n s).powered

-- three digits write less than 1000
pub number_of-three : (digits : List ℕ) → AllDigits digits → length digits ≤ 3 → number_of digits ≤ 999
number_of-three digits d short = let bound : 10 ^ length digits ≤ 10 ^ 3 = ten-mono (length digits) 3 short in omega (arith, number_of-below digits d)

-- what stands behind the first byte is no power, so the text is no exponent
pub no_power : {A : Type 0} (text : List ℕ) (r : Option A) → 1 ≤ length text → IfNone r ((raise lower : ℕ) → IsPower (take (length text - 1) (drop 1 text)) raise lower → ⊥) → IfNone r ((raise lower : ℕ) → IsExponent text raise lower → ⊥)
no_power text (Some x) some h = tt
no_power [] None some h = absurd (omega arith)
no_power (b ∷ bs) None some h = λ raise lower e. h raise lower (subst (λ t. IsPower t raise lower) (sym (take_all (suc (length bs) - 1) bs (omega arith))) e.1)

-- a count of up to three digits stays below the limit
pub small_count : (digits : List ℕ) (n : ℕ) → AllDigits digits → length digits ≤ 3 → n ≡ min (0 * 10 ^ length digits + number_of digits) (time_limit + 1) → (n ≡ number_of digits) × (n ≤ 999)
small_count digits n d short e =
    let bound = number_of-three digits d short in
    (omega arith, omega arith)

-- the power of a short number behind a minus, and of one behind none
pub power-below : (text digits : List ℕ) (n : ℕ) → digits ≡ after_sign text → AllDigits digits × (1 ≤ length digits) × (length digits ≤ 3) → begins_with 45 text ≡ true → n ≡ number_of digits → IsPower text 0 n
power-below text digits n cut short minus size = power-reading text 0 n (record {
  raised = sym (ap (λ b. if b then 0 else number_of (after_sign text)) minus);
  lowered = size ∙ ap number_of cut ∙ sym (ap (λ b. if b then number_of (after_sign text) else 0) minus);
  all_digits = subst AllDigits cut short.0;
  one = subst (λ d. 1 ≤ length d) cut short.1;
  three = subst (λ d. length d ≤ 3) cut short.2;
})

pub power-above : (text digits : List ℕ) (n : ℕ) → digits ≡ after_sign text → AllDigits digits × (1 ≤ length digits) × (length digits ≤ 3) → begins_with 45 text ≡ false → n ≡ number_of digits → IsPower text n 0
power-above text digits n cut short plus size = power-reading text n 0 (record {
  raised = size ∙ ap number_of cut ∙ sym (ap (λ b. if b then 0 else number_of (after_sign text)) plus);
  lowered = sym (ap (λ b. if b then number_of (after_sign text) else 0) plus);
  all_digits = subst AllDigits cut short.0;
  one = subst (λ d. 1 ≤ length d) cut short.1;
  three = subst (λ d. length d ≤ 3) cut short.2;
})
