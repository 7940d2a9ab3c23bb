-- The loops that read pins and terms: what was read and what the words left are read as make the same whole.
use Rattle.std.proofs.Common.{◌≡◌, ℕ, ◌<◌, List, [], ◌∷◌, ◌++◌, Bool, true, false, cond, length, refl, sym, ap, ◌∙◌, arith, append_assoc, append-nil}
use Rattle.std.specs.Prelude.{Option, None, Some, nat_le}
use Rattle.std.specs.Str.{bytes_eq}
use Rattle.std.proofs.lemmas.Option.{none-some}
use Rattle.hold_base.proofs.Options.{option_and_then-Some}
use Rattle.hold_base.specs.declared.number.PinNo.{PinNo}
use Rattle.hold_certtext.specs.declared.terms.Bounds.{Bounds}
use Rattle.hold_certtext.specs.inner.Parsing.{◌>>=◌, guard, read_number, number_in, pins_in, is_within, term_in, after, Terms, with_term, no_terms, terms_in}
use Rattle.hold_certtext.specs.inner.Words.{is_nil, takes}
use Rattle.hold_certtext.proofs.GuardLemmas.{guard-Some}

-- a number takes one word
pub number_in-words : (most : ℕ) (word : List ℕ) (words left : List (List ℕ)) (n : ℕ) → number_in most (word ∷ words) ≡ Some (n, left) → left ≡ words
number_in-words most word words left n h =
    let found = option_and_then-Some (λ (m : ℕ). guard (nat_le m most) (m, words)) (read_number word) (n, left) h in
    sym (ap (λ (x : ℕ × List (List ℕ)). x.1) (guard-Some (nat_le found.0 most) (found.0, words) (n, left) found.2).1)

-- these pins, and those that are found behind them
abbrev pub with_pins : List PinNo → Option (List PinNo) → Option (List PinNo)
with_pins front found = found >>= (λ pins. Some (front ++ pins))

pub with_pins-nil : (found : Option (List PinNo)) → with_pins [] found ≡ found
with_pins-nil None = refl
with_pins-nil (Some pins) = refl

pins_in-step : (words left : List (List ℕ)) (pin : ℕ) → number_in 4294967295 words ≡ Some (pin, left)
    → pins_in words ≡ (pins_in left >>= (λ pins. Some (record { 0 = pin } ∷ pins)))
pins_in-step [] left pin h = absurd cc
pins_in-step (word ∷ words) left pin h =
    let same : left ≡ words = number_in-words 4294967295 word words left pin h in
    ap (λ (o : Option (ℕ × List (List ℕ))). o >>= (λ p. pins_in words >>= (λ pins. Some (record { 0 = p.0 } ∷ pins)))) h
    ∙ ap (λ (ws : List (List ℕ)). pins_in ws >>= (λ pins. Some (record { 0 = pin } ∷ pins))) (sym same)

with_pins-push : (front : List PinNo) (pin : PinNo) (found : Option (List PinNo)) →
    with_pins (front ++ pin ∷ []) found ≡ with_pins front (found >>= (λ pins. Some (pin ∷ pins)))
with_pins-push front pin None = refl
with_pins-push front pin (Some pins) = ap (λ (ps : List PinNo). Some ps) (append_assoc front (pin ∷ []) pins)

-- a word that is no pin
pub with_pins-None : (front : List PinNo) (words : List (List ℕ)) → is_nil words ≡ false → number_in 4294967295 words ≡ None → with_pins front (pins_in words) ≡ None
with_pins-None front [] more h = absurd cc
with_pins-None front (word ∷ words) more h =
    ap (λ (o : Option (ℕ × List (List ℕ))). with_pins front (o >>= (λ p. pins_in words >>= (λ pins. Some (record { 0 = p.0 } ∷ pins))))) h

-- no word more
pub with_pins-done : (front : List PinNo) (words : List (List ℕ)) → is_nil words ≡ true → with_pins front (pins_in words) ≡ Some front
with_pins-done front [] done = ap (λ (ps : List PinNo). Some ps) (append-nil front)
with_pins-done front (word ∷ words) done = absurd cc

pub fewer-number : (most : ℕ) (words left : List (List ℕ)) (n : ℕ) → number_in most words ≡ Some (n, left) → length left < length words
fewer-number most [] left n h = absurd cc
fewer-number most (word ∷ words) left n h = let same = number_in-words most word words left n h in omega (arith, ap length same)

-- a term takes two words
pub term_in-words : (bounds : Bounds) (a b : List ℕ) (words left : List (List ℕ)) (term : ℕ × ℕ) → term_in bounds (a ∷ b ∷ words) ≡ Some (term, left) → left ≡ words
term_in-words bounds a b words left term h =
    let most : ℕ = 18446744073709551615 in
    let times_of : (number : ℕ × List (List ℕ)) → Option ((ℕ × ℕ) × List (List ℕ)) =
    λ number. number_in most number.1 >>= (λ times. guard (is_within bounds number.0 times.0) ((number.0, times.0), times.1)) in
    let number = option_and_then-Some times_of (number_in most (a ∷ b ∷ words)) (term, left) h in
    let behind : number.0.1 ≡ b ∷ words = number_in-words most a (b ∷ words) number.0.1 number.0.0 number.1 in
    let last : (times : ℕ × List (List ℕ)) → Option ((ℕ × ℕ) × List (List ℕ)) = λ times. guard (is_within bounds number.0.0 times.0) ((number.0.0, times.0), times.1) in
    let times = option_and_then-Some last (number_in most number.0.1) (term, left) number.2 in
    let end : times.0.1 ≡ words = number_in-words most b words times.0.1 times.0.0 (ap (number_in most) (sym behind) ∙ times.1) in
    let same = (guard-Some (is_within bounds number.0.0 times.0.0) ((number.0.0, times.0.0), times.0.1) (term, left) times.2).1 in
    sym (ap (λ (x : (ℕ × ℕ) × List (List ℕ)). x.1) same) ∙ end

term_in-short : (bounds : Bounds) (a : List ℕ) (left : List (List ℕ)) (term : ℕ × ℕ) → term_in bounds (a ∷ []) ≡ Some (term, left) → ⊥
term_in-short bounds a left term h =
    let most : ℕ = 18446744073709551615 in
    let times_of : (number : ℕ × List (List ℕ)) → Option ((ℕ × ℕ) × List (List ℕ)) =
    λ number. number_in most number.1 >>= (λ times. guard (is_within bounds number.0 times.0) ((number.0, times.0), times.1)) in
    let number = option_and_then-Some times_of (number_in most (a ∷ [])) (term, left) h in
    let behind : number.0.1 ≡ [] = number_in-words most a [] number.0.1 number.0.0 number.1 in
    let none : None ≡ Some (term, left) = ap (λ (ws : List (List ℕ)). times_of (number.0.0, ws)) (sym behind) ∙ number.2 in
    none-some (term, left) none

-- the words behind, or all of them
abbrev pub chosen : Bool → List (List ℕ) → List (List ℕ) → Bool × List (List ℕ)
chosen t behind all = cond t (true, behind) (false, all)

pub fewer-takes : (letter : List ℕ) (words left : List (List ℕ)) → takes letter words ≡ (true, left) → length left < length words
fewer-takes letter [] left h = let never : false ≡ true = ap (λ (x : Bool × List (List ℕ)). x.0) h in absurd cc
fewer-takes letter (first ∷ words) left h = by (bytes_eq first letter) h
  where
    by : (t : Bool) → chosen t (words) (first ∷ words) ≡ (true, left) → length left < length (first ∷ words)
    by true e = let same : words ≡ left = ap (λ (x : Bool × List (List ℕ)). x.1) e in omega (arith, ap length same)
    by false e = let never : false ≡ true = ap (λ (x : Bool × List (List ℕ)). x.0) e in cc

pub fewer-term : (bounds : Bounds) (words left : List (List ℕ)) (term : ℕ × ℕ) → term_in bounds words ≡ Some (term, left) → length left < length words
fewer-term bounds [] left term h = absurd cc
fewer-term bounds (a ∷ []) left term h = absurd (term_in-short bounds a left term h)
fewer-term bounds (a ∷ b ∷ words) left term h = let same = term_in-words bounds a b words left term h in omega (arith, ap length same)

-- these terms, and those that are found behind them
abbrev pub with_terms : {X : Type 0} → List (X × ℕ) → Option (Terms X) → Option (Terms X)
with_terms front found = found >>= (λ rest. Some (front ++ rest.0, rest.1, rest.2))

pub with_terms-nil : {X : Type 0} (found : Option (Terms X)) → with_terms [] found ≡ found
with_terms-nil None = refl
with_terms-nil (Some rest) = refl

with_terms-push : {X : Type 0} (front : List (X × ℕ)) (term : X × ℕ) (found : Option (Terms X)) →
    with_terms (front ++ term ∷ []) found ≡ with_terms front (found >>= (λ rest. Some (with_term term rest)))
with_terms-push front term None = refl
with_terms-push front term (Some rest) = ap (λ ts. Some (ts, rest.1, rest.2)) (append_assoc front (term ∷ []) rest.0)

-- more terms, or none
abbrev pub or_none : {X : Type 0} → Bool → Option (Terms X) → Terms X → Option (Terms X)
or_none t more none = cond t more (Some none)

-- where no term of the letter stands
pub terms_in-stop : {X : Type 0} (number : ℕ → X) (letter : List ℕ) (bounds : Bounds) (words left : List (List ℕ)) → takes letter words ≡ (false, left)
    → terms_in number letter bounds words ≡ Some ([], bounds.weight, left)
terms_in-stop number letter bounds [] left h = ap (λ (x : Bool × List (List ℕ)). Some ([], bounds.weight, x.1)) h
terms_in-stop {X = X} number letter bounds (first ∷ []) left h = by (bytes_eq first letter) h
  where
    by : (t : Bool) → chosen t ([]) (first ∷ []) ≡ (false, left) → or_none {X = X} t None (no_terms bounds (first ∷ [])) ≡ Some ([], bounds.weight, left)
    by true e = let never : true ≡ false = ap (λ (x : Bool × List (List ℕ)). x.0) e in cc
    by false e = ap (λ (x : Bool × List (List ℕ)). Some ([], bounds.weight, x.1)) e
terms_in-stop {X = X} number letter bounds (first ∷ a ∷ []) left h = by (bytes_eq first letter) h
  where
    by : (t : Bool) → chosen t (a ∷ []) (first ∷ a ∷ []) ≡ (false, left) → or_none {X = X} t None (no_terms bounds (first ∷ a ∷ [])) ≡ Some ([], bounds.weight, left)
    by true e = let never : true ≡ false = ap (λ (x : Bool × List (List ℕ)). x.0) e in cc
    by false e = ap (λ (x : Bool × List (List ℕ)). Some ([], bounds.weight, x.1)) e
terms_in-stop {X = X} number letter bounds (first ∷ a ∷ b ∷ words) left h =
    by (bytes_eq first letter) (term_in bounds (a ∷ b ∷ words) >>= (λ term. terms_in number letter (after bounds term.0) words >>= (λ rest. Some (with_term (number term.0.0, term.0.1) rest)))) h
  where
    by : (t : Bool) (more : Option (Terms X)) → chosen t (a ∷ b ∷ words) (first ∷ a ∷ b ∷ words) ≡ (false, left)
        → or_none {X = X} t more (no_terms bounds (first ∷ a ∷ b ∷ words)) ≡ Some ([], bounds.weight, left)
    by true more e = let never : true ≡ false = ap (λ (x : Bool × List (List ℕ)). x.0) e in cc
    by false more e = ap (λ (x : Bool × List (List ℕ)). Some ([], bounds.weight, x.1)) e

took : (letter first : List ℕ) (words left : List (List ℕ)) → takes letter (first ∷ words) ≡ (true, left) → (bytes_eq first letter ≡ true) × (words ≡ left)
took letter first words left h = by (bytes_eq first letter) h
  where
    by : (t : Bool) → chosen t (words) (first ∷ words) ≡ (true, left) → (t ≡ true) × (words ≡ left)
    by true e = (refl, ap (λ (x : Bool × List (List ℕ)). x.1) e)
    by false e = let never : false ≡ true = ap (λ (x : Bool × List (List ℕ)). x.0) e in absurd cc

-- where a term of the letter is to stand and none is found
terms_in-None : {X : Type 0} (number : ℕ → X) (letter : List ℕ) (bounds : Bounds) (words left : List (List ℕ)) → takes letter words ≡ (true, left)
    → term_in bounds left ≡ None → terms_in number letter bounds words ≡ None
terms_in-None number letter bounds [] left h none = let never : false ≡ true = ap (λ (x : Bool × List (List ℕ)). x.0) h in absurd cc
terms_in-None number letter bounds (first ∷ []) left h none = let it = took letter first [] left h in rw it.0 refl
terms_in-None number letter bounds (first ∷ a ∷ []) left h none = let it = took letter first (a ∷ []) left h in rw it.0 refl
terms_in-None number letter bounds (first ∷ a ∷ b ∷ words) left h none =
    let it = took letter first (a ∷ b ∷ words) left h in
    let here : term_in bounds (a ∷ b ∷ words) ≡ None = ap (term_in bounds) it.1 ∙ none in
    rw it.0 (ap (λ (o : Option ((ℕ × ℕ) × List (List ℕ))). o >>= (λ term. terms_in number letter (after bounds term.0) words >>= (λ rest. Some (with_term (number term.0.0, term.0.1) rest)))) here)

-- one term of the letter
pub terms_in-step : {X : Type 0} (number : ℕ → X) (letter : List ℕ) (bounds : Bounds) (words behind left : List (List ℕ)) (term : ℕ × ℕ) → takes letter words ≡ (true, behind)
    → term_in bounds behind ≡ Some (term, left)
    → terms_in number letter bounds words ≡ (terms_in number letter (after bounds term) left >>= (λ rest. Some (with_term (number term.0, term.1) rest)))
terms_in-step number letter bounds [] behind left term h one = let never : false ≡ true = ap (λ (x : Bool × List (List ℕ)). x.0) h in absurd cc
terms_in-step number letter bounds (first ∷ []) behind left term h one =
    let it = took letter first [] behind h in absurd (none-some (term, left) (ap (term_in bounds) it.1 ∙ one))
terms_in-step number letter bounds (first ∷ a ∷ []) behind left term h one =
    let it = took letter first (a ∷ []) behind h in absurd (term_in-short bounds a left term (ap (term_in bounds) it.1 ∙ one))
terms_in-step number letter bounds (first ∷ a ∷ b ∷ words) behind left term h one =
    let it = took letter first (a ∷ b ∷ words) behind h in
    let here : term_in bounds (a ∷ b ∷ words) ≡ Some (term, left) = ap (term_in bounds) it.1 ∙ one in
    let same : left ≡ words = term_in-words bounds a b words left term here in
    rw it.0 (ap (λ (o : Option ((ℕ × ℕ) × List (List ℕ))). o >>= (λ t. terms_in number letter (after bounds t.0) words >>= (λ rest. Some (with_term (number t.0.0, t.0.1) rest)))) here
    ∙ ap (λ (ws : List (List ℕ)). terms_in number letter (after bounds term) ws >>= (λ rest. Some (with_term (number term.0, term.1) rest))) (sym same))

-- the loop's turn and its exits
pub with_terms-step : {X : Type 0} (number : ℕ → X) (letter : List ℕ) (front : List (X × ℕ)) (bounds : Bounds) (words behind left : List (List ℕ)) (term : ℕ × ℕ)
    → takes letter words ≡ (true, behind) → term_in bounds behind ≡ Some (term, left)
    → with_terms (front ++ (number term.0, term.1) ∷ []) (terms_in number letter (after bounds term) left) ≡ with_terms front (terms_in number letter bounds words)
with_terms-step number letter front bounds words behind left term h one =
    with_terms-push front (number term.0, term.1) (terms_in number letter (after bounds term) left)
    ∙ ap (with_terms front) (sym (terms_in-step number letter bounds words behind left term h one))
