-- Plain words, in which no space or newline stands: how a line of them is cut, and that it is one line.
use Rattle.std.proofs.Common.{◌≡◌, ◌≢◌, ℕ, ◌<◌, ◌≤◌, List, [], ◌∷◌, ◌++◌, Bool, true, false, cond, refl, ap, ◌∙◌, arith, append-nil}
use Rattle.std.specs.Prelude.{◌^◌, ◌==◌, nat_le, flat_map, decimal}
use Rattle.std.specs.List.{AllByRecursion, list_all}
use Rattle.std.specs.Str.Parse.{AllDigits}
use Rattle.std.proofs.lemmas.Bool.{and_parts}
use Rattle.std.proofs.lemmas.Bool.Decides.{nat_tests}
use Rattle.std.proofs.lemmas.Fmt.{decimal_is_IsNumeral}
use Rattle.std.proofs.lemmas.Str.Parse.{digit_from_value}
use Rattle.hold_base.proofs.Lists.{AllByRecursion-append, AllByRecursion-weaken}
use Rattle.hold_text.specs.Blanks.{newline}
use Rattle.hold_certtext.specs.Lines.{space, spaced, IsLine}
use Rattle.hold_certtext.specs.inner.Words.{into_first, words_of}

abbrev pub IsPlain : List ℕ → Type 0
IsPlain word = AllByRecursion (λ b. 33 ≤ b) word

abbrev pub ArePlain : List (List ℕ) → Type 0
ArePlain words = AllByRecursion IsPlain words

pub plain-test : (word : List ℕ) → list_all (nat_le 33) word ≡ true → IsPlain word
plain-test [] h = tt
plain-test (b ∷ bs) h =
    let parts = and_parts (nat_le 33 b) (list_all (nat_le 33) bs) h in
    let first : nat_le 33 b ≡ true = parts.0 in
    (grind (arith, nat_tests), plain-test bs parts.1)

plain-digits : (digits : List ℕ) → AllDigits 10 digits → IsPlain digits
plain-digits [] h = tt
plain-digits (d ∷ ds) h = let bounds = digit_from_value d h.0 in (omega (arith, bounds.0), plain-digits ds h.1)

pub plain-decimal : (n : ℕ) → n < 2 ^ 64 → IsPlain (decimal n)
plain-decimal n small = plain-digits (decimal n) (decimal_is_IsNumeral n small).0.1

not-space : (b : ℕ) → 33 ≤ b → (b == space) ≡ false
not-space b h = grind (arith, nat_tests)

-- a word that others follow
pub words_of-word : (word rest : List ℕ) → IsPlain word → words_of (word ++ space ∷ rest) ≡ word ∷ words_of rest
words_of-word [] rest plain = refl
words_of-word (b ∷ bs) rest plain = rw (not-space b plain.0) (ap (into_first b) (words_of-word bs rest plain.1))

words_of-alone : (word : List ℕ) → IsPlain word → words_of word ≡ word ∷ []
words_of-alone [] plain = refl
words_of-alone (b ∷ bs) plain = rw (not-space b plain.0) (ap (into_first b) (words_of-alone bs plain.1))

-- a line of plain words has these words
pub words_of-spaced : (word : List ℕ) (words : List (List ℕ)) → IsPlain word → ArePlain words → words_of (spaced (word ∷ words)) ≡ word ∷ words
words_of-spaced word [] plain others = ap words_of (append-nil word) ∙ words_of-alone word plain
words_of-spaced word (next ∷ words) plain others =
    words_of-word word (next ++ flat_map (λ w. space ∷ w) words) plain ∙ ap (λ ws. word ∷ ws) (words_of-spaced next words others.0 others.1)

spaced-first : (b : ℕ) (words : List (List ℕ)) → spaced (into_first b words) ≡ b ∷ spaced words
spaced-first b [] = refl
spaced-first b (word ∷ words) = refl

some-words : (line : List ℕ) → words_of line ≢ []
some-words [] h = absurd cc
some-words (b ∷ bs) h = by (b == space) (words_of bs) h
  where
    by : (t : Bool) (words : List (List ℕ)) → cond t ([] ∷ words) (into_first b words) ≡ [] → ⊥
    by true words e = absurd cc
    by false [] e = absurd cc
    by false (word ∷ words) e = absurd cc

spaced-empty : (words : List (List ℕ)) → words ≢ [] → spaced ([] ∷ words) ≡ space ∷ spaced words
spaced-empty [] some = absurd (some refl)
spaced-empty (word ∷ words) some = refl

-- a line is its words with a space between
pub spaced-words_of : (line : List ℕ) → spaced (words_of line) ≡ line
spaced-words_of [] = refl
spaced-words_of (b ∷ bs) = by (b == space) refl (spaced-words_of bs)
  where
    by : (t : Bool) → (b == space) ≡ t → spaced (words_of bs) ≡ bs → spaced (cond t ([] ∷ words_of bs) (into_first b (words_of bs))) ≡ b ∷ bs
    by true is rest =
        let here : space ≡ b = grind (arith, nat_tests) in
        spaced-empty (words_of bs) (some-words bs) ∙ ap (λ l. space ∷ l) rest ∙ ap (λ s. s ∷ bs) here
    by false is rest = spaced-first b (words_of bs) ∙ ap (λ l. b ∷ l) rest

plain-line : (word : List ℕ) → IsPlain word → IsLine word
plain-line word plain = AllByRecursion-weaken (λ b. 33 ≤ b) (λ b. b ≢ newline) (λ b h e. absurd (omega arith)) word plain

behind-line : (words : List (List ℕ)) → ArePlain words → IsLine (flat_map (λ w. space ∷ w) words)
behind-line [] plain = tt
behind-line (word ∷ words) plain =
    AllByRecursion-append (λ b. b ≢ newline) (space ∷ word) (flat_map (λ w. space ∷ w) words) ((λ e. absurd (omega arith)), plain-line word plain.0) (behind-line words plain.1)

-- plain words make one line
pub spaced-line : (words : List (List ℕ)) → ArePlain words → IsLine (spaced words)
spaced-line [] plain = tt
spaced-line (word ∷ words) plain =
    AllByRecursion-append (λ b. b ≢ newline) word (flat_map (λ w. space ∷ w) words) (plain-line word plain.0) (behind-line words plain.1)
