-- The words of a line, one by one.
use Rattle.std.proofs.Common.{◌≡◌, ℕ, zero, suc, ◌+◌, List, [], ◌∷◌, Bool, true, false, not, cond, take, drop, length, refl, sym, ap, ◌∙◌, arith}
use Rattle.std.specs.Prelude.{◌==◌, Some}
use Rattle.std.specs.List.{prefix_len}
use Rattle.std.proofs.lemmas.Bool.Decides.{nat_tests}
use Rattle.hold_certtext.specs.Lines.{space}
use Rattle.hold_certtext.specs.inner.Words.{into_first, words_of, words_left, is_in_word, is_nil}
use Rattle.hold_certtext.specs.inner.Parsing.{word_in}

-- a line has a word
pub is_nil-words_of : (text : List ℕ) → is_nil (words_of text) ≡ false
is_nil-words_of [] = refl
is_nil-words_of (b ∷ bs) = by (b == space) (words_of bs)
  where
    by : (t : Bool) (words : List (List ℕ)) → is_nil (cond t ([] ∷ words) (into_first b words)) ≡ false
    by true words = refl
    by false [] = refl
    by false (word ∷ words) = refl

pub is_nil-left : (more : Bool) (text : List ℕ) → not more ≡ is_nil (words_left more text)
is_nil-left true text = sym (is_nil-words_of text)
is_nil-left false text = refl

-- the words behind the first, where this is what stands behind its bytes: nothing, or a space and more
abbrev pub words_behind : List ℕ → List (List ℕ)
words_behind [] = []
words_behind (b ∷ bs) = words_of bs

-- the first word is what stands before the first space
pub words_of-first : (text rest : List ℕ) (n : ℕ) → n ≡ prefix_len is_in_word text → drop n text ≡ rest → words_of text ≡ take n text ∷ words_behind rest
words_of-first [] rest zero is e = ap (λ r. [] ∷ words_behind r) e
words_of-first [] rest (suc n) is e = absurd (omega arith)
words_of-first (b ∷ bs) rest n is e = by (b == space) is (λ r here. words_of-first bs r (prefix_len is_in_word bs) refl here)
  where
    by : (t : Bool) → n ≡ cond (not t) (1 + prefix_len is_in_word bs) 0
        → ((r : List ℕ) → drop (prefix_len is_in_word bs) bs ≡ r → words_of bs ≡ take (prefix_len is_in_word bs) bs ∷ words_behind r)
        → cond t ([] ∷ words_of bs) (into_first b (words_of bs)) ≡ take n (b ∷ bs) ∷ words_behind rest
    by true at others =
        ap (λ r. [] ∷ words_behind r) (sym (ap (λ m. drop m (b ∷ bs)) at) ∙ e) ∙ ap (λ m. take m (b ∷ bs) ∷ words_behind rest) (sym at)
    by false at others =
        let next : n ≡ suc (prefix_len is_in_word bs) = omega arith in
        ap (into_first b) (others rest (sym (ap (λ m. drop m (b ∷ bs)) next) ∙ e)) ∙ ap (λ m. take m (b ∷ bs) ∷ words_behind rest) (sym next)

behind-none : (rest : List ℕ) → (length rest == 0) ≡ true → words_behind rest ≡ []
behind-none [] h = refl
behind-none (b ∷ bs) h = absurd (grind (arith, nat_tests))

behind-some : (rest : List ℕ) → (length rest == 0) ≡ false → words_behind rest ≡ words_of (drop 1 rest)
behind-some [] h = absurd cc
behind-some (b ∷ bs) h = refl

-- the last word of a line
pub word_in-last : (text word rest : List ℕ) (n : ℕ) → n ≡ prefix_len is_in_word text → word ≡ take n text → rest ≡ drop n text → (length rest == 0) ≡ true
    → word_in (words_of text) ≡ Some (word, [])
word_in-last text word rest n is front back none =
    ap word_in (words_of-first text rest n is (sym back) ∙ ap (λ w. w ∷ words_behind rest) (sym front)) ∙ ap (λ ws. Some (word, ws)) (behind-none rest none)

-- a word that others follow
pub word_in-more : (text word rest : List ℕ) (n : ℕ) → n ≡ prefix_len is_in_word text → word ≡ take n text → rest ≡ drop n text → (length rest == 0) ≡ false
    → word_in (words_of text) ≡ Some (word, words_of (drop 1 rest))
word_in-more text word rest n is front back some =
    ap word_in (words_of-first text rest n is (sym back) ∙ ap (λ w. w ∷ words_behind rest) (sym front)) ∙ ap (λ ws. Some (word, ws)) (behind-some rest some)
