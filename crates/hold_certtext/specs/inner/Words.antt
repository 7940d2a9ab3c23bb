-- words_of line: what stands between the spaces of a line, one word at least, which is empty in the empty line.
-- words_left more text: the words of the text where there are more, else none. left words: those that are still to come.
-- is_in_word byte: the byte is no space.
-- is_nil xs: there is nothing.
-- is_word word words: this is the only word.
-- takes word words: whether this word is the first, and the words behind it where it is.
use Rattle.std.specs.Prelude.{ℕ, Bool, true, false, not, ◌==◌, ◌&&◌, List, [], ◌∷◌, if◌then◌else◌}
use Rattle.std.specs.Str.{bytes_eq}
use Rattle.hold_certtext.specs.Lines.{space}
use Rattle.hold_certtext.specs.declared.words.Words.{Words}

abbrev pub into_first : ℕ → List (List ℕ) → List (List ℕ)
into_first b [] = (b ∷ []) ∷ []
into_first b (word ∷ words) = (b ∷ word) ∷ words

abbrev pub words_of : List ℕ → List (List ℕ)
words_of [] = [] ∷ []
words_of (b ∷ bs) = if b == space then [] ∷ words_of bs else into_first b (words_of bs)

abbrev pub words_left : Bool → List ℕ → List (List ℕ)
words_left true text = words_of text
words_left false text = []

abbrev pub is_in_word : ℕ → Bool
is_in_word b = not (b == space)

abbrev pub is_nil : {X : Type 0} → List X → Bool
is_nil [] = true
is_nil (x ∷ xs) = false

abbrev pub takes : List ℕ → List (List ℕ) → Bool × List (List ℕ)
takes word [] = (false, [])
takes word (first ∷ words) = if bytes_eq first word then (true, words) else (false, first ∷ words)

abbrev pub is_word : List ℕ → List (List ℕ) → Bool
is_word word [] = false
is_word word (first ∷ words) = bytes_eq first word && is_nil words

-- the words that are still to come
abbrev pub left : Words → List (List ℕ)
left words = words_left words.more words.text.now
