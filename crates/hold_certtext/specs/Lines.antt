-- Texts of lines, each of words with one space between, as certificates and plans are.
--
-- space: this byte.
-- after_space word: a space, and the word.
-- spaced words: the words with one space between each and the next. No words give the empty line.
-- IsLine line: no newline stands in the line.
-- ended line: the line, and the newline that ends it.
-- text_of lines: the lines one after another, each ended.
-- Begins Whole lines: some whole text begins with these lines, or is these. Whole says of lines that they are a whole text's.
-- IsFirstBad Whole text number: the line of this number, from 1, is the first of the text that can't stand there. The lines before
--   it begin some whole text, and with it they begin none. The text isn't whole itself: where it ends too early the number is that
--   of the line that is missing, where its last line has no newline that line's, and where something stands behind a whole text
--   the number of the first line there.
use Rattle.std.specs.Prelude.{◌≡◌, ◌≢◌, ℕ, ◌+◌, List, [], ◌∷◌, ◌++◌, length, flat_map}
use Rattle.std.specs.List.{AllByRecursion}
use Rattle.hold_text.specs.Blanks.{newline}

abbrev pub space : ℕ
space = 32

abbrev pub after_space : List ℕ → List ℕ
after_space word = space ∷ word

abbrev pub spaced : List (List ℕ) → List ℕ
spaced [] = []
spaced (word ∷ words) = word ++ flat_map after_space words

abbrev pub IsLine : List ℕ → Type 0
IsLine line = AllByRecursion (λ byte. byte ≢ newline) line

abbrev pub ended : List ℕ → List ℕ
ended line = line ++ newline ∷ []

abbrev pub text_of : List (List ℕ) → List ℕ
text_of lines = flat_map ended lines

abbrev pub Begins : (List (List ℕ) → Type 0) → List (List ℕ) → Type 0
Begins Whole lines = (more : List (List ℕ)) × Whole (lines ++ more)

pub record IsFirstBad (Whole : List (List ℕ) → Type 0) (text : List ℕ) (number : ℕ) : Type 0 where
  pub lines : List (List ℕ)
  pub rest : List ℕ
  pub split : text ≡ text_of lines ++ rest
  pub count : number ≡ length lines + 1
  pub good : Begins Whole lines
  pub bad : (line after : List ℕ) → IsLine line → rest ≡ ended line ++ after → Begins Whole (lines ++ line ∷ []) → ⊥
  pub not_whole : (all : List (List ℕ)) → Whole all → text ≢ text_of all
