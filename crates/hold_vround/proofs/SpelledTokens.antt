-- How single tokens are read.
--
-- Breaks rest: what follows is no byte that would continue a word or a number.
use Rattle.std.proofs.Common.{◌≡◌, ◌≢◌, ℕ, suc, ◌+◌, ◌<◌, ◌≤◌, ◌^◌, Bool, true, false, cond, List, [], ◌∷◌, ◌++◌, length, Some, refl, ◌∙◌, ap, subst, arith}
use Rattle.std.specs.Prelude.{◌&&◌, ◌==◌, not, slice_get, codes, decimal}
use Rattle.std.specs.List.{prefix_len, take_while, list_all, AllByRecursion}
use Rattle.std.specs.Str.Parse.{AllDigits, digits_value}
use Rattle.std.specs.Char.{is_ascii_digit}
use Rattle.std.proofs.lemmas.Bool.Decides.{nat_tests}
use Rattle.std.proofs.lemmas.Fmt.{decimal_is_IsNumeral}
use Rattle.std.proofs.Math.Seq.{drop-append_seam}
use Rattle.hold_base.proofs.Lists.{slice_get-seam}
use Rattle.hold_base.specs.NameBytes.{IsName}
use Rattle.hold_netlist.specs.Names.{is_among}
use Rattle.hold_netlist.specs.Keywords.{keywords}
use Rattle.hold_netlist.specs.Identifier.{is_letter, is_word_byte, is_word}
use Rattle.hold_netlist.specs.CanonicalText.{spelled}
use Rattle.hold_text.specs.Blanks.{slash, backslash, is_blank, heads, star}
use Rattle.hold_vlex.specs.Bytes.{backquote, left_parenthesis, begins_word, continues_word, continues_number}
use Rattle.hold_base.specs.NameBytes.{is_printed}
use Rattle.hold_vlex.specs.Front.{Read, escaped, number_sort, whole, front}
use Rattle.hold_vlex.specs.declared.token.Sort.{Sort}
use Rattle.hold_vlex.specs.declared.token.Sort.TheVariants.{Word, Escaped, Number, Constant, Sign}
use Rattle.hold_vsyntax.specs.declared.mark.Mark.{Mark}
use Rattle.hold_vsyntax.specs.declared.mark.Mark.TheVariants.{Comma, Semicolon, Colon, Dot, Equals, LeftParenthesis, RightParenthesis, LeftBracket, RightBracket}
use Rattle.hold_vsyntax.specs.Symbols.{Symbol, Marked, Named, Counted, Tied, ident, word_symbol, sign_mark}
use Rattle.hold_vsyntax.proofs.NumberLemmas.{number_of-digits, is_digit-from_value, all-digits}
use Rattle.hold_vround.proofs.Spells.{Spells, Spells-past, Spells-read, join, Stops, prefix_len-run, take_while-run}

abbrev pub Breaks : List ℕ → Type 0
Breaks rest = Stops continues_number rest

Breaks-word : (rest : List ℕ) → Breaks rest → Stops continues_word rest
Breaks-word [] h = tt
Breaks-word (b ∷ bs) h = grind (arith, nat_tests)

-- a blank
pub Spells-blank : (at : ℕ) (rest : List ℕ) → Spells at (codes " ") rest []
unfolding front
Spells-blank at rest = Spells-past at (codes " ") rest refl refl

pub Spells-newline : (at : ℕ) (rest : List ℕ) → Spells at (codes "\n") rest []
unfolding front
Spells-newline at rest = Spells-past at (codes "\n") rest refl refl

-- a word
front-word : (b : ℕ) (bs : List ℕ) → begins_word b ≡ true → front (b ∷ bs) ≡ whole Word (b ∷ take_while continues_word bs)
unfolding front
front-word b bs h =
    let blank : is_blank b ≡ false = grind (arith, nat_tests) in
    let no_slash : (b == slash) ≡ false = grind (arith, nat_tests) in
    let no_parenthesis : (b == left_parenthesis) ≡ false = grind (arith, nat_tests) in
    let no_backquote : (b == backquote) ≡ false = grind (arith, nat_tests) in
    let no_backslash : (b == backslash) ≡ false = grind (arith, nat_tests) in
    rw (blank, no_slash, no_parenthesis, no_backquote, no_backslash, h) refl

is_letter-begins : (b : ℕ) → is_letter b ≡ true → begins_word b ≡ true
is_letter-begins b h = grind (arith, nat_tests)

is_word_byte-continues : (b : ℕ) → is_word_byte b ≡ true → continues_word b ≡ true
is_word_byte-continues b h = grind (arith, nat_tests)

word_bytes-continue : (bs : List ℕ) → list_all is_word_byte bs ≡ true → list_all continues_word bs ≡ true
word_bytes-continue [] h = refl
word_bytes-continue (b ∷ bs) h = by_first (is_word_byte b) refl h (word_bytes-continue bs)
  where
    by_first : (t : Bool) → is_word_byte b ≡ t → (t && list_all is_word_byte bs) ≡ true → (list_all is_word_byte bs ≡ true → list_all continues_word bs ≡ true) → (continues_word b && list_all continues_word bs) ≡ true
    by_first true e h more = rw (is_word_byte-continues b e) (more h)
    by_first false e h more = absurd cc

Spells-word : (at : ℕ) (w rest : List ℕ) → is_word w ≡ true → Breaks rest → Spells at w rest (word_symbol w at ∷ [])
Spells-word at [] rest h stop = absurd cc
Spells-word at (b ∷ bs) rest h stop = by_first (is_letter b) refl h
  where
    by_first : (t : Bool) → is_letter b ≡ t → (t && list_all is_word_byte bs) ≡ true → Spells at (b ∷ bs) rest (word_symbol (b ∷ bs) at ∷ [])
    by_first true e h =
        let run : take_while continues_word (bs ++ rest) ≡ bs = take_while-run continues_word bs rest (word_bytes-continue bs h) (Breaks-word rest stop) in
        Spells-read at (b ∷ bs) rest Word (b ∷ bs) (word_symbol (b ∷ bs) at)
        (front-word b (bs ++ rest) (is_letter-begins b e) ∙ ap (λ (l : List ℕ). whole Word (b ∷ l)) run)
        (drop-append_seam bs rest) refl
    by_first false e h = absurd cc

-- an escaped name and the space behind it
all-printed : (bs : List ℕ) → AllByRecursion (λ b. (33 ≤ b) × (b ≤ 126)) bs → list_all is_printed bs ≡ true
all-printed [] h = refl
all-printed (b ∷ bs) h =
    let first : is_printed b ≡ true = let bounds = h.0 in grind (arith, nat_tests) in
    rw first (all-printed bs h.1)

escaped-name : (name : List ℕ) → name ≢ [] → escaped name (Some 32) ≡ Read Escaped name (1 + length name)
escaped-name [] h = absurd (h refl)
escaped-name (b ∷ bs) h = let some : (length (b ∷ bs) == 0) ≡ false = grind (arith, nat_tests) in rw some refl

front-escaped : (name rest : List ℕ) → IsName name → front (backslash ∷ (name ++ 32 ∷ rest)) ≡ Read Escaped name (1 + length name)
unfolding front
front-escaped name rest h =
    let all : list_all is_printed name ≡ true = all-printed name h.bytes in
    let run : take_while is_printed (name ++ 32 ∷ rest) ≡ name = take_while-run is_printed name (32 ∷ rest) all refl in
    let next : slice_get (name ++ 32 ∷ rest) (prefix_len is_printed (name ++ 32 ∷ rest)) ≡ Some 32 = rw (prefix_len-run is_printed name (32 ∷ rest) all refl) (slice_get-seam name rest 32) in
    ap (λ (l : List ℕ). escaped l (slice_get (name ++ 32 ∷ rest) (prefix_len is_printed (name ++ 32 ∷ rest)))) run
    ∙ ap (escaped name) next
    ∙ escaped-name name h.some

Spells-escaped : (at : ℕ) (name rest : List ℕ) → IsName name → Spells at (codes "\\" ++ name ++ codes " ") rest (Named (ident name at) ∷ [])
Spells-escaped at name rest h =
    let length_is : 1 + length name ≡ suc (length name) = omega arith in
    join at (at + suc (length name)) (backslash ∷ name) (codes " ") rest (Named (ident name at) ∷ []) [] refl
    (Spells-read at (backslash ∷ name) (32 ∷ rest) Escaped name (Named (ident name at)) (front-escaped name rest h ∙ ap (Read Escaped name) length_is) (drop-append_seam name (32 ∷ rest)) refl)
    (Spells-blank (at + suc (length name)) rest)

-- a name as it is written
pub Spells-spelled : (at : ℕ) (name rest : List ℕ) → IsName name → Breaks rest → Spells at (spelled name) rest (Named (ident name at) ∷ [])
unfolding word_symbol
Spells-spelled at name rest h stop = by_simple (is_word name) (is_among name keywords) refl refl
  where
    by_simple : (w k : Bool) → is_word name ≡ w → is_among name keywords ≡ k → Spells at (cond (w && not k) name (codes "\\" ++ name ++ codes " ")) rest (Named (ident name at) ∷ [])
    by_simple true false e f =
        let named : word_symbol name at ≡ Named (ident name at) = rw f refl in
        subst (λ (s : Symbol). Spells at name rest (s ∷ [])) named (Spells-word at name rest e stop)
    by_simple true true e f = Spells-escaped at name rest h
    by_simple false k e f = Spells-escaped at name rest h

-- a word of the grammar
pub Spells-keyword : (at : ℕ) (w rest : List ℕ) (m : Mark) → is_word w ≡ true → word_symbol w at ≡ Marked m → Breaks rest → Spells at w rest (Marked m ∷ [])
Spells-keyword at w rest m h e stop = subst (λ (s : Symbol). Spells at w rest (s ∷ [])) e (Spells-word at w rest h stop)

-- a number
front-number : (b : ℕ) (bs : List ℕ) → is_ascii_digit b ≡ true → front (b ∷ bs) ≡ whole (number_sort (b ∷ take_while continues_number bs)) (b ∷ take_while continues_number bs)
unfolding front
front-number b bs h =
    let blank : is_blank b ≡ false = grind (arith, nat_tests) in
    let no_slash : (b == slash) ≡ false = grind (arith, nat_tests) in
    let no_parenthesis : (b == left_parenthesis) ≡ false = grind (arith, nat_tests) in
    let no_backquote : (b == backquote) ≡ false = grind (arith, nat_tests) in
    let no_backslash : (b == backslash) ≡ false = grind (arith, nat_tests) in
    let no_word : begins_word b ≡ false = grind (arith, nat_tests) in
    rw (blank, no_slash, no_parenthesis, no_backquote, no_backslash, no_word, h) refl

is_digit-continues : (c : ℕ) → is_ascii_digit c ≡ true → continues_number c ≡ true
is_digit-continues c h = grind (arith, nat_tests)

digits-continue : (ds : List ℕ) → AllDigits 10 ds → list_all continues_number ds ≡ true
digits-continue [] h = refl
digits-continue (c ∷ cs) h = rw (is_digit-continues c (is_digit-from_value c h.0)) (digits-continue cs h.1)

Spells-digits : (at n : ℕ) (ds rest : List ℕ) → 0 < length ds → AllDigits 10 ds → digits_value 10 ds ≡ n → Breaks rest → Spells at ds rest (Counted n ∷ [])
unfolding number_sort
Spells-digits at n [] rest some h e stop = absurd (omega arith)
Spells-digits at n (c ∷ cs) rest some h e stop =
    let run : take_while continues_number (cs ++ rest) ≡ cs = take_while-run continues_number cs rest (digits-continue cs h.1) stop in
    let sort : number_sort (c ∷ cs) ≡ Number = rw (all-digits (c ∷ cs) h) refl in
    Spells-read at (c ∷ cs) rest Number (c ∷ cs) (Counted n)
    (front-number c (cs ++ rest) (is_digit-from_value c h.0)
    ∙ ap (λ (l : List ℕ). whole (number_sort (c ∷ l)) (c ∷ l)) run
    ∙ ap (λ (s : Sort). whole s (c ∷ cs)) sort)
    (drop-append_seam cs rest) (ap Counted (number_of-digits (c ∷ cs) h ∙ e))

pub Spells-decimal : (at n : ℕ) (rest : List ℕ) → n < 2 ^ 64 → Breaks rest → Spells at (decimal n) rest (Counted n ∷ [])
Spells-decimal at n rest small stop = let h = decimal_is_IsNumeral n small in Spells-digits at n (decimal n) rest h.0.0 h.0.1 h.1 stop

-- a constant
Spells-constant : (at : ℕ) (value : Bool) (digit : ℕ) (rest : List ℕ) → number_sort (49 ∷ 39 ∷ 98 ∷ digit ∷ []) ≡ Constant value → continues_number digit ≡ true → Breaks rest → Spells at (49 ∷ 39 ∷ 98 ∷ digit ∷ []) rest (Tied value ∷ [])
Spells-constant at value digit rest sort h stop =
    let all : list_all continues_number (39 ∷ 98 ∷ digit ∷ []) ≡ true = rw h refl in
    let run : take_while continues_number (39 ∷ 98 ∷ digit ∷ rest) ≡ 39 ∷ 98 ∷ digit ∷ [] = take_while-run continues_number (39 ∷ 98 ∷ digit ∷ []) rest all stop in
    Spells-read at (49 ∷ 39 ∷ 98 ∷ digit ∷ []) rest (Constant value) (49 ∷ 39 ∷ 98 ∷ digit ∷ []) (Tied value)
    (front-number 49 (39 ∷ 98 ∷ digit ∷ rest) refl
    ∙ ap (λ (l : List ℕ). whole (number_sort (49 ∷ l)) (49 ∷ l)) run
    ∙ ap (λ (s : Sort). whole s (49 ∷ 39 ∷ 98 ∷ digit ∷ [])) sort)
    refl refl

pub Spells-zero : (at : ℕ) (rest : List ℕ) → Breaks rest → Spells at (codes "1'b0") rest (Tied false ∷ [])
unfolding number_sort
Spells-zero at rest stop = Spells-constant at false 48 rest refl refl stop

pub Spells-one : (at : ℕ) (rest : List ℕ) → Breaks rest → Spells at (codes "1'b1") rest (Tied true ∷ [])
unfolding number_sort
Spells-one at rest stop = Spells-constant at true 49 rest refl refl stop

-- the signs
pub Spells-comma : (at : ℕ) (rest : List ℕ) → Spells at (codes ",") rest (Marked Comma ∷ [])
unfolding front sign_mark
Spells-comma at rest = Spells-read at (codes ",") rest Sign (codes ",") (Marked Comma) refl refl refl

pub Spells-semicolon : (at : ℕ) (rest : List ℕ) → Spells at (codes ";") rest (Marked Semicolon ∷ [])
unfolding front sign_mark
Spells-semicolon at rest = Spells-read at (codes ";") rest Sign (codes ";") (Marked Semicolon) refl refl refl

pub Spells-colon : (at : ℕ) (rest : List ℕ) → Spells at (codes ":") rest (Marked Colon ∷ [])
unfolding front sign_mark
Spells-colon at rest = Spells-read at (codes ":") rest Sign (codes ":") (Marked Colon) refl refl refl

pub Spells-dot : (at : ℕ) (rest : List ℕ) → Spells at (codes ".") rest (Marked Dot ∷ [])
unfolding front sign_mark
Spells-dot at rest = Spells-read at (codes ".") rest Sign (codes ".") (Marked Dot) refl refl refl

pub Spells-equals : (at : ℕ) (rest : List ℕ) → Spells at (codes "=") rest (Marked Equals ∷ [])
unfolding front sign_mark
Spells-equals at rest = Spells-read at (codes "=") rest Sign (codes "=") (Marked Equals) refl refl refl

pub Spells-left_bracket : (at : ℕ) (rest : List ℕ) → Spells at (codes "[") rest (Marked LeftBracket ∷ [])
unfolding front sign_mark
Spells-left_bracket at rest = Spells-read at (codes "[") rest Sign (codes "[") (Marked LeftBracket) refl refl refl

pub Spells-right_bracket : (at : ℕ) (rest : List ℕ) → Spells at (codes "]") rest (Marked RightBracket ∷ [])
unfolding front sign_mark
Spells-right_bracket at rest = Spells-read at (codes "]") rest Sign (codes "]") (Marked RightBracket) refl refl refl

pub Spells-right_parenthesis : (at : ℕ) (rest : List ℕ) → Spells at (codes ")") rest (Marked RightParenthesis ∷ [])
unfolding front sign_mark
Spells-right_parenthesis at rest = Spells-read at (codes ")") rest Sign (codes ")") (Marked RightParenthesis) refl refl refl

-- a star behind it would open an attribute
pub Spells-left_parenthesis : (at : ℕ) (rest : List ℕ) → heads star rest ≡ false → Spells at (codes "(") rest (Marked LeftParenthesis ∷ [])
unfolding front sign_mark
Spells-left_parenthesis at rest h = Spells-read at (codes "(") rest Sign (codes "(") (Marked LeftParenthesis) (rw h refl) refl refl
