-- What the front of a text takes.
use Rattle.std.proofs.Common.{◌≡◌, ℕ, suc, ◌+◌, ◌<◌, ◌≤◌, Bool, true, false, cond, List, [], ◌∷◌, length, take, drop, Option, Some, None, ◌≢◌, refl, sym, ◌∙◌, ap, subst, arith}
use Rattle.std.specs.Prelude.{IfSome, is_some, slice_get, ◌&&◌, ◌==◌}
use Rattle.std.specs.List.{prefix_len, take_while, list_all, AllByRecursion}
use Rattle.std.proofs.lemmas.Bool.{cond_both, and_parts}
use Rattle.std.proofs.lemmas.Bool.Decides.{Decides-eqb, nat_tests}
use Rattle.std.proofs.lemmas.List.{length-drop}
use Rattle.std.proofs.lemmas.Option.{slice_get_within}
use Rattle.std.proofs.lemmas.List.Folds.{length-prefix_len}
use Rattle.std.proofs.lemmas.List.Sums.{prefix_len-le-length}
use Rattle.hold_vlex.specs.Lexed.{marks}
use Rattle.std.specs.Char.{is_ascii_digit}
use Rattle.hold_words.specs.Rows.{first_row}
use Rattle.hold_text.specs.Blanks.{quote, star, slash, backslash, is_blank, is_in_line, heads}
use Rattle.hold_vlex.specs.Bytes.{apostrophe, left_parenthesis, right_parenthesis, backquote, begins_word, is_in_directive, continues_word, begins_number, continues_number, is_base}
use Rattle.hold_base.specs.NameBytes.{is_printed, IsPrinted, IsName}
use Rattle.hold_vlex.specs.Front.{Front, Nothing, Past, Read, Bad, NoEnd, NoName, attribute_end, string_end, after_backslash, closed, line_directives, directive, escaped, number_sort, constant_sort, whole, front}
use Rattle.hold_text.proofs.Ends.{heads-length, EndsWithin, EndsWithin-later, comment_end-within}
use Rattle.hold_vlex.specs.inner.Front.{IsWithin}
use Rattle.hold_vlex.specs.declared.token.Sort.{Sort}
use Rattle.hold_vlex.specs.declared.token.Sort.TheVariants.{Word, Escaped, Number, Constant, Directive, Other}

mutual
  pub attribute_end-within : (n : ℕ) (bs : List ℕ) → EndsWithin n bs (attribute_end n bs)
  attribute_end-within n [] = tt
  attribute_end-within n (b ∷ bs) =
      let string = string_end-within (n + 1) bs in
      let rest = attribute_end-within (n + 1) bs in
      cond_both (b == star && heads right_parenthesis bs) _ _ (EndsWithin n (b ∷ bs))
      (λ h. let more : 0 < length bs = heads-length right_parenthesis bs (and_parts (b == star) (heads right_parenthesis bs) h).1 in (omega arith, omega arith))
      (λ _. cond_both (b == quote) _ _ (EndsWithin n (b ∷ bs)) (λ _. EndsWithin-later n b bs _ string) (λ _. EndsWithin-later n b bs _ rest))

  string_end-within : (n : ℕ) (bs : List ℕ) → EndsWithin n bs (string_end n bs)
  string_end-within n [] = tt
  string_end-within n (b ∷ bs) =
      let outside = attribute_end-within (n + 1) bs in
      let pair = after_backslash-within (n + 1) bs in
      let rest = string_end-within (n + 1) bs in
      cond_both (b == quote) _ _ (EndsWithin n (b ∷ bs)) (λ _. EndsWithin-later n b bs _ outside)
      (λ _. cond_both (b == backslash) _ _ (EndsWithin n (b ∷ bs)) (λ _. EndsWithin-later n b bs _ pair) (λ _. EndsWithin-later n b bs _ rest))

  after_backslash-within : (n : ℕ) (bs : List ℕ) → EndsWithin n bs (after_backslash n bs)
  after_backslash-within n [] = tt
  after_backslash-within n (b ∷ bs) = EndsWithin-later n b bs _ (string_end-within (n + 1) bs)

-- What stands at the front takes at least one byte and no more than there are, and a token's text is the bytes
-- behind its mark.
abbrev pub Fits : List ℕ → Front → Type 0
Fits text Nothing = Unit {0}
Fits text (Past n) = (0 < n) × (n ≤ length text)
Fits text (Read sort t n) =
    (0 < n) × (n ≤ length text) × (t ≡ take (length t) (drop (marks sort) text)) × (marks sort + length t ≤ n) × IsName t
Fits text (Bad n) = n < length text
Fits text NoEnd = Unit {0}
Fits text NoName = Unit {0}

Fits-closed : (o : Option ℕ) (bs : List ℕ) (b : ℕ) → 0 < length bs → IfSome o (λ e. (2 < e) × (e ≤ 2 + length (drop 1 bs))) → Fits (b ∷ bs) (closed o)
Fits-closed None bs b more h = tt
Fits-closed (Some e) [] b more h = absurd (omega arith)
Fits-closed (Some e) (c ∷ bs) b more h = (omega arith, omega arith)

is_printed-is : (b : ℕ) → is_printed b ≡ true → IsPrinted b
is_printed-is b h = (grind (arith, nat_tests), grind (arith, nat_tests))

continues_number-is : (b : ℕ) → continues_number b ≡ true → IsPrinted b
continues_number-is b h = (grind (arith, nat_tests), grind (arith, nat_tests))

continues_word-is : (b : ℕ) → continues_word b ≡ true → IsPrinted b
continues_word-is b h = (grind (arith, nat_tests), grind (arith, nat_tests))

is_in_directive-is : (b : ℕ) → is_in_directive b ≡ true → IsPrinted b
is_in_directive-is b h = (grind (arith, nat_tests), grind (arith, nat_tests))

begins_word-is : (b : ℕ) → begins_word b ≡ true → IsPrinted b
begins_word-is b h = (grind (arith, nat_tests), grind (arith, nat_tests))

begins_number-is : (b : ℕ) → begins_number b ≡ true → IsPrinted b
begins_number-is b h = (grind (arith, nat_tests), grind (arith, nat_tests))

-- a run holds what its test passes
take_while-printed : (p : ℕ → Bool) (bs : List ℕ) → ((b : ℕ) → p b ≡ true → IsPrinted b) → AllByRecursion IsPrinted (take_while p bs)
take_while-printed p [] h = tt
take_while-printed p (b ∷ bs) h =
    let rest = take_while-printed p bs h in
    let P : ℕ → Type 0 = λ n. AllByRecursion IsPrinted (take n (b ∷ bs)) in
    let next : suc (prefix_len p bs) ≡ 1 + prefix_len p bs = omega arith in
    cond_both (p b) (1 + prefix_len p bs) 0 P (λ e. subst P next (h b e, rest)) (λ _. tt)

run-is-front : (p : ℕ → Bool) (b : ℕ) (bs : List ℕ) → b ∷ take_while p bs ≡ take (length (b ∷ take_while p bs)) (b ∷ bs)
run-is-front p b bs = sym (ap (λ m. b ∷ take m bs) (length-prefix_len p bs))

run-length : (p : ℕ → Bool) (bs : List ℕ) → length (take_while p bs) ≤ length bs
run-length p bs = let l = length-prefix_len p bs in let m = prefix_len-le-length p bs in omega arith

Fits-run : (sort : Sort) (p : ℕ → Bool) (b : ℕ) (bs : List ℕ) → marks sort ≡ 0 → ((c : ℕ) → p c ≡ true → IsPrinted c) → IsPrinted b → Fits (b ∷ bs) (whole sort (b ∷ take_while p bs))
Fits-run sort p b bs e printed first =
    let bound = run-length p bs in (
      omega arith,
      omega arith,
      run-is-front p b bs ∙ ap (λ m. take (length (b ∷ take_while p bs)) (drop m (b ∷ bs))) (sym e),
      omega arith,
      record { some = λ e. cc; bytes = (first, take_while-printed p bs printed) },
    )

marks-constant_sort : (run : List ℕ) → marks (constant_sort run) ≡ 0
marks-constant_sort [] = refl
marks-constant_sort (a ∷ []) = refl
marks-constant_sort (a ∷ b ∷ []) = refl
marks-constant_sort (a ∷ b ∷ c ∷ []) = refl
marks-constant_sort (one ∷ tick ∷ base ∷ value ∷ []) =
    let P : Sort → Type 0 = λ s. marks s ≡ 0 in
    cond_both (one == 49 && tick == apostrophe && is_base base && value == 48) (Constant false)
    (cond (one == 49 && tick == apostrophe && is_base base && value == 49) (Constant true) Other) P (λ _. refl)
    (λ _. cond_both (one == 49 && tick == apostrophe && is_base base && value == 49) (Constant true) Other P (λ _. refl) (λ _. refl))
marks-constant_sort (a ∷ b ∷ c ∷ d ∷ e ∷ rest) = refl

marks-number_sort : (run : List ℕ) → marks (number_sort run) ≡ 0
unfolding number_sort
marks-number_sort run =
    cond_both (list_all is_ascii_digit run) Number (constant_sort run) (λ s. marks s ≡ 0) (λ _. refl) (λ _. marks-constant_sort run)

Fits-directive : (bs : List ℕ) → Fits (backquote ∷ bs) (directive (take_while is_in_directive bs) bs)
Fits-directive bs =
    let run = take_while is_in_directive bs in
    let bound : length run ≤ length bs = run-length is_in_directive bs in
    let line = prefix_len-le-length is_in_line (drop (length run) bs) in
    let rest = length-drop (length run) bs in
    cond_both (is_some (first_row run line_directives)) (Past (1 + length run + prefix_len is_in_line (drop (length run) bs)))
    (Read Directive (backquote ∷ run) (1 + length run)) (Fits (backquote ∷ bs))
    (λ _. (omega arith, omega arith))
    (λ _. (
      omega arith,
      omega arith,
      run-is-front is_in_directive backquote bs,
      omega arith,
      record { some = λ e. cc; bytes = ((omega arith, omega arith), take_while-printed is_in_directive bs is_in_directive-is) },
    ))

some-from_length : (name : List ℕ) → (length name == 0) ≡ false → name ≢ []
some-from_length [] h = absurd cc
some-from_length (b ∷ bs) h = λ e. cc

Fits-escaped : (b : ℕ) (bs : List ℕ) → Fits (b ∷ bs) (escaped (take_while is_printed bs) (slice_get bs (prefix_len is_printed bs)))
Fits-escaped b bs = by_next (slice_get bs (prefix_len is_printed bs)) (slice_get_within bs (prefix_len is_printed bs))
  where
    by_next : (o : Option ℕ) → ((x : ℕ) → o ≡ Some x → prefix_len is_printed bs < length bs) → Fits (b ∷ bs) (escaped (take_while is_printed bs) o)
    by_next None past = tt
    by_next (Some c) past =
        let name = take_while is_printed bs in
        let bound : prefix_len is_printed bs < length bs = past c refl in
        let l : length name ≡ prefix_len is_printed bs = length-prefix_len is_printed bs in
        cond_both (is_blank c) (cond (length name == 0) NoName (Read Escaped name (1 + length name))) (Bad (1 + length name)) (Fits (b ∷ bs))
        (λ _. cond_both (length name == 0) NoName (Read Escaped name (1 + length name)) (Fits (b ∷ bs)) (λ _. tt)
        (λ e. (omega arith, omega arith, sym (ap (λ m. take m bs) l), omega arith, record { some = some-from_length name e; bytes = take_while-printed is_printed bs is_printed-is })))
        (λ _. omega arith)

pub front-Fits : (text : List ℕ) → Fits text (front text)
unfolding front
front-Fits [] = tt
front-Fits (b ∷ bs) =
    let P : Front → Type 0 = Fits (b ∷ bs) in
    let line = prefix_len-le-length is_in_line bs in
    cond_both (is_blank b) _ _ P (λ _. (omega arith, omega arith))
    (λ _. cond_both (b == slash && heads slash bs) _ _ P (λ _. (omega arith, omega arith))
    (λ _. cond_both (b == slash && heads star bs) _ _ P
    (λ h. Fits-closed _ bs b (heads-length star bs (and_parts (b == slash) (heads star bs) h).1) (comment_end-within 2 (drop 1 bs)))
    (λ _. cond_both (b == left_parenthesis && heads star bs) _ _ P
    (λ h. Fits-closed _ bs b (heads-length star bs (and_parts (b == left_parenthesis) (heads star bs) h).1) (attribute_end-within 2 (drop 1 bs)))
    (λ _. cond_both (b == backquote) _ _ P
    (λ h. let e : backquote ≡ b = sym ((Decides-eqb b backquote).0 h) in subst (λ c. Fits (c ∷ bs) (directive (take_while is_in_directive bs) bs)) e (Fits-directive bs))
    (λ _. cond_both (b == backslash) _ _ P (λ _. Fits-escaped b bs)
    (λ _. cond_both (begins_word b) _ _ P (λ h. Fits-run Word continues_word b bs refl continues_word-is (begins_word-is b h))
    (λ _. cond_both (begins_number b) _ _ P
    (λ h. Fits-run (number_sort (b ∷ take_while continues_number bs)) continues_number b bs (marks-number_sort (b ∷ take_while continues_number bs)) continues_number-is (begins_number-is b h))
    (λ _. cond_both (is_printed b) _ _ P (λ h. (omega arith, omega arith, refl, omega arith, record { some = λ e. cc; bytes = (is_printed-is b h, tt) })) (λ _. omega arith)))))))))

pub IsWithin-from_Fits : (text : List ℕ) (f : Front) → Fits text f → IsWithin (length text) f
IsWithin-from_Fits text Nothing h = tt
IsWithin-from_Fits text (Past n) h = h
IsWithin-from_Fits text (Read sort t n) h = (h.0, h.1)
IsWithin-from_Fits text (Bad n) h = h
IsWithin-from_Fits text NoEnd h = tt
IsWithin-from_Fits text NoName h = tt

pub front_within : (text : List ℕ) → IsWithin (length text) (front text)
front_within text = IsWithin-from_Fits text (front text) (front-Fits text)
