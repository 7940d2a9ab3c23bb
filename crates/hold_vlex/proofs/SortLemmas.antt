-- A token's text fits its sort.
use Rattle.std.proofs.Common.{◌≡◌, ℕ, ◌+◌, true, false, cond, List, [], ◌∷◌, Option, Some, None, refl, sym, subst, length, drop}
use Rattle.std.specs.Prelude.{IsTrue, is_some, slice_get, ◌&&◌, ◌==◌}
use Rattle.std.specs.List.{prefix_len, take_while, list_all}
use Rattle.std.specs.Char.{is_ascii_digit}
use Rattle.std.proofs.lemmas.Bool.{cond_both}
use Rattle.hold_words.specs.Rows.{first_row}
use Rattle.hold_vlex.specs.Bytes.{apostrophe, left_parenthesis, backquote, begins_word, begins_number, is_in_directive, is_base, continues_number}
use Rattle.hold_text.specs.Blanks.{star, slash, backslash, heads, is_blank, is_in_line, comment_end}
use Rattle.hold_base.specs.NameBytes.{is_printed}
use Rattle.hold_vlex.specs.Front.{Front, Nothing, Past, Read, Bad, NoEnd, NoName, attribute_end, closed, line_directives, directive, escaped, number_sort, constant_sort, front}
use Rattle.hold_vlex.specs.Front.{fits_sort}
use Rattle.hold_vlex.specs.declared.token.Sort.{Sort}
use Rattle.hold_vlex.specs.declared.token.Sort.TheVariants.{Escaped, Number, Constant, Directive, Other}

abbrev FitsSort : Front → Type 0
FitsSort Nothing = Unit {0}
FitsSort (Past n) = Unit {0}
FitsSort (Read sort t n) = IsTrue (fits_sort sort t)
FitsSort (Bad n) = Unit {0}
FitsSort NoEnd = Unit {0}
FitsSort NoName = Unit {0}

closed-FitsSort : (o : Option ℕ) → FitsSort (closed o)
closed-FitsSort None = tt
closed-FitsSort (Some n) = tt

directive-FitsSort : (run bs : List ℕ) → FitsSort (directive run bs)
directive-FitsSort run bs =
    cond_both (is_some (first_row run line_directives)) (Past (1 + length run + prefix_len is_in_line (drop (length run) bs)))
    (Read Directive (backquote ∷ run) (1 + length run)) FitsSort (λ _. tt) (λ _. refl)

escaped-FitsSort : (name : List ℕ) (o : Option ℕ) → FitsSort (escaped name o)
escaped-FitsSort name None = tt
escaped-FitsSort name (Some b) =
    cond_both (is_blank b) (cond (length name == 0) NoName (Read Escaped name (1 + length name))) (Bad (1 + length name)) FitsSort
    (λ _. cond_both (length name == 0) NoName (Read Escaped name (1 + length name)) FitsSort (λ _. tt) (λ _. refl))
    (λ _. tt)

constant-fits : (run text : List ℕ) → IsTrue (fits_sort (constant_sort run) text)
constant-fits [] text = refl
constant-fits (a ∷ []) text = refl
constant-fits (a ∷ b ∷ []) text = refl
constant-fits (a ∷ b ∷ c ∷ []) text = refl
constant-fits (one ∷ tick ∷ base ∷ value ∷ []) text =
    let P : Sort → Type 0 = λ s. IsTrue (fits_sort s text) in
    cond_both (one == 49 && tick == apostrophe && is_base base && value == 48) (Constant false)
    (cond (one == 49 && tick == apostrophe && is_base base && value == 49) (Constant true) Other) P (λ _. refl)
    (λ _. cond_both (one == 49 && tick == apostrophe && is_base base && value == 49) (Constant true) Other P (λ _. refl) (λ _. refl))
constant-fits (a ∷ b ∷ c ∷ d ∷ e ∷ rest) text = refl

number-fits : (run : List ℕ) → IsTrue (fits_sort (number_sort run) run)
unfolding number_sort
number-fits run =
    cond_both (list_all is_ascii_digit run) Number (constant_sort run) (λ s. IsTrue (fits_sort s run)) (λ h. h) (λ _. constant-fits run run)

front-FitsSort : (text : List ℕ) → FitsSort (front text)
unfolding front
front-FitsSort [] = tt
front-FitsSort (b ∷ bs) =
    let P : Front → Type 0 = FitsSort in
    cond_both (is_blank b) _ _ P (λ _. tt)
    (λ _. cond_both (b == slash && heads slash bs) _ _ P (λ _. tt)
    (λ _. cond_both (b == slash && heads star bs) _ _ P (λ _. closed-FitsSort (comment_end 2 (drop 1 bs)))
    (λ _. cond_both (b == left_parenthesis && heads star bs) _ _ P (λ _. closed-FitsSort (attribute_end 2 (drop 1 bs)))
    (λ _. cond_both (b == backquote) _ _ P (λ _. directive-FitsSort (take_while is_in_directive bs) bs)
    (λ _. cond_both (b == backslash) _ _ P (λ _. escaped-FitsSort (take_while is_printed bs) (slice_get bs (prefix_len is_printed bs)))
    (λ _. cond_both (begins_word b) _ _ P (λ _. refl)
    (λ _. cond_both (begins_number b) _ _ P (λ _. number-fits (b ∷ take_while continues_number bs))
    (λ _. cond_both (is_printed b) _ _ P (λ _. refl) (λ _. tt)))))))))

-- of a token at the front of a text
pub read-fits : (text t : List ℕ) (sort : Sort) (n : ℕ) → Read sort t n ≡ front text → IsTrue (fits_sort sort t)
read-fits text t sort n e = subst FitsSort (sym e) (front-FitsSort text)
