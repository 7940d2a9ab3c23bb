-- The first line of a text.
use Rattle.std.proofs.Common.{◌≡◌, ◌≢◌, ℕ, zero, suc, ◌+◌, List, [], ◌∷◌, ◌++◌, Bool, true, false, not, cond, take, drop, length, refl, sym, ap, subst, ◌∙◌, arith}
use Rattle.std.specs.Prelude.{◌==◌}
use Rattle.std.proofs.lemmas.Bool.Decides.{nat_tests}
use Rattle.hold_text.specs.Blanks.{newline, line_len}
use Rattle.hold_certtext.specs.Lines.{IsLine, ended}

not-newline : (b : ℕ) → (b == newline) ≡ false → b ≢ newline
not-newline b h e = absurd (grind (arith, nat_tests))

is-newline : (b : ℕ) → (b == newline) ≡ true → b ≡ newline
is-newline b h = grind (arith, nat_tests)

-- what stands before the first newline is a line
pub line-front : (text : List ℕ) (n : ℕ) → n ≡ line_len text → IsLine (take n text)
line-front [] zero is = tt
line-front [] (suc n) is = absurd (omega arith)
line-front (b ∷ bs) n is = by (b == newline) refl is (line-front bs (line_len bs) refl)
  where
    by : (t : Bool) → (b == newline) ≡ t → n ≡ cond (not t) (1 + line_len bs) 0 → IsLine (take (line_len bs) bs) → IsLine (take n (b ∷ bs))
    by true test at rest = subst (λ (m : ℕ). IsLine (take m (b ∷ bs))) (sym at) tt
    by false test at rest =
        let next : n ≡ suc (line_len bs) = omega arith in
        subst (λ (m : ℕ). IsLine (take m (b ∷ bs))) (sym next) (not-newline b test, rest)

-- where nothing stands behind it the text has no newline
pub line-alone : (text rest : List ℕ) (n : ℕ) → n ≡ line_len text → drop n text ≡ rest → (length rest == 0) ≡ true → IsLine text
line-alone [] rest n is back none = tt
line-alone (b ∷ bs) rest n is back none = by (b == newline) refl is (λ r here empty. line-alone bs r (line_len bs) refl here empty)
  where
    by : (t : Bool) → (b == newline) ≡ t → n ≡ cond (not t) (1 + line_len bs) 0
        → ((r : List ℕ) → drop (line_len bs) bs ≡ r → (length r == 0) ≡ true → IsLine bs) → IsLine (b ∷ bs)
    by true test at others =
        let here : b ∷ bs ≡ rest = ap (λ (m : ℕ). drop m (b ∷ bs)) (sym at) ∙ back in
        let some : (length (b ∷ bs) == 0) ≡ true = ap (λ (r : List ℕ). length r == 0) here ∙ none in
        absurd (grind (arith, nat_tests))
    by false test at others =
        let next : n ≡ suc (line_len bs) = omega arith in
        (not-newline b test, others rest (ap (λ (m : ℕ). drop m (b ∷ bs)) (sym next) ∙ back) none)

-- and else it is ended
pub line-ended : (text rest : List ℕ) (n : ℕ) → n ≡ line_len text → drop n text ≡ rest → (length rest == 0) ≡ false → text ≡ ended (take n text) ++ drop 1 rest
line-ended [] rest zero is back some = let none : (length {A = ℕ} [] == 0) ≡ false = ap (λ (r : List ℕ). length r == 0) back ∙ some in absurd (grind (arith, nat_tests))
line-ended [] rest (suc n) is back some = absurd (omega arith)
line-ended (b ∷ bs) rest n is back some = by (b == newline) refl is (λ r here more. line-ended bs r (line_len bs) refl here more)
  where
    by : (t : Bool) → (b == newline) ≡ t → n ≡ cond (not t) (1 + line_len bs) 0
        → ((r : List ℕ) → drop (line_len bs) bs ≡ r → (length r == 0) ≡ false → bs ≡ ended (take (line_len bs) bs) ++ drop 1 r)
        → b ∷ bs ≡ ended (take n (b ∷ bs)) ++ drop 1 rest
    by true test at others =
        let here : b ∷ bs ≡ rest = ap (λ (m : ℕ). drop m (b ∷ bs)) (sym at) ∙ back in
        ap (λ (c : ℕ). c ∷ bs) (is-newline b test) ∙ ap (λ (r : List ℕ). newline ∷ drop 1 r) here ∙ ap (λ (m : ℕ). ended (take m (b ∷ bs)) ++ drop 1 rest) (sym at)
    by false test at others =
        let next : n ≡ suc (line_len bs) = omega arith in
        ap (λ (l : List ℕ). b ∷ l) (others rest (ap (λ (m : ℕ). drop m (b ∷ bs)) (sym next) ∙ back) some)
        ∙ ap (λ (m : ℕ). ended (take m (b ∷ bs)) ++ drop 1 rest) (sym next)

pub none-left : (rest : List ℕ) → (length rest == 0) ≡ true → rest ≡ []
none-left [] h = refl
none-left (b ∷ bs) h = absurd (grind (arith, nat_tests))

pub some-left : (rest : List ℕ) → (length rest == 0) ≡ false → rest ≢ []
some-left [] h e = absurd (grind (arith, nat_tests))
some-left (b ∷ bs) h e = absurd cc
