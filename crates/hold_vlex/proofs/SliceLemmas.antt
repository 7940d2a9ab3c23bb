-- The tokens of a text are slices of it at rising places.
use Rattle.std.proofs.Common.{◌≡◌, ℕ, zero, suc, ◌+◌, ◌-◌, ◌≤◌, List, [], ◌∷◌, length, take, drop, refl, sym, ◌∙◌, ap, subst, arith}
use Rattle.std.proofs.lemmas.List.{drop-drop}
use Rattle.std.specs.List.{AllByRecursion}
use Rattle.hold_base.specs.NameBytes.{IsName}
use Rattle.hold_base.proofs.Lists.{drop-next}
use Rattle.hold_vlex.specs.Front.{Front, Nothing, Past, Read, Bad, NoEnd, NoName, front}
use Rattle.hold_vlex.specs.Lexed.{Lexeme, lexed_by, lexed_from, lexed, marks, AreSlices}
use Rattle.hold_vlex.proofs.FrontLemmas.{Fits, front-Fits}

AreSlices-earlier : (text : List ℕ) (from before : ℕ) (ts : List Lexeme) → before ≤ from → AreSlices text from ts → AreSlices text before ts
AreSlices-earlier text from before [] l h = omega (arith, l, h)
AreSlices-earlier text from before (t ∷ ts) l h = (omega (arith, l, h.0), h.1, h.2)

-- what is read of a rest of the text, whose first n bytes belong to what was read before
lexed_from-AreSlices : (text : List ℕ) (n at : ℕ) (bs : List ℕ) → drop at text ≡ bs → at + length bs ≡ length text → n ≤ length bs → AreSlices text (at + n) (lexed_from n at bs).tokens
unfolding lexed_from front
lexed_from-AreSlices text n at [] e l h = omega arith
lexed_from-AreSlices text (suc n) at (b ∷ bs) e l h =
    let place : at + 1 + n ≡ at + suc n = omega arith in
    subst (λ m. AreSlices text m (lexed_from n (at + 1) bs).tokens) place
    (lexed_from-AreSlices text n (at + 1) bs (drop-next text at b bs e) (omega arith) (omega arith))
lexed_from-AreSlices text zero at (b ∷ bs) e l h =
    by_front (front (b ∷ bs)) (front-Fits (b ∷ bs))
    (λ m r. lexed_from-AreSlices text m (at + 1) bs (drop-next text at b bs e) (omega arith) r)
  where
    by_front : (f : Front) → Fits (b ∷ bs) f → ((m : ℕ) → m ≤ length bs → AreSlices text (at + 1 + m) (lexed_from m (at + 1) bs).tokens) → AreSlices text (at + 0) (lexed_by at f (λ n. lexed_from (n - 1) (at + 1) bs)).tokens
    by_front Nothing fits rest = omega arith
    by_front (Past n) fits rest = AreSlices-earlier text (at + 1 + (n - 1)) (at + 0) _ (omega arith) (rest (n - 1) (omega (arith, fits.0, fits.1)))
    by_front (Read sort t n) fits rest = (
      omega arith,
      fits.2 ∙ ap (take (length t)) (ap (drop (marks sort)) (sym e) ∙ drop-drop (marks sort) at text),
      AreSlices-earlier text (at + 1 + (n - 1)) (at + marks sort + length t) _ (omega (arith, fits.0, fits.1, fits.3)) (rest (n - 1) (omega (arith, fits.0, fits.1))),
    )
    by_front (Bad n) fits rest = omega arith
    by_front NoEnd fits rest = omega arith
    by_front NoName fits rest = omega arith

pub lexed-AreSlices : (text : List ℕ) → AreSlices text 0 (lexed text).tokens
lexed-AreSlices text = lexed_from-AreSlices text 0 0 text refl (omega arith) (omega arith)

-- each token is spelled by printed bytes
lexed_from-spelled : (n at : ℕ) (bs : List ℕ) → AllByRecursion (λ (t : Lexeme). IsName t.text) (lexed_from n at bs).tokens
unfolding lexed_from front
lexed_from-spelled n at [] = tt
lexed_from-spelled (suc n) at (b ∷ bs) = lexed_from-spelled n (at + 1) bs
lexed_from-spelled zero at (b ∷ bs) = by_front (front (b ∷ bs)) (front-Fits (b ∷ bs)) (λ m. lexed_from-spelled m (at + 1) bs)
  where
    by_front : (f : Front) → Fits (b ∷ bs) f → ((m : ℕ) → AllByRecursion (λ (t : Lexeme). IsName t.text) (lexed_from m (at + 1) bs).tokens) → AllByRecursion (λ (t : Lexeme). IsName t.text) (lexed_by at f (λ n. lexed_from (n - 1) (at + 1) bs)).tokens
    by_front Nothing fits rest = tt
    by_front (Past n) fits rest = rest (n - 1)
    by_front (Read sort t n) fits rest = (fits.4, rest (n - 1))
    by_front (Bad n) fits rest = tt
    by_front NoEnd fits rest = tt
    by_front NoName fits rest = tt

pub lexed-spelled : (text : List ℕ) → AllByRecursion (λ (t : Lexeme). IsName t.text) (lexed text).tokens
lexed-spelled text = lexed_from-spelled 0 0 text
