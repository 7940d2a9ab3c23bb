-- A number is read from its own text, up to the first underscore, and from no other.
use Rattle.std.proofs.Common.{◌≡◌, ℕ, zero, suc, ◌+◌, ◌<◌, ◌^◌, Option, Some, None, List, [], ◌∷◌, ◌++◌, length, get_or, take, drop, refl, sym, ap, ◌∙◌, ◌⊎◌, inl, inr, arith, append_assoc}
use Rattle.std.specs.Prelude.{codes, decimal, IfSome}
use Rattle.std.specs.List.{AllByRecursion}
use Rattle.std.specs.Str.{IsUtf8}
use Rattle.std.proofs.lemmas.Bool.{cases_order}
use Rattle.std.proofs.lemmas.Fmt.{IsAscii-decimal, decimal_injective}
use Rattle.std.proofs.lemmas.List.{drop_more, take-append-drop}
use Rattle.std.proofs.lemmas.Str.{IsUtf8-from_ascii}
use Rattle.hold_insert.specs.NewNames.{stem, BeginsWith}
use Rattle.hold_insert.proofs.NewNameLemmas.{IsDigit, decimal-digits}

pub utf8-decimal : (text : List ℕ) (n : ℕ) → n < 2 ^ 64 → text ≡ decimal n → IsUtf8 text
utf8-decimal text n small is = rw is (IsUtf8-from_ascii (decimal n) (IsAscii-decimal n small))

-- ---- where the underscore behind digits stands

digit-at : (ds rest : List ℕ) (j : ℕ) → AllByRecursion IsDigit ds → j < length ds → get_or ((ds ++ codes "_") ++ rest) j 0 ≡ 95 → ⊥
digit-at [] rest j digits lt is = omega arith
digit-at (d ∷ ds) rest zero digits lt is = let most = digits.0.1 in omega arith
digit-at (d ∷ ds) rest (suc j) digits lt is = digit-at ds rest j digits.1 (omega arith) is

underscore-at : (ds rest : List ℕ) → get_or ((ds ++ codes "_") ++ rest) (length ds) 0 ≡ 95
underscore-at [] rest = refl
underscore-at (d ∷ ds) rest = underscore-at ds rest

digits-front : (ds rest : List ℕ) → take (length ds) ((ds ++ codes "_") ++ rest) ≡ ds
digits-front [] rest = refl
digits-front (d ∷ ds) rest = ap (λ l. d ∷ l) (digits-front ds rest)

-- a text that begins with a number and an underscore has its first underscore there
pub begins-first : (text : List ℕ) (n k : ℕ) → n < 2 ^ 32 → BeginsWith (decimal n ++ codes "_") text → get_or text k 0 ≡ 95
    → ((j : ℕ) → j < k → get_or text j 0 ≡ 95 → ⊥) → take k text ≡ decimal n
begins-first text n k small begins at before = by (cases_order k (length (decimal n)))
  where
    whole : text ≡ (decimal n ++ codes "_") ++ begins.0
    whole = begins.1

    by : (k ≡ length (decimal n)) ⊎ ((k < length (decimal n)) ⊎ (length (decimal n) < k)) → take k text ≡ decimal n
    by (inl e) = ap (λ j. take j text) e ∙ ap (take (length (decimal n))) whole ∙ digits-front (decimal n) begins.0
    by (inr (inl lt)) = absurd (digit-at (decimal n) begins.0 k (decimal-digits n (omega arith)) lt (ap (λ (l : List ℕ). get_or l k 0) (sym whole) ∙ at))
    by (inr (inr lt)) = absurd (before (length (decimal n)) lt (ap (λ (l : List ℕ). get_or l (length (decimal n)) 0) whole ∙ underscore-at (decimal n) begins.0))

-- and digits before an underscore begin the text
pub begins-from : (text digits : List ℕ) (n k : ℕ) → digits ≡ take k text → digits ≡ decimal n → k < length text → get_or text k 0 ≡ 95 → BeginsWith (decimal n ++ codes "_") text
begins-from text digits n k front is inside at = (
  drop (k + 1) text,
  sym (take-append-drop k text)
      ∙ ap (λ l. l ++ drop k text) (sym front ∙ is)
      ∙ ap (λ l. decimal n ++ l) (drop_more text k 0 inside ∙ ap (λ x. x ∷ drop (k + 1) text) at)
      ∙ sym (append_assoc (decimal n) (codes "_") (drop (k + 1) text)),
)

-- a number that the digits in front of an underscore are, if they are one
pub before-some : (text digits : List ℕ) (found : Option ℕ) (k : ℕ) → digits ≡ take k text → k < length text → get_or text k 0 ≡ 95
    → IfSome found (λ n. digits ≡ decimal n) → IfSome found (λ n. BeginsWith (decimal n ++ codes "_") text)
before-some text digits None k front inside at is = tt
before-some text digits (Some n) k front inside at is = begins-from text digits n k front is inside at

-- a name takes one number at most
pub stem-one : (name : List ℕ) (n k : ℕ) → n < 2 ^ 32 → k < 2 ^ 32 → BeginsWith (stem n) name → BeginsWith (stem k) name → n ≡ k
stem-one name n k n_small k_small of_n of_k =
    let text : List ℕ = drop 5 name in
    let whole : text ≡ (decimal n ++ codes "_") ++ of_n.0 = ap (drop 5) of_n.1 in
    let at : get_or text (length (decimal n)) 0 ≡ 95 = ap (λ (l : List ℕ). get_or l (length (decimal n)) 0) whole ∙ underscore-at (decimal n) of_n.0 in
    let front : take (length (decimal n)) text ≡ decimal n = ap (take (length (decimal n))) whole ∙ digits-front (decimal n) of_n.0 in
    let other : take (length (decimal n)) text ≡ decimal k = begins-first text k (length (decimal n)) k_small (of_k.0, ap (drop 5) of_k.1) at
    (λ j lt is. digit-at (decimal n) of_n.0 j (decimal-digits n (omega arith)) lt (ap (λ (l : List ℕ). get_or l j 0) (sym whole) ∙ is)) in
    decimal_injective n k (omega arith) (omega arith) (sym front ∙ other)
