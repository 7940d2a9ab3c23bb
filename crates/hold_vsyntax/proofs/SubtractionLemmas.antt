-- Taking a number from another digit by digit, from the last place on: what a place owes is lent by the next one.
use Rattle.std.proofs.Common.{◌≡◌, ℕ, zero, suc, ◌+◌, ◌*◌, ◌-◌, ◌<◌, ◌≤◌, true, List, [], ◌∷◌, ◌++◌, map, reverse, length, refl, sym, ap, ◌∙◌, arith, inl, inr, length-append}
use Rattle.std.specs.Prelude.{IsTrue, ◌==◌}
use Rattle.std.specs.Char.{is_ascii_digit}
use Rattle.std.specs.List.{list_all}
use Rattle.std.proofs.lemmas.Bool.{cases_lt, cond_both}
use Rattle.std.proofs.lemmas.List.{reverse-append, length-reverse}
use Rattle.hold_base.specs.Digits.{number_of}
use Rattle.hold_base.specs.inner.Digits.{number_from}
use Rattle.hold_base.proofs.Digits.{digits-cons, is_ascii_digit-within}
use Rattle.hold_vsyntax.specs.inner.NumberOrder.{digit, horner}
use Rattle.hold_vsyntax.proofs.NumberLemmas.{number_from-zero}
use Rattle.hold_vsyntax.proofs.OrderLemmas.{padded, padded-more}

-- The last places of `due` are taken from those of `has`: that leaves the digits, the last of them first, and the place
-- above owes so much. Said with any numbers in front: behind their sum with the debt, the first number's places write
-- as much as the digits do behind the one and the second number's places behind the other.
pub record IsTaken (behind owed : ℕ) (digits has due : List ℕ) : Type 0 where
  pub count : length digits ≡ behind
  pub decimal : IsTrue (list_all is_ascii_digit (reverse digits))
  pub same : (above under : ℕ) → horner (above + under + owed) (padded behind has) ≡ number_from above (reverse digits) + horner under (padded behind due)

pub IsTaken-none : (has due : List ℕ) → IsTaken 0 0 [] has due
unfolding padded
IsTaken-none has due = record { count = refl; decimal = refl; same = λ above under. omega arith }

-- a decimal digit of a number is at most 9
pub digit_in-small : (k : ℕ) (ds : List ℕ) → IsTrue (list_all is_ascii_digit ds) → digit k (map (λ d. d - 48) ds) ≤ 9
digit_in-small k [] h = omega arith
digit_in-small k (d ∷ ds) h =
    let first = digits-cons d ds h in
    let rest = digit_in-small k ds first.2 in
    cond_both (k == length (map (λ (e : ℕ). e - 48) ds)) (d - 48) (digit k (map (λ (e : ℕ). e - 48) ds)) (λ (n : ℕ). n ≤ 9) (λ _. omega (arith, first.1)) (λ _. rest)

-- one place further
pub IsTaken-more : (k next owed has_digit due_digit lent byte : ℕ) (digits has due : List ℕ) → IsTaken k owed digits has due → next ≡ k + 1
    → has_digit ≡ digit k has → due_digit ≡ digit k due → due_digit + owed ≤ has_digit + lent * 10 → has_digit + lent * 10 ≤ due_digit + owed + 9
    → byte ≡ 48 + (has_digit + lent * 10 - (due_digit + owed)) → IsTaken next lent (digits ++ byte ∷ []) has due
unfolding padded
IsTaken-more k next owed h d lent byte digits has due taken is_next is_h is_d enough tight is_byte =
    let turned : reverse (digits ++ byte ∷ []) ≡ byte ∷ reverse digits = reverse-append digits (byte ∷ []) in
    let first : is_ascii_digit byte ≡ true = is_ascii_digit-within byte (omega arith) (omega arith) in
    let place : next ≡ suc k = omega arith in
    record {
      count = omega (arith, length-append digits (byte ∷ []), taken.count);
      decimal = rw turned (rw first taken.decimal);
      same = λ above under.
          let sum : (above + under + lent) * 10 + digit k has ≡ (above * 10 + (byte - 48)) + (under * 10 + digit k due) + owed = omega arith in
          ap (λ (n : ℕ). horner (above + under + lent) (padded n has)) place
          ∙ ap (λ (n : ℕ). horner n (padded k has)) sum
          ∙ taken.same (above * 10 + (byte - 48)) (under * 10 + digit k due)
          ∙ ap (λ (ds : List ℕ). number_from above ds + horner under (padded (suc k) due)) (sym turned)
          ∙ ap (λ (n : ℕ). number_from above (reverse (digits ++ byte ∷ [])) + horner under (padded n due)) (sym place);
    }

-- digits behind a number write less than any behind a greater one
below_front : (n m : ℕ) (xs ys : List ℕ) → IsTrue (list_all is_ascii_digit xs) → length xs ≡ length ys → n < m → number_from n xs < horner m ys
below_front n m [] [] h l less = less
below_front n m [] (y ∷ ys) h l less = absurd (omega arith)
below_front n m (x ∷ xs) [] h l less = absurd (omega arith)
below_front n m (x ∷ xs) (y ∷ ys) h l less =
    let first = digits-cons x xs h in
    below_front (n * 10 + (x - 48)) (m * 10 + y) xs ys first.2 (omega arith) (omega (arith, first.1))

length-padded : (k : ℕ) (ds : List ℕ) → length (padded k ds) ≡ k
unfolding padded
length-padded zero ds = refl
length-padded (suc k) ds = omega (arith, length-padded k ds)

-- what stands before some places counts by itself
horner-front : (k n m : ℕ) (ds : List ℕ) → horner (n + m) (padded k ds) ≡ horner n (padded k ds) + horner m (padded k [])
unfolding padded
horner-front zero n m ds = refl
horner-front (suc k) n m ds =
    let step : (n + m) * 10 + digit k ds ≡ (n * 10 + digit k ds) + (m * 10 + 0) = omega arith in
    ap (λ (p : ℕ). horner p (padded k ds)) step ∙ horner-front k (n * 10 + digit k ds) (m * 10 + 0) ds

-- where what is taken isn't greater, the first place owes nothing, and the digits are the difference
pub IsTaken-all : (k owed : ℕ) (digits has due : List ℕ) → IsTaken k owed digits has due → length has ≤ k → length due ≤ k → horner 0 due ≤ horner 0 has
    → number_of (reverse digits) + horner 0 due ≡ horner 0 has
IsTaken-all k owed digits has due taken lh ld less =
    let there : horner 0 (padded k has) ≡ horner 0 has = padded-more k has lh in
    let taken_off : horner 0 (padded k due) ≡ horner 0 due = padded-more k due ld in
    let written : number_from 0 (reverse digits) ≡ number_of (reverse digits) = number_from-zero (reverse digits) in
    let same : horner (0 + 0 + owed) (padded k has) ≡ number_from 0 (reverse digits) + horner 0 (padded k due) = taken.same 0 0 in
    elim (cases_lt 0 owed) [
      | inl some ↦
          let count : length (reverse digits) ≡ length (padded k []) = omega (arith, length-reverse digits, taken.count, length-padded k []) in
          let below : number_from 0 (reverse digits) < horner owed (padded k []) = below_front 0 owed (reverse digits) (padded k []) taken.decimal count some in
          let front : horner (0 + owed) (padded k has) ≡ horner 0 (padded k has) + horner owed (padded k []) = horner-front k 0 owed has in
          let both : 0 + 0 + owed ≡ 0 + owed = omega arith in
          let whole : horner (0 + 0 + owed) (padded k has) ≡ horner (0 + owed) (padded k has) = ap (λ (n : ℕ). horner n (padded k has)) both in
          absurd (omega arith)
      | inr none ↦
          let both : 0 + 0 + owed ≡ 0 = omega arith in
          let whole : horner (0 + 0 + owed) (padded k has) ≡ horner 0 (padded k has) = ap (λ (n : ℕ). horner n (padded k has)) both in
          omega arith
    ]
