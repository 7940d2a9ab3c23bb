-- Plain digits: equal numbers have equal ones.
use Rattle.std.proofs.Common.{◌≡◌, ◌≢◌, ℕ, ◌+◌, ◌-◌, ◌*◌, ◌<◌, ◌≤◌, List, [], ◌∷◌, length, refl, sym, ◌∙◌, arith, inl, inr}
use Rattle.std.specs.Prelude.{IsTrue}
use Rattle.std.specs.Char.{is_ascii_digit}
use Rattle.std.specs.List.{list_all}
use Rattle.std.proofs.lemmas.Bool.{cases_lt}
use Rattle.hold_base.specs.Digits.{number_of}
use Rattle.hold_base.specs.inner.Digits.{number_from}
use Rattle.hold_base.proofs.Digits.{digits-cons}
use Rattle.hold_vsyntax.specs.Number.{IsPlain}
use Rattle.hold_vsyntax.proofs.NumberLemmas.{number_from-zero}

-- as many digits, and the same number: the same digits
same_length : (n m : ℕ) (xs ys : List ℕ) → IsTrue (list_all is_ascii_digit xs) → IsTrue (list_all is_ascii_digit ys) → length xs ≡ length ys
    → number_from n xs ≡ number_from m ys → (n ≡ m) × (xs ≡ ys)
same_length n m [] [] hx hy l e = (e, refl)
same_length n m [] (y ∷ ys) hx hy l e = absurd (omega arith)
same_length n m (x ∷ xs) [] hx hy l e = absurd (omega arith)
same_length n m (x ∷ xs) (y ∷ ys) hx hy l e =
    let first = digits-cons x xs hx in
    let other = digits-cons y ys hy in
    let rest = same_length (n * 10 + (x - 48)) (m * 10 + (y - 48)) xs ys first.2 other.2 (omega arith) e in
    let front : n ≡ m = omega (arith, rest.0, first.0, first.1, other.0, other.1) in
    let digit : x ≡ y = omega (arith, rest.0, first.0, first.1, other.0, other.1) in
    let behind : xs ≡ ys = rest.1 in
    (front, cc)

-- digits behind a number write more than fewer digits do alone
longer : (n : ℕ) (xs ys : List ℕ) → 0 < n → IsTrue (list_all is_ascii_digit xs) → IsTrue (list_all is_ascii_digit ys) → length xs ≤ length ys
    → number_from 0 xs ≢ number_from n ys
longer n [] [] some hx hy l e = absurd (omega arith)
longer n (x ∷ xs) [] some hx hy l e = absurd (omega arith)
longer n xs (y ∷ ys) some hx hy l e =
    let other = digits-cons y ys hy in
    elim (cases_lt (length ys) (length xs)) [
      | inl all ↦ let front = (same_length 0 n xs (y ∷ ys) hx hy (omega arith) e).0 in absurd (omega arith)
      | inr fewer ↦ longer (n * 10 + (y - 48)) xs ys (omega arith) hx other.2 fewer e
    ]

-- the same said of digits behind nothing
from_zero : (xs ys : List ℕ) → number_of xs ≡ number_of ys → number_from 0 xs ≡ number_from 0 ys
from_zero xs ys e = number_from-zero xs ∙ e ∙ sym (number_from-zero ys)

-- so of plain digits the more write the greater number
plain_longer : (xs ys : List ℕ) → IsTrue (list_all is_ascii_digit xs) → IsPlain ys → length xs < length ys → number_of xs ≢ number_of ys
plain_longer xs [] hx hy l e = absurd (omega arith)
plain_longer xs (y ∷ ys) hx hy l e =
    let other = digits-cons y ys hy.digits in
    let apart : y ≢ 48 = hy.first in
    longer (0 * 10 + (y - 48)) xs ys (omega (arith, other.0)) hx other.2 (omega arith) (from_zero xs (y ∷ ys) e)

pub plain_same : (xs ys : List ℕ) → IsPlain xs → IsPlain ys → number_of xs ≡ number_of ys → xs ≡ ys
plain_same xs ys hx hy e = elim (cases_lt (length xs) (length ys)) [
  | inl fewer ↦ absurd (plain_longer xs ys hx.digits hy fewer e)
  | inr more ↦ elim (cases_lt (length ys) (length xs)) [
    | inl fewer ↦ absurd (plain_longer ys xs hy.digits hx fewer (sym e))
    | inr equal ↦ (same_length 0 0 xs ys hx.digits hy.digits (omega arith) (from_zero xs ys e)).1
  ]
]
