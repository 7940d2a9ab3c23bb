-- What the place that a table gives says of its rows.
use Rattle.std.proofs.Common.{◌≡◌, ◌≢◌, ℕ, zero, suc, ◌+◌, ◌<◌, Bool, true, false, cond, List, [], ◌∷◌, Option, Some, None, refl, sym, ap, subst, arith}
use Rattle.std.specs.Prelude.{bytes_eq, slice_get, IfSome, IfNone}
use Rattle.std.proofs.lemmas.Slice.Eq.{bytes_eq-Decides}
use Rattle.hold_words.specs.Rows.{first_row, first_row_from, IsFirstRow, IsNoRow}

-- a row in front that is another word moves the first row by one place
pub IsFirstRow-next : (word row : List ℕ) (rows : List (List ℕ)) (k : ℕ) → row ≢ word → IsFirstRow word rows k → IsFirstRow word (row ∷ rows) (suc k)
IsFirstRow-next word row rows k other h = record { there = h.there; first = earlier }
  where
    earlier : (j : ℕ) → j < suc k → slice_get (row ∷ rows) j ≢ Some word
    earlier zero l = λ e. other cc
    earlier (suc j) l = h.first j (omega arith)

-- the place that is answered is that of the first row
pub first_row_from-Some : (word : List ℕ) (n : ℕ) (rows : List (List ℕ)) (i : ℕ) → first_row_from word n rows ≡ Some i → (k : ℕ) × (i ≡ n + k) × IsFirstRow word rows k
first_row_from-Some word n [] i h = absurd cc
first_row_from-Some word n (row ∷ rows) i h = by_test (bytes_eq row word) (first_row_from-Some word (n + 1) rows i) (bytes_eq-Decides row word) h
  where
    by_test : (b : Bool) → (first_row_from word (n + 1) rows ≡ Some i → (k : ℕ) × (i ≡ n + 1 + k) × IsFirstRow word rows k) → (b ≡ true → row ≡ word) × (row ≡ word → b ≡ true) → cond b (Some n) (first_row_from word (n + 1) rows) ≡ Some i → (k : ℕ) × (i ≡ n + k) × IsFirstRow word (row ∷ rows) k
    by_test true later test f = (0, (let e : n ≡ i = cc in omega arith), record { there = ap Some (test.0 refl); first = λ k l. absurd (omega arith) })
    by_test false later test f =
        let rest = later f in
        let other : row ≢ word = λ e. let t = test.1 e in cc in
        let place : i ≡ n + 1 + rest.0 = rest.1 in
        (suc rest.0, omega arith, IsFirstRow-next word row rows rest.0 other rest.2)

-- no place is answered only where no row is the word
pub first_row_from-None : (word : List ℕ) (n : ℕ) (rows : List (List ℕ)) → first_row_from word n rows ≡ None → (k : ℕ) → slice_get rows k ≢ Some word
first_row_from-None word n [] h k = λ e. cc
first_row_from-None word n (row ∷ rows) h k = by_test (bytes_eq row word) (first_row_from-None word (n + 1) rows) (bytes_eq-Decides row word) h k
  where
    by_test : (b : Bool) → (first_row_from word (n + 1) rows ≡ None → (j : ℕ) → slice_get rows j ≢ Some word) → (b ≡ true → row ≡ word) × (row ≡ word → b ≡ true) → cond b (Some n) (first_row_from word (n + 1) rows) ≡ None → (j : ℕ) → slice_get (row ∷ rows) j ≢ Some word
    by_test true later test f = absurd cc
    by_test false later test f = here
      where
        here : (j : ℕ) → slice_get (row ∷ rows) j ≢ Some word
        here zero = λ e. let t = test.1 cc in cc
        here (suc j) = later f j

-- the two as clauses say them
pub found_is_first : (word : List ℕ) (rows : List (List ℕ)) (result : Option ℕ) → result ≡ first_row word rows → IfSome result (IsFirstRow word rows)
found_is_first word rows None h = tt
found_is_first word rows (Some i) h =
    let found = first_row_from-Some word 0 rows i (sym h) in
    let place : i ≡ 0 + found.0 = found.1 in
    let same : found.0 ≡ i = omega arith in
    subst (IsFirstRow word rows) same found.2

pub none_is_nowhere : (word : List ℕ) (rows : List (List ℕ)) (result : Option ℕ) → result ≡ first_row word rows → IfNone result (IsNoRow word rows)
none_is_nowhere word rows None h = first_row_from-None word 0 rows (sym h)
none_is_nowhere word rows (Some i) h = tt
