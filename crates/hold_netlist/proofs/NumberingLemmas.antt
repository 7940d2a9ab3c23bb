-- Numbers of things in a row: how many first numbers there are, what each is, and that they don't fall; which thing has a
-- number, that one has it at most, and none one past the end; and what stands at a number in lists of as many items as the
-- things have numbers.
use Rattle.std.proofs.Common.{◌≡◌, ℕ, ◌+◌, ◌-◌, ◌<◌, ◌≤◌, List, [], ◌∷◌, length, take, get_or, refl, ap, sym, arith, zero, suc, ◌∙◌, length-append}
use Rattle.std.proofs.lemmas.List.Concat.{get_or-flat_map}
use Rattle.std.proofs.lemmas.List.Sums.{sum_by-cons, sum_by_more}
use Rattle.std.proofs.lemmas.List.{take_all}
use Rattle.std.proofs.lemmas.Option.{slice_get_within, get_or_from_slice_get, IfSome_then}
use Rattle.std.specs.List.Sorted.{IsNonDecreasing}
use Rattle.std.proofs.lemmas.List.Sorted.{IsNonDecreasingBy-from_default}
use Rattle.std.specs.Prelude.{◌↔◌, slice_get, Option, Some, None, IfSome, IsNone, sum_by, flat_map}
use Rattle.hold_base.proofs.Orders.{le-never}
use Rattle.hold_netlist.specs.Numbering.{first_of, IsNumbered}
use Rattle.hold_netlist.specs.inner.Numbering.{firsts_from, IsHeld}

there : {X : Type 0} (xs : List X) (i : ℕ) → i < length xs → (x : X) × (slice_get xs i ≡ Some x)
there [] i h = absurd (omega arith)
there (x ∷ xs) zero h = (x, refl)
there (x ∷ xs) (suc i) h = there xs i (omega arith)

module _ {X : Type 0} (width : X → ℕ) where
  -- one for each thing, and the number behind the last
  pub length-firsts : (n : ℕ) (xs : List X) → length (firsts_from n width xs) ≡ length xs + 1
  length-firsts n [] = refl
  length-firsts n (x ∷ xs) = omega (arith, length-firsts (n + width x) xs)

  -- what each is
  pub firsts-at : (n : ℕ) (xs : List X) (i : ℕ) → i ≤ length xs → get_or (firsts_from n width xs) i 0 ≡ n + first_of width xs i
  firsts-at n [] zero h = omega arith
  firsts-at n [] (suc i) h = absurd (omega arith)
  firsts-at n (x ∷ xs) zero h = omega arith
  firsts-at n (x ∷ xs) (suc i) h = firsts-at (n + width x) xs i (omega arith) ∙ omega (arith, sum_by-cons width x (take i xs))

  -- a thing's numbers come before the next one's
  pub first_of-suc : (xs : List X) (i : ℕ) (x : X) → slice_get xs i ≡ Some x → first_of width xs (i + 1) ≡ first_of width xs i + width x
  first_of-suc xs i x at = sum_by_more width xs i x (slice_get_within xs i x at) ∙ ap (λ y. first_of width xs i + width y) (get_or_from_slice_get xs i x x at)

  -- a later thing begins no earlier
  pub first_of-le : (xs : List X) (i j : ℕ) → i ≤ j → first_of width xs i ≤ first_of width xs j
  first_of-le [] zero zero h = omega arith
  first_of-le [] zero (suc j) h = omega arith
  first_of-le [] (suc i) zero h = absurd (omega arith)
  first_of-le [] (suc i) (suc j) h = omega arith
  first_of-le (x ∷ xs) zero j h = omega arith
  first_of-le (x ∷ xs) (suc i) zero h = absurd (omega arith)
  first_of-le (x ∷ xs) (suc i) (suc j) h = omega (arith, sum_by-cons width x (take i xs), sum_by-cons width x (take j xs), first_of-le xs i j (omega arith))

  -- past the last thing stands how many numbers there are
  pub first_of-length : (xs : List X) → first_of width xs (length xs) ≡ sum_by width xs
  first_of-length xs = ap (sum_by width) (take_all (length xs) xs (omega arith))

  -- first numbers don't fall
  pub firsts-IsNonDecreasing : (xs : List X) → IsNonDecreasing (firsts_from 0 width xs)
  firsts-IsNonDecreasing xs = IsNonDecreasingBy-from_default (λ x. x) (firsts_from 0 width xs) 0
      (λ i j h within. let long = length-firsts 0 xs in omega (arith, firsts-at 0 xs i (omega arith), firsts-at 0 xs j (omega arith), first_of-le xs i j h))

  -- a thing's number lies before the next thing's first
  pub IsNumbered-next : (xs : List X) (n i k : ℕ) → IsNumbered width xs n i k → n < first_of width xs (i + 1)
  IsNumbered-next xs n i k h = omega (arith, h.number, h.within.2, first_of-suc xs i h.within.0 h.within.1)

  -- and before the end
  pub IsNumbered-below : (xs : List X) (n i k : ℕ) → IsNumbered width xs n i k → n < sum_by width xs
  IsNumbered-below xs n i k h =
      let inside = slice_get_within xs i h.within.0 h.within.1 in
      omega (arith, IsNumbered-next xs n i k h, first_of-le xs (i + 1) (length xs) (omega arith), first_of-length xs)

  -- another thing that has the number is no earlier one
  IsNumbered-le : (xs : List X) (n i k j m : ℕ) → IsNumbered width xs n i k → IsNumbered width xs n j m → i ≤ j
  IsNumbered-le xs n i k j m h w = le-never _ _ (λ more. omega (arith, h.number, IsNumbered-next xs n j m w, first_of-le xs (j + 1) i (omega arith)))

  -- one thing has a number at most
  pub IsNumbered-one : (xs : List X) (n i k j m : ℕ) → IsNumbered width xs n i k → IsNumbered width xs n j m → (i ≡ j) × (k ≡ m)
  IsNumbered-one xs n i k j m h w =
      let same : i ≡ j = omega (arith, IsNumbered-le xs n i k j m h w, IsNumbered-le xs n j m i k w h) in
      (same, omega (arith, h.number, w.number, ap (first_of width xs) same))

  -- The same over a list of the first numbers.
  module _ (xs : List X) (firsts : List ℕ) (table : firsts ≡ firsts_from 0 width xs) where
    pub length-table : length firsts ≡ length xs + 1
    length-table = ap length table ∙ length-firsts 0 xs

    pub table-at : (i : ℕ) → i ≤ length xs → get_or firsts i 0 ≡ first_of width xs i
    table-at i h = omega (arith, ap (λ (l : List ℕ). get_or l i 0) table, firsts-at 0 xs i h)

    pub table-IsNonDecreasing : IsNonDecreasing firsts
    table-IsNonDecreasing = rw table (firsts-IsNonDecreasing xs)

    pub table-first : get_or firsts 0 0 ≡ 0
    table-first = omega (arith, table-at 0 (omega arith))

    pub table-last : get_or firsts (length xs) 0 ≡ sum_by width xs
    table-last = table-at (length xs) (omega arith) ∙ first_of-length xs

    -- a number from a first number up to the next is of the thing that it is the first of
    pub IsNumbered-held : (n i k : ℕ) → IsHeld firsts n i k → IsNumbered width xs n i k
    IsNumbered-held n i k h =
        let long = length-table in
        let at = there xs i (omega (arith, h.place)) in
        record {
          number = omega (arith, h.number, table-at i (omega (arith, h.place)));
          within = (at.0, at.1, omega (arith, h.number, h.before, table-at i (omega (arith, h.place)), table-at (i + 1) (omega (arith, h.place)), first_of-suc xs i at.0 at.1));
        }

    -- so a search answers exactly where there is a thing
    pub found : (n : ℕ) (o : Option (ℕ × ℕ)) → IfSome o (λ at. IsHeld firsts n at.0 at.1) → IfSome o (λ at. IsNumbered width xs n at.0 at.1)
    found n o h = IfSome_then o h (λ at held. IsNumbered-held n at.0 at.1 held)

    pub none_found : (n : ℕ) (o : Option (ℕ × ℕ)) → IfSome o (λ at. IsHeld firsts n at.0 at.1) → (IsNone o → get_or firsts (length firsts - 1) 0 ≤ n) → IsNone o ↔ (sum_by width xs ≤ n)
    none_found n None h past =
        let long = length-table in
        let end : length firsts - 1 ≡ length xs = omega arith in
        (λ _. omega (arith, past refl, ap (λ m. get_or firsts m 0) end, table-last), λ _. refl)
    none_found n (Some at) h past = (λ no. cc, λ end. absurd (omega (arith, end, IsNumbered-below xs n at.0 at.1 (IsNumbered-held n at.0 at.1 h))))

  -- how many items such lists have
  pub length-flat_map : {Y : Type 0} (f : X → List Y) → ((x : X) → length (f x) ≡ width x) → (xs : List X) → length (flat_map f xs) ≡ sum_by width xs
  length-flat_map f long [] = refl
  length-flat_map f long (x ∷ xs) = omega (arith, length-append (f x) (flat_map f xs), long x, sum_by-cons width x xs, length-flat_map f long xs)

  -- and what stands at a number there
  pub flat_map-at : {Y : Type 0} (f : X → List Y) → ((x : X) → length (f x) ≡ width x) → (xs : List X) (n i k : ℕ) (x : X) (d : Y) → IsNumbered width xs n i k
      → slice_get xs i ≡ Some x → get_or (flat_map f xs) n d ≡ get_or (f x) k d
  flat_map-at f long xs n i k x d h at =
      let inside = slice_get_within xs i x at in
      let here : get_or xs i x ≡ x = get_or_from_slice_get xs i x x at in
      let same : h.within.0 ≡ x = sym (get_or_from_slice_get xs i h.within.0 x h.within.1) ∙ here in
      let few : k < length (f (get_or xs i x)) = omega (arith, h.within.2, ap width same, long x, ap (λ y. length (f y)) here) in
      let place : n ≡ length (flat_map f (take i xs)) + k = omega (arith, h.number, length-flat_map f long (take i xs)) in
      ap (λ m. get_or (flat_map f xs) m d) place ∙ get_or-flat_map f xs i k x d inside few ∙ ap (λ y. get_or (f y) k d) here
