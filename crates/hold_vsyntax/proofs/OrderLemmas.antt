-- Comparing sums of numbers digit by digit, from the first place on.
use Rattle.std.proofs.Common.{◌≡◌, ℕ, zero, suc, ◌+◌, ◌*◌, ◌-◌, ◌<◌, ◌≤◌, List, [], ◌∷◌, Bool, true, false, cond, refl, sym, ap, ◌∙◌, map, length, get_or, arith, inl, inr}
use Rattle.std.specs.Prelude.{◌==◌}
use Rattle.std.specs.Ordering.{nat_cmp}
use Rattle.std.specs.Prelude.{nat_lt, nat_le}
use Rattle.std.specs.declared.cmp.Ordering.{Ordering}
use Rattle.std.specs.declared.cmp.Ordering.TheVariants.{Less, Equal, Greater}
use Rattle.std.proofs.lemmas.Bool.{cases_Bool, cases_lt, ltb-true, ltb-false}
use Rattle.std.proofs.lemmas.List.{length-map}
use Rattle.hold_base.specs.inner.Digits.{number_from}
use Rattle.hold_vsyntax.specs.declared.number.Kept.{Kept}
use Rattle.hold_vsyntax.specs.declared.number.Kept.TheVariants.{Small, Digits}
use Rattle.hold_vsyntax.specs.inner.Number.{value_of}
use Rattle.hold_vsyntax.proofs.NumberLemmas.{number_from-zero}
use Rattle.hold_vsyntax.specs.inner.NumberOrder.{digits_of, digit, last_sums, horner, is_equal, is_not_greater}

-- the digits write the number
pub number_from-horner : (n : ℕ) (ds : List ℕ) → number_from n ds ≡ horner n (map (λ d. d - 48) ds)
number_from-horner n [] = refl
number_from-horner n (d ∷ ds) = number_from-horner (n * 10 + (d - 48)) ds

pub value_of-horner : (k : Kept) → value_of k ≡ horner 0 (digits_of k)
value_of-horner (Small n) = omega arith
value_of-horner (Digits ds) = sym (number_from-zero ds) ∙ number_from-horner 0 ds

-- the last places of a number
unfoldable pub padded : ℕ → List ℕ → List ℕ
padded zero ds = []
padded (suc k) ds = digit k ds ∷ padded k ds

digit-past : (k : ℕ) (ds : List ℕ) → length ds ≤ k → digit k ds ≡ 0
digit-past k [] h = refl
digit-past k (d ∷ ds) h =
    let apart : (k == length ds) ≡ false = grind arith in
    ap (λ (b : Bool). cond b d (digit k ds)) apart ∙ digit-past k ds (omega arith)

digit-cons : (k d : ℕ) (ds : List ℕ) → k < length ds → digit k (d ∷ ds) ≡ digit k ds
digit-cons k d ds h =
    let apart : (k == length ds) ≡ false = grind arith in
    ap (λ (b : Bool). cond b d (digit k ds)) apart

digit-first : (d : ℕ) (ds : List ℕ) → digit (length ds) (d ∷ ds) ≡ d
digit-first d ds =
    let same : (length ds == length ds) ≡ true = grind arith in
    ap (λ (b : Bool). cond b d (digit (length ds) ds)) same

padded-cons : (k d : ℕ) (ds : List ℕ) → k ≤ length ds → padded k (d ∷ ds) ≡ padded k ds
unfolding padded
padded-cons zero d ds h = refl
padded-cons (suc k) d ds h = ap (λ x. x ∷ padded k (d ∷ ds)) (digit-cons k d ds (omega arith)) ∙ ap (λ l. digit k ds ∷ l) (padded-cons k d ds (omega arith))

padded-length : (ds : List ℕ) → padded (length ds) ds ≡ ds
unfolding padded
padded-length [] = refl
padded-length (d ∷ ds) = ap (λ x. x ∷ padded (length ds) (d ∷ ds)) (digit-first d ds) ∙ ap (λ l. d ∷ l) (padded-cons (length ds) d ds (omega arith) ∙ padded-length ds)

pub padded-more : (k : ℕ) (ds : List ℕ) → length ds ≤ k → horner 0 (padded k ds) ≡ horner 0 ds
unfolding padded
padded-more zero [] h = refl
padded-more zero (d ∷ ds) h = absurd (omega arith)
padded-more (suc k) ds h = elim (cases_Bool (length ds == suc k)) [
  | inl same ↦ let long : suc k ≡ length ds = grind (arith, same) in ap (λ (n : ℕ). horner 0 (padded n ds)) long ∙ ap (horner 0) (padded-length ds)
  | inr less ↦ let short : length ds ≤ k = grind (arith, less) in ap (λ (n : ℕ). horner n (padded k ds)) (omega (arith, digit-past k ds short)) ∙ padded-more k ds short
]

horner-sums : (k n m : ℕ) (ds es : List ℕ) → horner (n + m) (last_sums k ds es) ≡ horner n (padded k ds) + horner m (padded k es)
unfolding padded
horner-sums zero n m ds es = refl
horner-sums (suc k) n m ds es =
    let step : (n + m) * 10 + (digit k ds + digit k es) ≡ (n * 10 + digit k ds) + (m * 10 + digit k es) = omega arith in
    ap (λ (p : ℕ). horner p (last_sums k ds es)) step ∙ horner-sums k (n * 10 + digit k ds) (m * 10 + digit k es) ds es

-- all places of two numbers write their sum
pub value_of-sums : (k : ℕ) (a b : Kept) → length (digits_of a) ≤ k → length (digits_of b) ≤ k → horner 0 (last_sums k (digits_of a) (digits_of b)) ≡ value_of a + value_of b
value_of-sums k a b ha hb =
    horner-sums k 0 0 (digits_of a) (digits_of b)
    ∙ ap (λ (x : ℕ). x + horner 0 (padded k (digits_of b))) (padded-more k (digits_of a) ha ∙ sym (value_of-horner a))
    ∙ ap (λ (y : ℕ). value_of a + y) (padded-more k (digits_of b) hb ∙ sym (value_of-horner b))

-- what both have counts for nothing
pub nat_cmp-both : (a b m : ℕ) → nat_cmp (a + m) (b + m) ≡ nat_cmp a b
nat_cmp-both a b m = grind arith

pub horner-both : (k a b m : ℕ) (ds es fs gs : List ℕ) → nat_cmp (horner (a + m) (last_sums k ds es)) (horner (b + m) (last_sums k fs gs)) ≡ nat_cmp (horner a (last_sums k ds es)) (horner b (last_sums k fs gs))
horner-both zero a b m ds es fs gs = nat_cmp-both a b m
horner-both (suc k) a b m ds es fs gs =
    let left : (a + m) * 10 + (digit k ds + digit k es) ≡ (a * 10 + (digit k ds + digit k es)) + m * 10 = omega arith in
    let right : (b + m) * 10 + (digit k fs + digit k gs) ≡ (b * 10 + (digit k fs + digit k gs)) + m * 10 = omega arith in
    ap (λ (p : ℕ). nat_cmp (horner p (last_sums k ds es)) (horner ((b + m) * 10 + (digit k fs + digit k gs)) (last_sums k fs gs))) left
    ∙ ap (λ (p : ℕ). nat_cmp (horner ((a * 10 + (digit k ds + digit k es)) + m * 10) (last_sums k ds es)) (horner p (last_sums k fs gs))) right
    ∙ horner-both k (a * 10 + (digit k ds + digit k es)) (b * 10 + (digit k fs + digit k gs)) (m * 10) ds es fs gs

-- one place further, less what both have
pub order_step : (k behind left right more_left more_right both : ℕ) (ds es fs gs : List ℕ) (whole : Ordering) → behind ≡ suc k
    → more_left ≡ left * 10 + digit k ds + digit k es → more_right ≡ right * 10 + digit k fs + digit k gs → both ≤ more_left → both ≤ more_right
    → nat_cmp (horner left (last_sums behind ds es)) (horner right (last_sums behind fs gs)) ≡ whole
    → nat_cmp (horner (more_left - both) (last_sums k ds es)) (horner (more_right - both) (last_sums k fs gs)) ≡ whole
order_step k behind left right more_left more_right both ds es fs gs whole b l r bl br so_far =
    let left_is : (more_left - both) + both ≡ left * 10 + (digit k ds + digit k es) = omega arith in
    let right_is : (more_right - both) + both ≡ right * 10 + (digit k fs + digit k gs) = omega arith in
    sym (horner-both k (more_left - both) (more_right - both) both ds es fs gs)
    ∙ ap (λ (p : ℕ). nat_cmp (horner p (last_sums k ds es)) (horner ((more_right - both) + both) (last_sums k fs gs))) left_is
    ∙ ap (λ (p : ℕ). nat_cmp (horner (left * 10 + (digit k ds + digit k es)) (last_sums k ds es)) (horner p (last_sums k fs gs))) right_is
    ∙ ap (λ (p : ℕ). nat_cmp (horner left (last_sums p ds es)) (horner right (last_sums p fs gs))) (sym b)
    ∙ so_far

nat_cmp-greater : (a b : ℕ) → b < a → nat_cmp a b ≡ Greater
nat_cmp-greater a b h = grind arith

nat_cmp-less : (a b : ℕ) → a < b → nat_cmp a b ≡ Less
nat_cmp-less a b h = grind arith

-- what is far ahead stays ahead
pub far_ahead : (k a b : ℕ) (ds es fs gs : List ℕ) → ((j : ℕ) → digit j fs ≤ 4294967295) → ((j : ℕ) → digit j gs ≤ 4294967295) → b + 8589934592 ≤ a
    → horner b (last_sums k fs gs) < horner a (last_sums k ds es)
far_ahead zero a b ds es fs gs sf sg h = omega arith
far_ahead (suc k) a b ds es fs gs sf sg h =
    far_ahead k (a * 10 + (digit k ds + digit k es)) (b * 10 + (digit k fs + digit k gs)) ds es fs gs sf sg (omega (arith, sf k, sg k))

pub far_greater : (k a b : ℕ) (ds es fs gs : List ℕ) → ((j : ℕ) → digit j fs ≤ 4294967295) → ((j : ℕ) → digit j gs ≤ 4294967295) → b + 8589934592 ≤ a
    → nat_cmp (horner a (last_sums k ds es)) (horner b (last_sums k fs gs)) ≡ Greater
far_greater k a b ds es fs gs sf sg h = nat_cmp-greater _ _ (far_ahead k a b ds es fs gs sf sg h)

pub far_less : (k a b : ℕ) (ds es fs gs : List ℕ) → ((j : ℕ) → digit j ds ≤ 4294967295) → ((j : ℕ) → digit j es ≤ 4294967295) → a + 8589934592 ≤ b
    → nat_cmp (horner a (last_sums k ds es)) (horner b (last_sums k fs gs)) ≡ Less
far_less k a b ds es fs gs sd se h = nat_cmp-less _ _ (far_ahead k b a fs gs ds es sd se h)

-- the digit at an index
pub digit-map : (k : ℕ) (ds : List ℕ) → k < length ds → digit k (map (λ d. d - 48) ds) ≡ get_or ds (length ds - 1 - k) 0 - 48
digit-map k [] h = absurd (omega arith)
digit-map k (d ∷ ds) h = elim (cases_Bool (k == length (map (λ (e : ℕ). e - 48) ds))) [
  | inl same ↦
      let long : k ≡ length ds = grind (arith, same, length-map ds (λ (e : ℕ). e - 48)) in
      let first : suc (length ds) - 1 - k ≡ 0 = omega arith in
      ap (λ (b : Bool). cond b (d - 48) (digit k (map (λ (e : ℕ). e - 48) ds))) same ∙ ap (λ (i : ℕ). get_or (d ∷ ds) i 0 - 48) (sym first)
  | inr apart ↦
      let short : k < length ds = grind (arith, apart, length-map ds (λ (e : ℕ). e - 48)) in
      let next : suc (length ds) - 1 - k ≡ suc (length ds - 1 - k) = omega arith in
      ap (λ (b : Bool). cond b (d - 48) (digit k (map (λ (e : ℕ). e - 48) ds))) apart ∙ digit-map k ds short ∙ ap (λ (i : ℕ). get_or (d ∷ ds) i 0 - 48) (sym next)
]

pub digit-none : (k : ℕ) (ds : List ℕ) → length ds ≤ k → 0 ≡ digit k (map (λ d. d - 48) ds)
digit-none k ds h = sym (digit-past k (map (λ (d : ℕ). d - 48) ds) (omega (arith, length-map ds (λ (d : ℕ). d - 48))))

pub digits_small : (ds : List ℕ) → ((i : ℕ) → get_or ds i 0 < 256) → (k : ℕ) → digit k (map (λ d. d - 48) ds) ≤ 4294967295
digits_small ds all k = elim (cases_lt k (length ds)) [
  | inl h ↦ omega (arith, digit-map k ds h, all (length ds - 1 - k))
  | inr h ↦ omega (arith, digit-none k ds h)
]

pub is_equal-nat_cmp : (x y : ℕ) → is_equal (nat_cmp x y) ≡ (x == y)
is_equal-nat_cmp x y = elim (cases_Bool (nat_lt x y)) [
  | inl less ↦
      let lt : x < y = ltb-true x y less in
      let apart : (x == y) ≡ false = grind arith in
      ap (λ (c : Bool). is_equal (cond c Less (cond (x == y) Equal Greater))) less ∙ sym apart
  | inr more ↦ ap (λ (c : Bool). is_equal (cond c Less (cond (x == y) Equal Greater))) more ∙ by (x == y)
]
  where
    by : (b : Bool) → is_equal (cond b Equal Greater) ≡ b
    by true = refl
    by false = refl

-- twice two numbers are equal where they are
pub double-eq : (a b : ℕ) → ((a + a) == (b + b)) ≡ (a == b)
double-eq a b = elim (cases_Bool (a == b)) [
  | inl same ↦ let two : ((a + a) == (b + b)) ≡ true = grind (arith, same) in two ∙ sym same
  | inr apart ↦ let two : ((a + a) == (b + b)) ≡ false = grind (arith, apart) in two ∙ sym apart
]

pub is_below-nat_cmp : (a b : ℕ) → is_not_greater (nat_cmp (a + a) (b + b)) ≡ nat_le a b
is_below-nat_cmp a b = elim (cases_Bool (nat_lt (a + a) (b + b))) [
  | inl less ↦
      let lt : a + a < b + b = ltb-true (a + a) (b + b) less in
      let le : nat_le a b ≡ true = grind arith in
      ap (λ (c : Bool). is_not_greater (cond c Less (cond ((a + a) == (b + b)) Equal Greater))) less ∙ sym le
  | inr more ↦ elim (cases_Bool ((a + a) == (b + b))) [
    | inl same ↦
        let one : nat_le a b ≡ true = grind (arith, same) in
        ap (λ (c : Bool). is_not_greater (cond c Less (cond ((a + a) == (b + b)) Equal Greater))) more ∙ ap (λ (c : Bool). is_not_greater (cond c Equal Greater)) same ∙ sym one
    | inr apart ↦
        let ge : b + b ≤ a + a = ltb-false (a + a) (b + b) more in
        let two : nat_le a b ≡ false = grind (arith, apart) in
        ap (λ (c : Bool). is_not_greater (cond c Less (cond ((a + a) == (b + b)) Equal Greater))) more ∙ ap (λ (c : Bool). is_not_greater (cond c Equal Greater)) apart ∙ sym two
  ]
]
