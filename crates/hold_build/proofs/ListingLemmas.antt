-- Lists in which no item stands twice, and lists of exactly what a property holds of.
use Rattle.std.proofs.Common.{◌≡◌, ℕ, zero, suc, ◌+◌, ◌≤◌, ◌⊎◌, inl, inr, List, [], ◌∷◌, ◌++◌, length, refl, sym, ap, subst, ◌∙◌, arith, length-append}
use Rattle.std.specs.Prelude.{Contains, Some, slice_get}
use Rattle.std.proofs.lemmas.List.Elements.{All-append, All-contains, All-push, All-weaker, Contains-append_cases, Contains-append_left, Contains-append_right, Contains-push}
use Rattle.std.proofs.lemmas.Option.{get_or_from_slice_get, slice_get-get_or, slice_get_within}
use Rattle.hold_base.proofs.Lists.{slice_get-push}
use Rattle.hold_build.specs.Listing.{ListsEach, StandsOnce}

module _ {X : Type 0} (xs : List X) where
  pub at-Contains : (x : X) → Contains xs x → (k : ℕ) × (slice_get xs k ≡ Some x)
  at-Contains x h = (h.0, slice_get-get_or xs h.0 x h.1 ∙ ap Some h.2)

  pub Contains-at : (k : ℕ) (x : X) → slice_get xs k ≡ Some x → Contains xs x
  Contains-at k x h = (k, slice_get_within xs k x h, get_or_from_slice_get xs k x x h)

pub slice_get-cases : {X : Type 0} (xs ys : List X) (k : ℕ) (x : X) → slice_get (xs ++ ys) k ≡ Some x
    → (slice_get xs k ≡ Some x) ⊎ ((m : ℕ) × (k ≡ length xs + m) × (slice_get ys m ≡ Some x))
slice_get-cases [] ys k x h = inr (k, omega arith, h)
slice_get-cases (y ∷ xs) ys zero x h = inl h
slice_get-cases (y ∷ xs) ys (suc k) x h = elim (slice_get-cases xs ys k x h) [ inl a ↦ inl a | inr b ↦ inr (b.0, omega arith, b.2) ]

-- ---- no item twice

pub StandsOnce-nil : {X : Type 0} → StandsOnce {X = X} []
StandsOnce-nil {X} i j x h k = cc

pub StandsOnce-push : {X : Type 0} (xs : List X) (y : X) → StandsOnce xs → (Contains xs y → ⊥) → StandsOnce (xs ++ y ∷ [])
StandsOnce-push {X} xs y once new i j x h k = by (slice_get-push xs y i x h) (slice_get-push xs y j x k)
  where
    by : ((slice_get xs i ≡ Some x) ⊎ ((i ≡ length xs) × (y ≡ x))) → ((slice_get xs j ≡ Some x) ⊎ ((j ≡ length xs) × (y ≡ x))) → i ≡ j
    by (inl a) (inl b) = once i j x a b
    by (inl a) (inr b) = absurd (new (Contains-at xs i y (a ∙ ap Some (sym b.1))))
    by (inr a) (inl b) = absurd (new (Contains-at xs j y (b ∙ ap Some (sym a.1))))
    by (inr a) (inr b) = a.0 ∙ sym b.0

pub StandsOnce-append : {X : Type 0} (xs ys : List X) → StandsOnce xs → StandsOnce ys → ((x : X) → Contains xs x → Contains ys x → ⊥) → StandsOnce (xs ++ ys)
StandsOnce-append {X} xs ys once more apart i j x h k = by (slice_get-cases xs ys i x h) (slice_get-cases xs ys j x k)
  where
    by : ((slice_get xs i ≡ Some x) ⊎ ((m : ℕ) × (i ≡ length xs + m) × (slice_get ys m ≡ Some x)))
        → ((slice_get xs j ≡ Some x) ⊎ ((m : ℕ) × (j ≡ length xs + m) × (slice_get ys m ≡ Some x))) → i ≡ j
    by (inl a) (inl b) = once i j x a b
    by (inl a) (inr b) = absurd (apart x (Contains-at xs i x a) (Contains-at ys b.0 x b.2))
    by (inr a) (inl b) = absurd (apart x (Contains-at xs j x b) (Contains-at ys a.0 x a.2))
    by (inr a) (inr b) = let same : a.0 ≡ b.0 = more a.0 b.0 x a.2 b.2 in omega arith

StandsOnce-tail : {X : Type 0} (x : X) (xs : List X) → StandsOnce (x ∷ xs) → StandsOnce xs
StandsOnce-tail {X} x xs once i j y h k = let same : suc i ≡ suc j = once (suc i) (suc j) y h k in omega arith

-- the first item doesn't stand behind
StandsOnce-head : {X : Type 0} (x : X) (xs : List X) → StandsOnce (x ∷ xs) → (y : X) → Contains xs y → x ≡ y → ⊥
StandsOnce-head x xs once y h e = let at = at-Contains xs y h in let same : 0 ≡ suc at.0 = once 0 (suc at.0) y (ap Some e) at.1 in omega arith

-- ---- how long such a list is

-- an item of a list, with what stands before and behind it
record IsSplit {X : Type 0} (xs : List X) (x : X) : Type 0 where
  pub before : List X
  pub after : List X
  pub is : xs ≡ before ++ x ∷ after

split : {X : Type 0} (xs : List X) (x : X) (k : ℕ) → slice_get xs k ≡ Some x → IsSplit xs x
split [] x k h = absurd cc
split (y ∷ xs) x zero h = let same : y ≡ x = cc in record { before = []; after = xs; is = ap (λ z. z ∷ xs) same }
split (y ∷ xs) x (suc k) h = let rest = split xs x k h in record { before = y ∷ rest.before; after = rest.after; is = ap (λ l. y ∷ l) rest.is }

behind : {X : Type 0} (x : X) (xs : List X) (y : X) → Contains (x ∷ xs) y → (x ≡ y → ⊥) → Contains xs y
behind x xs y (zero, lt, is) apart = absurd (apart is)
behind x xs y (suc k, lt, is) apart = (k, omega arith, is)

others : {X : Type 0} (before after : List X) (x y : X) → Contains (before ++ x ∷ after) y → (x ≡ y → ⊥) → Contains (before ++ after) y
others before after x y h apart = elim (Contains-append_cases before (x ∷ after) y h) [
  | inl a ↦ Contains-append_left before after y a
  | inr b ↦ Contains-append_right before after y (behind x after y b apart)
]

-- a list without doubles is at most as long as one that has its items
pub length-le : {X : Type 0} (xs ys : List X) → StandsOnce xs → ((x : X) → Contains xs x → Contains ys x) → length xs ≤ length ys
length-le [] ys once has = omega arith
length-le (x ∷ xs) ys once has =
    let at = at-Contains ys x (has x (0, omega arith, refl)) in
    let parts = split ys x at.0 at.1 in
    let rest = length-le xs (parts.before ++ parts.after) (StandsOnce-tail x xs once)
    (λ y h. others parts.before parts.after x y (subst (λ l. Contains l y) parts.is (has y (h.0 + 1, (let inside = h.1 in omega arith), (rw (let next : h.0 + 1 ≡ suc h.0 = omega arith in next) h.2)))) (StandsOnce-head x xs once y h)) in
    omega (arith, ap (λ l. length l) parts.is, length-append parts.before (x ∷ parts.after), length-append parts.before parts.after, rest)

-- ---- lists of exactly what a property holds of

module _ {X : Type 0} (P Q : X → Type 0) where
  pub ListsEach-same : (xs : List X) → ((x : X) → P x → Q x) → ((x : X) → Q x → P x) → ListsEach P xs → ListsEach Q xs
  ListsEach-same xs there back h = record { sound = All-weaker P Q there xs h.sound; whole = λ x q. h.whole x (back x q); once = h.once }

  pub ListsEach-push : (xs : List X) (y : X) → ListsEach P xs → ((x : X) → P x → Q x) → Q y → (P y → ⊥) → ((x : X) → Q x → P x ⊎ (y ≡ x)) → ListsEach Q (xs ++ y ∷ [])
  ListsEach-push xs y h weaker here new cases = record {
    sound = All-push Q xs y (All-weaker P Q weaker xs h.sound) here;
    whole = λ x q. elim (cases x q) [
      | inl p ↦ Contains-append_left xs (y ∷ []) x (h.whole x p)
      | inr e ↦ subst (Contains (xs ++ y ∷ [])) e (Contains-push xs y)
    ];
    once = StandsOnce-push xs y h.once (λ k. new (All-contains P xs y h.sound k));
  }

  pub ListsEach-append : (xs ys : List X) → ListsEach P xs → ListsEach Q ys → ((x : X) → P x → Q x → ⊥) → ListsEach (λ x. P x ⊎ Q x) (xs ++ ys)
  ListsEach-append xs ys h k apart = record {
    sound = All-append (λ x. P x ⊎ Q x) xs ys (All-weaker P (λ x. P x ⊎ Q x) (λ x p. inl p) xs h.sound) (All-weaker Q (λ x. P x ⊎ Q x) (λ x q. inr q) ys k.sound);
    whole = λ x r. elim r [ inl p ↦ Contains-append_left xs ys x (h.whole x p) | inr q ↦ Contains-append_right xs ys x (k.whole x q) ];
    once = StandsOnce-append xs ys h.once k.once (λ x a b. apart x (All-contains P xs x h.sound a) (All-contains Q ys x k.sound b));
  }

-- lists of the same are equally long
pub ListsEach-length : {X : Type 0} (P : X → Type 0) (xs ys : List X) → ListsEach P xs → ListsEach P ys → length xs ≤ length ys
ListsEach-length P xs ys h k = length-le xs ys h.once (λ x at. k.whole x (All-contains P xs x h.sound at))
