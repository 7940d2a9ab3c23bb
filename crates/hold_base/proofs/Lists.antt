-- Lists: joined, cut, mapped and filtered ones, the item at a place (slice_get), and what holds of each item
-- (AllByRecursion, All).
use Rattle.std.proofs.Common.{◌≡◌, ℕ, zero, suc, ◌+◌, ◌<◌, List, [], ◌∷◌, ◌++◌, length, drop, map, get_or, Bool, true, false, cond, refl, sym, ap, ◌∙◌, ◌⊎◌, inl, inr, arith, drop-drop}
use Rattle.std.proofs.lemmas.List.{drop_more}
use Rattle.std.proofs.lemmas.List.Elements.{All-nil, All-cons}
use Rattle.std.specs.Prelude.{Some, slice_get, flat_map, All, IsTrue, ◌&&◌, ◌↔◌}
use Rattle.std.specs.List.{AllByRecursion, list_all, filter}
use Rattle.std.specs.Cmp.Lexicographic.{pointwise}

pub append-nil_left : {X : Type 0} (xs ys : List X) → xs ++ ys ≡ [] → xs ≡ []
append-nil_left [] ys h = refl
append-nil_left (x ∷ xs) ys h = cc

pub append-nil_right : {X : Type 0} (xs ys : List X) → xs ++ ys ≡ [] → ys ≡ []
append-nil_right [] ys h = h
append-nil_right (x ∷ xs) ys h = cc

-- the item at a place stands at the front of what is left from there
pub drop-here : {X : Type 0} (xs : List X) (i : ℕ) (x : X) → i < length xs → x ≡ get_or xs i x → drop i xs ≡ x ∷ drop (i + 1) xs
drop-here xs i x h is = drop_more xs i x h ∙ ap (λ y. y ∷ drop (i + 1) xs) (sym is)

pub drop-next : {X : Type 0} (xs : List X) (i : ℕ) (y : X) (ys : List X) → drop i xs ≡ y ∷ ys → drop (i + 1) xs ≡ ys
drop-next xs i y ys e = sym (drop-drop 1 i xs) ∙ ap (drop 1) e

pub slice_get-append : {X : Type 0} (xs ys : List X) (k : ℕ) (x : X) → slice_get xs k ≡ Some x → slice_get (xs ++ ys) k ≡ Some x
slice_get-append [] ys k x h = absurd cc
slice_get-append (y ∷ xs) ys zero x h = h
slice_get-append (y ∷ xs) ys (suc k) x h = slice_get-append xs ys k x h

pub slice_get-seam : {X : Type 0} (xs ys : List X) (x : X) → slice_get (xs ++ x ∷ ys) (length xs) ≡ Some x
slice_get-seam [] ys x = refl
slice_get-seam (y ∷ xs) ys x = slice_get-seam xs ys x

pub slice_get-push : {X : Type 0} (xs : List X) (y : X) (k : ℕ) (x : X) → slice_get (xs ++ y ∷ []) k ≡ Some x → (slice_get xs k ≡ Some x) ⊎ ((k ≡ length xs) × (y ≡ x))
slice_get-push [] y zero x h = inr (refl, cc)
slice_get-push [] y (suc k) x h = absurd cc
slice_get-push (z ∷ xs) y zero x h = inl h
slice_get-push (z ∷ xs) y (suc k) x h = elim (slice_get-push xs y k x h) [ inl e ↦ inl e | inr e ↦ inr (omega (arith, e.0), e.1) ]

pub flat_map-none : {X Y : Type 0} (xs : List X) → flat_map {A = Y} (λ x. []) xs ≡ []
flat_map-none [] = refl
flat_map-none (x ∷ xs) = flat_map-none xs

pub flat_map-self : {X : Type 0} (xs : List X) → flat_map (λ (x : X). x ∷ []) xs ≡ xs
flat_map-self [] = refl
flat_map-self (x ∷ xs) = ap (λ r. x ∷ r) (flat_map-self xs)

pub filter-none : {X : Type 0} (p : X → Bool) (xs : List X) → AllByRecursion (λ x. p x ≡ false) xs → filter p xs ≡ []
filter-none p [] h = refl
filter-none p (x ∷ xs) h = let here = h.0 in rw here (filter-none p xs h.1)

pub filter-all : {X : Type 0} (p : X → Bool) (xs : List X) → AllByRecursion (λ x. p x ≡ true) xs → filter p xs ≡ xs
filter-all p [] h = refl
filter-all p (x ∷ xs) h = let here = h.0 in rw here (ap (λ r. x ∷ r) (filter-all p xs h.1))

pub list_all-same : {X : Type 0} (p q : X → Bool) → ((x : X) → p x ≡ q x) → (xs : List X) → list_all p xs ≡ list_all q xs
list_all-same p q same [] = refl
list_all-same p q same (x ∷ xs) = rw (same x, list_all-same p q same xs) refl

pub AllByRecursion-append : {X : Type 0} (P : X → Type 0) (xs ys : List X) → AllByRecursion P xs → AllByRecursion P ys → AllByRecursion P (xs ++ ys)
AllByRecursion-append P [] ys h more = more
AllByRecursion-append P (x ∷ xs) ys h more = (h.0, AllByRecursion-append P xs ys h.1 more)

pub AllByRecursion-append_left : {X : Type 0} (P : X → Type 0) (xs ys : List X) → AllByRecursion P (xs ++ ys) → AllByRecursion P xs
AllByRecursion-append_left P [] ys h = tt
AllByRecursion-append_left P (x ∷ xs) ys h = (h.0, AllByRecursion-append_left P xs ys h.1)

pub AllByRecursion-append_right : {X : Type 0} (P : X → Type 0) (xs ys : List X) → AllByRecursion P (xs ++ ys) → AllByRecursion P ys
AllByRecursion-append_right P [] ys h = h
AllByRecursion-append_right P (x ∷ xs) ys h = AllByRecursion-append_right P xs ys h.1

pub AllByRecursion-weaken : {X : Type 0} (P Q : X → Type 0) (weaker : (x : X) → P x → Q x) → (xs : List X) → AllByRecursion P xs → AllByRecursion Q xs
AllByRecursion-weaken P Q weaker [] h = tt
AllByRecursion-weaken P Q weaker (x ∷ xs) h = (weaker x h.0, AllByRecursion-weaken P Q weaker xs h.1)

pub AllByRecursion-map : {X Y : Type 0} (P : Y → Type 0) (f : X → Y) (xs : List X) → AllByRecursion (λ x. P (f x)) xs → AllByRecursion P (map f xs)
AllByRecursion-map P f [] h = tt
AllByRecursion-map P f (x ∷ xs) h = (h.0, AllByRecursion-map P f xs h.1)

pub AllByRecursion-flat_map : {X Y : Type 0} (Q : X → Type 0) (P : Y → Type 0) (f : X → List Y) (gives : (x : X) → Q x → AllByRecursion P (f x)) → (xs : List X)
    → AllByRecursion Q xs → AllByRecursion P (flat_map f xs)
AllByRecursion-flat_map Q P f gives [] h = tt
AllByRecursion-flat_map Q P f gives (x ∷ xs) h =
    AllByRecursion-append P (f x) (flat_map f xs) (gives x h.0) (AllByRecursion-flat_map Q P f gives xs h.1)

pub AllByRecursion-filter : {X : Type 0} (P : X → Type 0) (keeps : X → Bool) (xs : List X) → AllByRecursion P xs → AllByRecursion P (filter keeps xs)
AllByRecursion-filter P keeps [] h = tt
AllByRecursion-filter P keeps (x ∷ xs) h = by (keeps x) (AllByRecursion-filter P keeps xs h.1)
  where
    by : (b : Bool) → AllByRecursion P (filter keeps xs) → AllByRecursion P (cond b (x ∷ filter keeps xs) (filter keeps xs))
    by true rest = (h.0, rest)
    by false rest = rest

pub All-map : {X Y : Type 0} (P : Y → Type 0) (f : X → Y) (xs : List X) → ((x : X) → P (f x)) → All P (map f xs)
All-map P f [] each = All-nil P
All-map P f (x ∷ xs) each = All-cons P (f x) (map f xs) (each x) (All-map P f xs each)

-- an item test that is equality makes the list test equality
pub pointwise-same : {X : Type 0} (eq : X → X → Bool) → ((x y : X) → IsTrue (eq x y) ↔ (x ≡ y)) → (xs ys : List X) → IsTrue (pointwise eq xs ys) ↔ (xs ≡ ys)
pointwise-same eq exact [] [] = (λ h. refl, λ h. refl)
pointwise-same eq exact [] (y ∷ ys) = (λ h. cc, λ h. cc)
pointwise-same eq exact (x ∷ xs) [] = (λ h. cc, λ h. cc)
pointwise-same eq exact (x ∷ xs) (y ∷ ys) =
    let rest = pointwise-same eq exact xs ys in (
      λ h. let parts = both (eq x y) (pointwise eq xs ys) (exact x y).0 rest.0 h in let first = parts.0 in let more = parts.1 in cc,
      λ h. let first : x ≡ y = cc in let more : xs ≡ ys = cc in back (eq x y) (pointwise eq xs ys) ((exact x y).1 first) (rest.1 more),
    )
  where
    both : {A B : Type 0} (p q : Bool) → (IsTrue p → A) → (IsTrue q → B) → IsTrue (p && q) → A × B
    both true q a b h = (a refl, b h)
    both false q a b h = cc

    back : (p q : Bool) → IsTrue p → IsTrue q → IsTrue (p && q)
    back true q p h = h
    back false q p h = cc
