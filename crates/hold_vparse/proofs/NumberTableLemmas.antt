-- Tables of numbers: how they grow, and what they tell of a number.
use Rattle.std.proofs.Common.{◌≡◌, ℕ, zero, suc, ◌+◌, List, [], ◌∷◌, ◌++◌, Bool, true, false, cond, map, refl, sym, ap, ◌∙◌, subst, bytes_eq, is_none, length, arith, inl, inr, length-append}
use Rattle.std.specs.Prelude.{Option, None, Some, slice_get}
use Rattle.std.specs.Option.{option_map}
use Rattle.std.specs.List.{AllByRecursion}
use Rattle.std.proofs.lemmas.List.{map-append, length-map}
use Rattle.std.proofs.lemmas.Option.{slice_get-map}
use Rattle.std.proofs.lemmas.Slice.Eq.{bytes_eq-Decides}
use Rattle.hold_base.specs.inner.Lists.{OneEach}
use Rattle.hold_base.proofs.Lists.{slice_get-seam, slice_get-push, AllByRecursion-append}
use Rattle.hold_netlist.specs.inner.NameTable.{names_of}
use Rattle.hold_netlist.specs.NameTable.{number_of as named_number}
use Rattle.hold_base.specs.Digits.{number_of}
use Rattle.hold_vsyntax.specs.Number.{IsPlain}
use Rattle.hold_vsyntax.proofs.PlainLemmas.{plain_same}
use Rattle.hold_vparse.specs.inner.Index.{place_of, IsIndex}
use Rattle.hold_vparse.specs.inner.NumberTable.{numbers_of, IsClassed}
use Rattle.hold_vparse.proofs.IndexLemmas.{index_more}

-- at the place of a name stands that name
place_of-get : (name : List ℕ) (names : List (List ℕ)) (k : ℕ) → place_of name names ≡ Some k → slice_get names k ≡ Some name
place_of-get name [] k h = cc
place_of-get name (x ∷ xs) k h = by (bytes_eq name x) refl (λ j. place_of-get name xs j) k h
  where
    behind : (o : Option ℕ) (k : ℕ) → ((j : ℕ) → o ≡ Some j → slice_get xs j ≡ Some name) → option_map suc o ≡ Some k → slice_get (x ∷ xs) k ≡ Some name
    behind None k rest e = cc
    behind (Some j) k rest e = let next : suc j ≡ k = cc in subst (λ (i : ℕ). slice_get (x ∷ xs) i ≡ Some name) next (rest j refl)

    by : (b : Bool) → b ≡ bytes_eq name x → ((j : ℕ) → place_of name xs ≡ Some j → slice_get xs j ≡ Some name)
        → (k : ℕ) → cond b (Some 0) (option_map suc (place_of name xs)) ≡ Some k → slice_get (x ∷ xs) k ≡ Some name
    by true same rest k e =
        let front : zero ≡ k = cc in
        let it : name ≡ x = (bytes_eq-Decides name x).0 (sym same) in
        subst (λ (i : ℕ). slice_get (x ∷ xs) i ≡ Some name) front (ap Some (sym it))
    by false other rest k e = behind (place_of name xs) k rest e

-- a name that the table has stands at its number
place_of-none : (name : List ℕ) (names : List (List ℕ)) (k : ℕ) → place_of name names ≡ None → slice_get names k ≡ Some name → ⊥
place_of-none name [] k h e = cc
place_of-none name (x ∷ xs) k h e = by (bytes_eq name x) refl (λ j. place_of-none name xs j) k h e
  where
    behind : (o : Option ℕ) → option_map suc o ≡ None → o ≡ None
    behind None e = refl
    behind (Some j) e = cc

    by : (b : Bool) → b ≡ bytes_eq name x → ((j : ℕ) → place_of name xs ≡ None → slice_get xs j ≡ Some name → ⊥)
        → (k : ℕ) → cond b (Some 0) (option_map suc (place_of name xs)) ≡ None → slice_get (x ∷ xs) k ≡ Some name → ⊥
    by true same rest k h e = cc
    by false other rest zero h e =
        let it : x ≡ name = cc in
        let same : bytes_eq name x ≡ true = (bytes_eq-Decides name x).1 (sym it) in
        cc
    by false other rest (suc k) h e = rest k (behind (place_of name xs) h) e

-- one new number more
OneEach-more : (ns : List ℕ) (n : ℕ) → OneEach ns → ((i : ℕ) → slice_get ns i ≡ Some n → ⊥) → OneEach (ns ++ n ∷ [])
OneEach-more ns n h new = record {
  apart = λ i j m ei ej. elim (slice_get-push ns n i m ei) [
    | inl first ↦ elim (slice_get-push ns n j m ej) [
      | inl second ↦ h.apart i j m first second
      | inr last ↦ absurd (new i (first ∙ ap Some (sym last.1)))
    ]
    | inr last ↦ elim (slice_get-push ns n j m ej) [
      | inl second ↦ absurd (new j (second ∙ ap Some (sym last.1)))
      | inr other ↦ last.0 ∙ sym other.0
    ]
  ];
}

-- the number of a name stands at the name's place
numbers_of-get : (pairs : List (List ℕ × ℕ)) (k : ℕ) (name : List ℕ) → slice_get (names_of pairs) k ≡ Some name → slice_get (numbers_of pairs) k ≡ Some (number_of name)
numbers_of-get pairs k name h = slice_get-map number_of (names_of pairs) k ∙ ap (option_map number_of) h

pub class_known : (pairs : List (List ℕ × ℕ)) (many k : ℕ) (name : List ℕ) → IsClassed pairs many → Some k ≡ named_number name pairs
    → slice_get (numbers_of pairs) k ≡ Some (number_of name)
class_known pairs many k name h e =
    numbers_of-get pairs k name (place_of-get name (names_of pairs) k (sym (h.places.places name) ∙ sym e))

plain_at : (names : List (List ℕ)) (k : ℕ) (name : List ℕ) → AllByRecursion IsPlain names → slice_get names k ≡ Some name → IsPlain name
plain_at [] k name h e = cc
plain_at (x ∷ xs) zero name h e = let it : x ≡ name = cc in subst IsPlain it h.0
plain_at (x ∷ xs) (suc k) name h e = plain_at xs k name h.1 e

some_name : (o : Option (List ℕ)) (n : ℕ) → option_map number_of o ≡ Some n → (name : List ℕ) × (o ≡ Some name) × (number_of name ≡ n)
some_name None n h = cc
some_name (Some name) n h = (name, refl, cc)

-- a number whose plain digits have no class is new
number_is_new : (pairs : List (List ℕ × ℕ)) (many : ℕ) (name : List ℕ) → IsClassed pairs many → IsPlain name → named_number name pairs ≡ None
    → (i : ℕ) → slice_get (numbers_of pairs) i ≡ Some (number_of name) → ⊥
number_is_new pairs many name h plain none i e =
    let found = some_name (slice_get (names_of pairs) i) (number_of name) (sym (slice_get-map number_of (names_of pairs) i) ∙ e) in
    let same : found.0 ≡ name = plain_same found.0 name (plain_at (names_of pairs) i found.0 h.plain found.1) plain found.2 in
    place_of-none name (names_of pairs) i (sym (h.places.places name) ∙ none) (found.1 ∙ ap Some same)

names_of-more : (pairs : List (List ℕ × ℕ)) (name : List ℕ) (k : ℕ) → names_of (pairs ++ (name, k) ∷ []) ≡ names_of pairs ++ name ∷ []
names_of-more pairs name k = map-append (λ (p : List ℕ × ℕ). p.0) pairs ((name, k) ∷ [])

numbers_of-more : (pairs : List (List ℕ × ℕ)) (name : List ℕ) (k : ℕ) → numbers_of (pairs ++ (name, k) ∷ []) ≡ numbers_of pairs ++ number_of name ∷ []
numbers_of-more pairs name k = ap (map number_of) (names_of-more pairs name k) ∙ map-append number_of (names_of pairs) (name ∷ [])

-- the table after a new number
classed_more : (pairs : List (List ℕ × ℕ)) (many : ℕ) (name : List ℕ) → IsClassed pairs many → IsPlain name → named_number name pairs ≡ None
    → IsClassed (pairs ++ (name, many) ∷ []) (many + 1)
classed_more pairs many name h plain none =
    let count : many ≡ length (names_of pairs) = h.count ∙ sym (length-map pairs (λ (p : List ℕ × ℕ). p.0)) in
    let put : pairs ++ (name, many) ∷ [] ≡ cond true (pairs ++ (name, length (names_of pairs)) ∷ []) pairs = ap (λ (k : ℕ). pairs ++ (name, k) ∷ []) count in
    let told : true ≡ is_none (named_number name pairs) = rw none refl in
    record {
      count = omega (arith, h.count, length-append pairs ((name, many) ∷ []));
      plain = subst (AllByRecursion IsPlain) (sym (names_of-more pairs name many)) (AllByRecursion-append IsPlain (names_of pairs) (name ∷ []) h.plain (plain, tt));
      places = subst (IsIndex (pairs ++ (name, many) ∷ [])) (sym (names_of-more pairs name many)) (index_more pairs (pairs ++ (name, many) ∷ []) (names_of pairs) name true h.places told put);
      one_each = subst OneEach (sym (numbers_of-more pairs name many)) (OneEach-more (numbers_of pairs) (number_of name) h.one_each (number_is_new pairs many name h plain none));
    }

-- and its class
class_new : (pairs : List (List ℕ × ℕ)) (many : ℕ) (name : List ℕ) → IsClassed pairs many
    → slice_get (numbers_of (pairs ++ (name, many) ∷ [])) many ≡ Some (number_of name)
class_new pairs many name h =
    let count : length (numbers_of pairs) ≡ many = length-map (names_of pairs) number_of ∙ length-map pairs (λ (p : List ℕ × ℕ). p.0) ∙ sym h.count in
    ap (λ (l : List ℕ). slice_get l many) (numbers_of-more pairs name many)
    ∙ ap (slice_get (numbers_of pairs ++ number_of name ∷ [])) (sym count)
    ∙ slice_get-seam (numbers_of pairs) [] (number_of name)

-- what a table of names holds once a name that it lacked was added
added_new : (pairs more : List (List ℕ × ℕ)) (name : List ℕ) (k : ℕ) (new : Bool) → named_number name pairs ≡ None → new ≡ is_none (named_number name pairs)
    → more ≡ cond new (pairs ++ (name, k) ∷ []) pairs → more ≡ pairs ++ (name, k) ∷ []
added_new pairs more name k new none told put = put ∙ ap (λ (b : Bool). cond b (pairs ++ (name, k) ∷ []) pairs) (told ∙ ap is_none none)

-- the same of a table that was told so
pub classed_added : (pairs more : List (List ℕ × ℕ)) (many next : ℕ) (name : List ℕ) (new : Bool) → IsClassed pairs many → IsPlain name → named_number name pairs ≡ None
    → new ≡ is_none (named_number name pairs) → more ≡ cond new (pairs ++ (name, many) ∷ []) pairs → next ≡ many + 1 → IsClassed more next
classed_added pairs more many next name new h plain none told put is_next =
    subst (λ (ps : List (List ℕ × ℕ)). IsClassed ps next) (sym (added_new pairs more name many new none told put))
    (subst (IsClassed (pairs ++ (name, many) ∷ [])) (sym is_next) (classed_more pairs many name h plain none))

pub class_added : (pairs more : List (List ℕ × ℕ)) (many : ℕ) (name : List ℕ) (new : Bool) → IsClassed pairs many → named_number name pairs ≡ None
    → new ≡ is_none (named_number name pairs) → more ≡ cond new (pairs ++ (name, many) ∷ []) pairs → slice_get (numbers_of more) many ≡ Some (number_of name)
class_added pairs more many name new h none told put =
    ap (λ (ps : List (List ℕ × ℕ)). slice_get (numbers_of ps) many) (added_new pairs more name many new none told put) ∙ class_new pairs many name h
