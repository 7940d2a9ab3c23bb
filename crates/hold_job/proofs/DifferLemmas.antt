-- Lists in which nothing stands twice.
use Rattle.std.proofs.Common.{◌≡◌, ℕ, zero, suc, List, [], ◌∷◌, ◌++◌, map, Bool, true, false, cond, Some, None, length, refl, ap, sym, ◌∙◌, subst, bytes_eq}
use Rattle.std.specs.Prelude.{slice_get, flat_map}
use Rattle.std.specs.List.{AllByRecursion, list_any}
use Rattle.std.proofs.lemmas.Bool.{or_parts}
use Rattle.std.proofs.lemmas.List.{map-append}
use Rattle.std.proofs.lemmas.List.Folds.{list_any-append}
use Rattle.std.proofs.lemmas.Option.{same_Some}
use Rattle.hold_base.proofs.Bytes.{bytes_eq-self}
use Rattle.hold_base.proofs.Lists.{AllByRecursion-append, AllByRecursion-map, AllByRecursion-weaken}
use Rattle.hold_netlist.specs.Names.{is_among}
use Rattle.hold_job.specs.Doubles.{again}
use Rattle.hold_job.specs.Rules.{StandOnce}

-- each item differs from all that follow it
abbrev pub Differ : {A : Type 0} → List A → Type 0
Differ [] = Unit {0}
Differ (x ∷ xs) = AllByRecursion (λ y. x ≡ y → ⊥) xs × Differ xs

pub at_place : {A : Type 0} (P : A → Type 0) (xs : List A) (k : ℕ) (x : A) → AllByRecursion P xs → slice_get xs k ≡ Some x → P x
at_place P [] k x all at = cc
at_place P (y ∷ ys) zero x all at = subst P (same_Some y x at) all.0
at_place P (y ∷ ys) (suc k) x all at = at_place P ys k x all.1 at

pub Differ-once : {A : Type 0} (xs : List A) → Differ xs → StandOnce xs
Differ-once [] h j k x at also = cc
Differ-once (y ∷ ys) h zero zero x at also = refl
Differ-once (y ∷ ys) h zero (suc k) x at also = absurd (at_place (λ z. y ≡ z → ⊥) ys k x h.0 also (same_Some y x at))
Differ-once (y ∷ ys) h (suc j) zero x at also = absurd (at_place (λ z. y ≡ z → ⊥) ys j x h.0 at (same_Some y x also))
Differ-once (y ∷ ys) h (suc j) (suc k) x at also = ap (λ n. suc n) (Differ-once ys h.1 j k x at also)

pub Differ-append : {A : Type 0} (xs ys : List A) → Differ xs → Differ ys → AllByRecursion (λ x. AllByRecursion (λ y. x ≡ y → ⊥) ys) xs → Differ (xs ++ ys)
Differ-append [] ys h g apart = g
Differ-append (x ∷ xs) ys h g apart = (AllByRecursion-append (λ y. x ≡ y → ⊥) xs ys h.0 apart.0, Differ-append xs ys h.1 g apart.1)

-- ---- names

apart_from : (x : List ℕ) (names : List (List ℕ)) → is_among x names ≡ false → AllByRecursion (λ n. AllByRecursion (λ y. n ≡ y → ⊥) (x ∷ [])) names
apart_from x [] e = tt
apart_from x (n ∷ names) e =
    let (other, rest) = or_parts (bytes_eq x n) (is_among x names) e in
    ((λ same. let is = ap (bytes_eq x) same ∙ bytes_eq-self x in cc, tt), apart_from x names rest)

-- a name that isn't among names that differ is put behind them
pub Differ-push : (names : List (List ℕ)) (x : List ℕ) → Differ names → is_among x names ≡ false → Differ (names ++ x ∷ [])
Differ-push names x h new = Differ-append names (x ∷ []) h (tt, tt) (apart_from x names new)

-- ---- what the search for a second one found none of

again_rest : {A : Type 0} (same : A → A → Bool) (seen : List A) (x : A) (xs : List A) → again same seen (x ∷ xs) ≡ None
    → (list_any (same x) seen ≡ false) × (again same (seen ++ x ∷ []) xs ≡ None)
again_rest {A} same seen x xs = by (list_any (same x) seen) refl
  where
    by : (b : Bool) → list_any (same x) seen ≡ b → cond b (Some (length seen)) (again same (seen ++ x ∷ []) xs) ≡ None
        → (list_any (same x) seen ≡ false) × (again same (seen ++ x ∷ []) xs ≡ None)
    by true is e = cc
    by false is e = (is, e)

again_new : {A : Type 0} (same : A → A → Bool) (seen xs : List A) → again same seen xs ≡ None → AllByRecursion (λ y. list_any (same y) seen ≡ false) xs
again_new same seen [] e = tt
again_new same seen (x ∷ xs) e =
    let (new, rest) = again_rest same seen x xs e in (
      new,
      AllByRecursion-weaken (λ y. list_any (same y) (seen ++ x ∷ []) ≡ false) (λ y. list_any (same y) seen ≡ false)
          (λ y h. (or_parts (list_any (same y) seen) (list_any (same y) (x ∷ [])) (sym (list_any-append (same y) seen (x ∷ [])) ∙ h)).0) xs
          (again_new same (seen ++ x ∷ []) xs rest),
    )

-- where items that have one key are the same, no key stands twice
pub again_Differ : {A K : Type 0} (same : A → A → Bool) (key : A → K) → ((a b : A) → key a ≡ key b → same b a ≡ true) → (seen xs : List A)
    → again same seen xs ≡ None → Differ (map key xs)
again_Differ same key known seen [] e = tt
again_Differ {A} same key known seen (x ∷ xs) e =
    let (new, rest) = again_rest same seen x xs e in (
      AllByRecursion-map (λ k. key x ≡ k → ⊥) key xs
          (AllByRecursion-weaken (λ y. list_any (same y) (seen ++ x ∷ []) ≡ false) (λ y. key x ≡ key y → ⊥) other xs (again_new same (seen ++ x ∷ []) xs rest)),
      again_Differ same key known (seen ++ x ∷ []) xs rest,
    )
  where
    other : (y : A) → list_any (same y) (seen ++ x ∷ []) ≡ false → key x ≡ key y → ⊥
    other y none keys =
        let parts = or_parts (list_any (same y) seen) (list_any (same y) (x ∷ [])) (sym (list_any-append (same y) seen (x ∷ [])) ∙ none) in
        let apart = (or_parts (same y x) false parts.1).0 in
        let one = known x y keys in
        cc

-- ---- lists that are joined

-- what the keys of a part tell of its owner
module _ {T A K N : Type 0} (parts : T → List A) (key : A → K) (owner : K → N) (name : T → N) where
  abbrev Owns : T → Type 0
  Owns t = AllByRecursion (λ a. owner (key a) ≡ name t) (parts t)

  of_others : (n : N) (ts : List T) → AllByRecursion Owns ts → AllByRecursion (λ m. n ≡ m → ⊥) (map name ts)
      → AllByRecursion (λ k. owner k ≡ n → ⊥) (map key (flat_map parts ts))
  of_others n [] own apart = tt
  of_others n (t ∷ ts) own apart =
      subst (AllByRecursion (λ k. owner k ≡ n → ⊥)) (sym (map-append key (parts t) (flat_map parts ts)))
      (AllByRecursion-append (λ k. owner k ≡ n → ⊥) (map key (parts t)) (map key (flat_map parts ts))
      (AllByRecursion-map (λ k. owner k ≡ n → ⊥) key (parts t)
      (AllByRecursion-weaken (λ a. owner (key a) ≡ name t) (λ a. owner (key a) ≡ n → ⊥) (λ a is e. apart.0 (sym e ∙ is)) (parts t) own.0))
      (of_others n ts own.1 apart.1))

  -- parts of owners with different names differ, where those of each differ
  pub Differ-parts : (ts : List T) → AllByRecursion Owns ts → AllByRecursion (λ t. Differ (map key (parts t))) ts → Differ (map name ts)
      → Differ (map key (flat_map parts ts))
  Differ-parts [] own each names = tt
  Differ-parts (t ∷ ts) own each names =
      let others = of_others (name t) ts own.1 names.0 in
      subst Differ (sym (map-append key (parts t) (flat_map parts ts)))
      (Differ-append (map key (parts t)) (map key (flat_map parts ts)) each.0 (Differ-parts ts own.1 each.1 names.1)
      (AllByRecursion-map (λ k. AllByRecursion (λ y. k ≡ y → ⊥) (map key (flat_map parts ts))) key (parts t)
      (AllByRecursion-weaken (λ a. owner (key a) ≡ name t) (λ a. AllByRecursion (λ y. key a ≡ y → ⊥) (map key (flat_map parts ts)))
      (λ a is. AllByRecursion-weaken (λ k. owner k ≡ name t → ⊥) (λ k. key a ≡ k → ⊥) (λ k not same. not (ap owner (sym same) ∙ is))
      (map key (flat_map parts ts)) others)
      (parts t) own.0)))
