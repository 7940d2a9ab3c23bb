-- Names that stand once: from parts without repeats, and in what a test leaves of a list.
use Rattle.std.proofs.Common.{◌≡◌, ℕ, List, [], ◌∷◌, ◌++◌, map, filter, Bool, true, false, ◌||◌, cond, refl, sym, ◌∙◌, subst, bytes_eq, append_assoc}
use Rattle.std.specs.Prelude.{None}
use Rattle.std.proofs.lemmas.Bool.{or_parts, or_from}
use Rattle.std.proofs.lemmas.List.{append-nil}
use Rattle.std.proofs.lemmas.Slice.Eq.{bytes_eq-Decides}
use Rattle.hold_base.proofs.Bools.{cond-None}
use Rattle.hold_base.proofs.Bytes.{bytes_eq-swap}
use Rattle.hold_netlist.specs.Names.{is_among}
use Rattle.hold_netlist.specs.Doubles.{first_repeat}
use Rattle.hold_vparse.proofs.NameLists.{NoneAmong, Differ, is_among-append}

none_behind : (n : List ℕ) (seen ns : List (List ℕ)) → NoneAmong ns seen → is_among n ns ≡ false → NoneAmong ns (seen ++ n ∷ [])
none_behind n seen [] h new = tt
none_behind n seen (k ∷ ks) h new =
    let parts = or_parts (bytes_eq n k) (is_among n ks) new in
    let last = or_from (bytes_eq k n) false (bytes_eq-swap n k parts.0) refl in
    (is_among-append k seen (n ∷ []) ∙ or_from (is_among k seen) (is_among k (n ∷ [])) h.0 last, none_behind n seen ks h.1 parts.1)

pub none_repeats : (seen ns : List (List ℕ)) → NoneAmong ns seen → Differ ns → first_repeat seen ns ≡ None
none_repeats seen [] h differ = refl
none_repeats seen (n ∷ ns) h differ = let new = h.0 in rw new (none_repeats (seen ++ n ∷ []) ns (none_behind n seen ns h.1 differ.0) differ.1)

pub none_repeats-append : (seen a b : List (List ℕ)) → first_repeat seen a ≡ None → first_repeat (seen ++ a) b ≡ None → first_repeat seen (a ++ b) ≡ None
none_repeats-append seen [] b h more = rw append-nil at more
none_repeats-append seen (n ∷ a) b h more =
    let new = cond-None (is_among n seen) n (first_repeat (seen ++ n ∷ []) a) h in
    let here = new.0 in
    let same : (seen ++ n ∷ []) ++ a ≡ seen ++ (n ∷ a) = append_assoc seen (n ∷ []) a in
    rw here (none_repeats-append (seen ++ n ∷ []) a b new.1 (subst (λ before. first_repeat before b ≡ None) (sym same) more))

pub among_nothing : (ns : List (List ℕ)) → NoneAmong ns []
among_nothing [] = tt
among_nothing (n ∷ ns) = (refl, among_nothing ns)

pub none_among_fewer : (all fewer : List (List ℕ)) → ((n : List ℕ) → is_among n all ≡ false → is_among n fewer ≡ false) → (ns : List (List ℕ)) → NoneAmong ns all → NoneAmong ns fewer
none_among_fewer all fewer less [] h = tt
none_among_fewer all fewer less (n ∷ ns) h = (less n h.0, none_among_fewer all fewer less ns h.1)

-- one of those that aren't among others isn't
pub not_among : (n : List ℕ) (ns those : List (List ℕ)) → NoneAmong ns those → is_among n ns ≡ true → is_among n those ≡ false
not_among n [] those h among = absurd cc
not_among n (k ∷ ks) those h among = by (bytes_eq n k) refl (λ later. not_among n ks those h.1 later) among
  where
    by : (same : Bool) → bytes_eq n k ≡ same → (is_among n ks ≡ true → is_among n those ≡ false) → (same || is_among n ks) ≡ true → is_among n those ≡ false
    by true e rest among = subst (λ m. is_among m those ≡ false) (sym ((bytes_eq-Decides n k).0 e)) h.0
    by false e rest among = rest among

-- of the lines that are left, none has a name that no line has, and the names differ as before
module _ {X : Type 0} (name : X → List ℕ) (p : X → Bool) where
  pub filter-absent : (n : List ℕ) (xs : List X) → is_among n (map name xs) ≡ false → is_among n (map name (filter p xs)) ≡ false
  filter-absent n [] h = refl
  filter-absent n (x ∷ xs) h =
      let parts = or_parts (bytes_eq n (name x)) (is_among n (map name xs)) h in
      by (p x) parts.0 (filter-absent n xs parts.1)
    where
      by : (b : Bool) → bytes_eq n (name x) ≡ false → is_among n (map name (filter p xs)) ≡ false → is_among n (map name (cond b (x ∷ filter p xs) (filter p xs))) ≡ false
      by true other rest = or_from (bytes_eq n (name x)) (is_among n (map name (filter p xs))) other rest
      by false other rest = rest

  pub filter-differ : (xs : List X) → Differ (map name xs) → Differ (map name (filter p xs))
  filter-differ [] h = tt
  filter-differ (x ∷ xs) h = by (p x) (filter-absent (name x) xs h.0) (filter-differ xs h.1)
    where
      by : (b : Bool) → is_among (name x) (map name (filter p xs)) ≡ false → Differ (map name (filter p xs)) → Differ (map name (cond b (x ∷ filter p xs) (filter p xs)))
      by true new rest = (new, rest)
      by false new rest = rest
