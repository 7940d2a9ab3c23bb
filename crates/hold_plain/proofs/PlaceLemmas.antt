-- Where a key first stands in a list of keys.
use Rattle.std.proofs.Common.{◌≡◌, ℕ, zero, suc, ◌+◌, List, [], ◌∷◌, refl, ap, sym, ◌∙◌, arith, ◌⊎◌, inl, inr}
use Rattle.std.specs.Prelude.{Option, Some, None, IsSome, slice_get, Contains}
use Rattle.std.proofs.lemmas.Bool.{false≢true, cases_eq, eq-eqb, ne_eqb}
use Rattle.std.proofs.lemmas.Option.{none-some, same_Some, slice_get_within, slice_get-get_or, get_or_from_slice_get}
use Rattle.hold_base.proofs.Options.{IsSome-never}
use Rattle.hold_plain.specs.Keys.{place_from, place_of}

-- a place counted from some start is that of the key in the list
pub record IsFoundFrom (start key : ℕ) (keys : List (Option ℕ)) (place : ℕ) : Type 0 where
  pub steps : ℕ
  pub counted : place ≡ start + steps
  pub stands : slice_get keys steps ≡ Some (Some key)

found_later : (start key place : ℕ) (k : Option ℕ) (keys : List (Option ℕ)) → IsFoundFrom (start + 1) key keys place → IsFoundFrom start key (k ∷ keys) place
found_later start key place k keys h = record { steps = suc h.steps; counted = omega (arith, h.counted); stands = h.stands }

pub place_from-found : (start key place : ℕ) (keys : List (Option ℕ)) → place_from start key keys ≡ Some place → IsFoundFrom start key keys place
place_from-found start key place [] e = absurd (none-some place e)
place_from-found start key place (None ∷ keys) e = found_later start key place None keys (place_from-found (start + 1) key place keys e)
place_from-found start key place (Some k ∷ keys) e = here (cases_eq key k) e (place_from-found (start + 1) key place keys)
  where
    here : ((key ≡ k) ⊎ (key ≡ k → ⊥)) → place_from start key (Some k ∷ keys) ≡ Some place →
        (place_from (start + 1) key keys ≡ Some place → IsFoundFrom (start + 1) key keys place) → IsFoundFrom start key (Some k ∷ keys) place
    here (inl same) is later = record {
      steps = 0;
      counted = omega (arith, same_Some start place (rw (eq-eqb key k same) at is));
      stands = ap (λ (n : ℕ). Some (Some n)) (sym same);
    }
    here (inr differs) is later = found_later start key place (Some k) keys (later (rw (ne_eqb key k differs) at is))

pub place_from-none : (start key : ℕ) (keys : List (Option ℕ)) → place_from start key keys ≡ None → (place : ℕ) → slice_get keys place ≡ Some (Some key) → ⊥
place_from-none start key [] e place at = none-some (Some key) at
place_from-none start key (None ∷ keys) e zero at = none-some key (same_Some None (Some key) at)
place_from-none start key (None ∷ keys) e (suc place) at = place_from-none (start + 1) key keys e place at
place_from-none start key (Some k ∷ keys) e zero at =
    none-some start (sym (rw (eq-eqb key k (sym (same_Some k key (same_Some (Some k) (Some key) at)))) at e))
place_from-none start key (Some k ∷ keys) e (suc place) at = there (cases_eq key k) e (λ later. place_from-none (start + 1) key keys later place at)
  where
    there : ((key ≡ k) ⊎ (key ≡ k → ⊥)) → place_from start key (Some k ∷ keys) ≡ None → (place_from (start + 1) key keys ≡ None → ⊥) → ⊥
    there (inl same) is later = none-some start (sym (rw (eq-eqb key k same) at is))
    there (inr differs) is later = later (rw (ne_eqb key k differs) at is)

-- what stands at the place of a key is the key
pub place_of-stands : (key place : ℕ) (keys : List (Option ℕ)) → place_of key keys ≡ Some place → slice_get keys place ≡ Some (Some key)
place_of-stands key place keys e =
    let found = place_from-found 0 key place keys e in
    ap (slice_get keys) (omega (arith, found.counted)) ∙ found.stands

-- a key without a place stands nowhere
pub place_of-nowhere : (key place : ℕ) (keys : List (Option ℕ)) → place_of key keys ≡ None → slice_get keys place ≡ Some (Some key) → ⊥
place_of-nowhere key place keys e at = place_from-none 0 key keys e place at

-- a key that stands in the list has a place
pub place_of-contains : (key : ℕ) (keys : List (Option ℕ)) → Contains keys (Some key) → IsSome (place_of key keys)
place_of-contains key keys h =
    IsSome-never (place_of key keys) (λ e. place_of-nowhere key h.0 keys e (slice_get-get_or keys h.0 (Some key) h.1 ∙ ap (λ (k : Option ℕ). Some k) h.2))

contains_at : (key place : ℕ) (keys : List (Option ℕ)) → slice_get keys place ≡ Some (Some key) → Contains keys (Some key)
contains_at key place keys at = (place, slice_get_within keys place (Some key) at, get_or_from_slice_get keys place (Some key) (Some key) at)

-- a key that has a place stands in the list
pub contains-place_of : (key : ℕ) (keys : List (Option ℕ)) → IsSome (place_of key keys) → Contains keys (Some key)
contains-place_of key keys some = by_place (place_of key keys) refl some
  where
    by_place : (found : Option ℕ) → place_of key keys ≡ found → IsSome found → Contains keys (Some key)
    by_place None e h = absurd (false≢true h)
    by_place (Some place) e h = contains_at key place keys (place_of-stands key place keys e)
