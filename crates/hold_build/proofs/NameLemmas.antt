-- Tables of the first places of names, made name by name.
use Rattle.std.proofs.Common.{◌≡◌, ℕ, ◌+◌, List, [], ◌∷◌, ◌++◌, Bool, true, false, cond, refl, sym, ap, ◌∙◌, bytes_eq, is_none, append_assoc}
use Rattle.std.specs.Prelude.{if◌then◌else◌, Some}
use Rattle.hold_base.proofs.Bytes.{bytes_eq-same}
use Rattle.hold_netlist.specs.NameTable.{number_of}
use Rattle.hold_roles.specs.inner.NamePlaces.{first_at}

-- names with their places, the first of which is `place`
abbrev pub numbered_from : ℕ → List (List ℕ) → List (List ℕ × ℕ)
numbered_from place [] = []
numbered_from place (n ∷ ns) = (n, place) ∷ numbered_from (place + 1) ns

-- the table and what is left tell the places of all names
pub record IsNamedUpTo (all left : List (List ℕ)) (place : ℕ) (table : List (List ℕ × ℕ)) : Type 0 where
  pub each : (name : List ℕ) → number_of name (table ++ numbered_from place left) ≡ first_at 0 name all

number_of-numbered : (name : List ℕ) (place : ℕ) (names : List (List ℕ)) → number_of name (numbered_from place names) ≡ first_at place name names
number_of-numbered name place [] = refl
number_of-numbered name place (n ∷ ns) = ap (λ rest. cond (bytes_eq name n) (Some place) rest) (number_of-numbered name (place + 1) ns)

pub named-none : (all : List (List ℕ)) → IsNamedUpTo all all 0 []
named-none all = record { each = λ name. number_of-numbered name 0 all }

-- a pair of another name changes nothing
number_of-other : (name n : List ℕ) (p : ℕ) (table rest : List (List ℕ × ℕ)) → bytes_eq name n ≡ false → number_of name (table ++ (n, p) ∷ rest) ≡ number_of name (table ++ rest)
number_of-other name n p [] rest apart = ap (λ b. cond b (Some p) (number_of name rest)) apart
number_of-other name n p (q ∷ table) rest apart = ap (λ o. cond (bytes_eq name q.0) (Some q.1) o) (number_of-other name n p table rest apart)

-- a later pair of a name changes nothing
number_of-known : (name n : List ℕ) (p : ℕ) (table rest : List (List ℕ × ℕ)) → is_none (number_of n table) ≡ false → number_of name (table ++ (n, p) ∷ rest) ≡ number_of name (table ++ rest)
number_of-known name n p [] rest known = absurd cc
number_of-known name n p (q ∷ table) rest known =
    by (bytes_eq n q.0) refl known (bytes_eq name q.0) refl (number_of-known name n p table rest) (number_of-other name n p table rest)
  where
    by : (b : Bool) → bytes_eq n q.0 ≡ b → is_none (cond b (Some q.1) (number_of n table)) ≡ false → (c : Bool) → bytes_eq name q.0 ≡ c
        → (is_none (number_of n table) ≡ false → number_of name (table ++ (n, p) ∷ rest) ≡ number_of name (table ++ rest))
        → (bytes_eq name n ≡ false → number_of name (table ++ (n, p) ∷ rest) ≡ number_of name (table ++ rest))
        → cond c (Some q.1) (number_of name (table ++ (n, p) ∷ rest)) ≡ cond c (Some q.1) (number_of name (table ++ rest))
    by b is has true here more other = refl
    by true is has false here more other = other (ap (bytes_eq name) (bytes_eq-same n q.0 is) ∙ here)
    by false is has false here more other = more has

-- one name more
pub named-next : (all left rest : List (List ℕ)) (n : List ℕ) (place : ℕ) (old new : List (List ℕ × ℕ)) (is_new : Bool) → left ≡ n ∷ rest → is_new ≡ is_none (number_of n old)
    → new ≡ (if is_new then old ++ (n, place) ∷ [] else old) → IsNamedUpTo all left place old → IsNamedUpTo all rest (place + 1) new
named-next all left rest n place old new is_new split is made h = by is_new is made
  where
    by : (b : Bool) → b ≡ is_none (number_of n old) → new ≡ cond b (old ++ (n, place) ∷ []) old → IsNamedUpTo all rest (place + 1) new
    by true free put = record {
      each = λ name. ap (λ l. number_of name (l ++ numbered_from (place + 1) rest)) put
          ∙ ap (number_of name) (append_assoc old ((n, place) ∷ []) (numbered_from (place + 1) rest))
          ∙ ap (λ l. number_of name (old ++ numbered_from place l)) (sym split) ∙ h.each name;
    }
    by false known kept = record {
      each = λ name. ap (λ l. number_of name (l ++ numbered_from (place + 1) rest)) kept
          ∙ sym (number_of-known name n place old (numbered_from (place + 1) rest) (sym known))
          ∙ ap (λ l. number_of name (old ++ numbered_from place l)) (sym split) ∙ h.each name;
    }
