-- Items of a list and their places.
use Rattle.std.proofs.Common.{◌≡◌, ℕ, zero, suc, ◌<◌, List, [], ◌∷◌, length, take, refl, sym, subst, arith}
use Rattle.std.specs.Prelude.{Some, slice_get, Contains}
use Rattle.std.specs.List.{AllByRecursion}
use Rattle.std.proofs.lemmas.Option.{slice_get_within, slice_get_read, get_or_from_slice_get, same_Some}

-- an item of a list stands at a place
pub place_of_item : {X : Type 0} (xs : List X) (x : X) → Contains xs x → (k : ℕ) × (slice_get xs k ≡ Some x)
place_of_item xs x listed = (listed.0, slice_get_read xs (length xs) listed.0 x refl listed.1 (sym listed.2))

pub item_at_place : {X : Type 0} (xs : List X) (k : ℕ) (x : X) → slice_get xs k ≡ Some x → Contains xs x
item_at_place xs k x is = (k, slice_get_within xs k x is, get_or_from_slice_get xs k x x is)

-- ---- the front of a list

pub from-front : {X : Type 0} (n : ℕ) (xs : List X) (k : ℕ) (x : X) → slice_get (take n xs) k ≡ Some x → (k < n) × (slice_get xs k ≡ Some x)
from-front zero xs k x h = cc
from-front (suc n) [] k x h = cc
from-front (suc n) (y ∷ xs) zero x h = (omega arith, h)
from-front (suc n) (y ∷ xs) (suc k) x h = let rest = from-front n xs k x h in (omega (arith, rest.0), rest.1)

pub in-front : {X : Type 0} (n : ℕ) (xs : List X) (k : ℕ) (x : X) → k < n → slice_get xs k ≡ Some x → slice_get (take n xs) k ≡ Some x
in-front zero xs k x lt h = absurd (omega arith)
in-front (suc n) [] k x lt h = absurd cc
in-front (suc n) (y ∷ xs) zero x lt h = h
in-front (suc n) (y ∷ xs) (suc k) x lt h = in-front n xs k x (omega arith) h

pub all-at : {X : Type 0} (P : X → Type 0) (xs : List X) (k : ℕ) (x : X) → AllByRecursion P xs → slice_get xs k ≡ Some x → P x
all-at P [] k x all h = absurd cc
all-at P (y ∷ xs) zero x all h = subst P (same_Some y x h) all.0
all-at P (y ∷ xs) (suc k) x all h = all-at P xs k x all.1 h
