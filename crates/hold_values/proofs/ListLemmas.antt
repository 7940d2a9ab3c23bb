-- Lists of values, one for each of a list, by one value more.
use Rattle.std.proofs.Common.{◌≡◌, ℕ, ◌+◌, ◌<◌, ◌≤◌, List, [], ◌∷◌, ◌++◌, length, take, get_or, sym, ◌∙◌, subst}
use Rattle.std.specs.Prelude.{Option, None, slice_index_or}
use Rattle.std.specs.List.{AllZip}
use Rattle.std.proofs.lemmas.List.{get_or_default, take_all, take_more}

AllZip-pushed : {A B : Type 0} (R : A → B → Type 0) (xs : List A) (ys : List B) (x : A) (y : B) → AllZip R xs ys → R x y → AllZip R (xs ++ x ∷ []) (ys ++ y ∷ [])
AllZip-pushed R [] [] x y h r = (r, tt)
AllZip-pushed R [] (b ∷ ys) x y h r = absurd h
AllZip-pushed R (a ∷ xs) [] x y h r = absurd h
AllZip-pushed R (a ∷ xs) (b ∷ ys) x y h r = (h.0, AllZip-pushed R xs ys x y h.1 r)

pub values-more : {A B : Type 0} (R : A → B → Type 0) (xs : List A) (n : ℕ) (d : A) (ys : List B) (y : B) → n < length xs → AllZip R (take n xs) ys → R (get_or xs n d) y → AllZip R (take (n + 1) xs) (ys ++ y ∷ [])
values-more {A} {B} R xs n d ys y below h r =
    subst (λ (zs : List A). AllZip R zs (ys ++ y ∷ [])) (sym (take_more xs n d below)) (AllZip-pushed R (take n xs) ys (get_or xs n d) y h r)

-- what holds of the item at a place holds of what was read there
pub item-here : {X : Type 0} (P : Option X → Type 0) (xs : List (Option X)) (i : ℕ) (o d : Option X) → i < length xs → o ≡ get_or xs i d → P (slice_index_or xs i None) → P o
item-here P xs i o d below is = subst P (get_or_default xs i None d below ∙ sym is)

-- the first items of a list, all of them
pub values-all : {A B : Type 0} (R : A → B → Type 0) (xs zs : List A) (n : ℕ) (ys : List B) → length xs ≤ n → xs ≡ zs → AllZip R (take n xs) ys → AllZip R zs ys
values-all {A} {B} R xs zs n ys far same = subst (λ (l : List A). AllZip R l ys) (take_all n xs far ∙ same)
