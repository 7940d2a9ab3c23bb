-- Two lists that belong together item by item.
--
-- Each R xs ys: R holds of the items at each place, and the lists are as long.
use Rattle.std.proofs.Common.{◌≡◌, List, [], ◌∷◌, map, flat_map, refl}
use Rattle.std.specs.List.{AllByRecursion}
use Rattle.hold_base.proofs.Lists.{AllByRecursion-append}

abbrev pub Each : {X Y : Type 0} → (X → Y → Type 0) → List X → List Y → Type 0
Each R [] [] = Unit {0}
Each R [] (y ∷ ys) = ⊥
Each R (x ∷ xs) [] = ⊥
Each R (x ∷ xs) (y ∷ ys) = R x y × Each R xs ys

-- a function that gives an item of its partner gives the list
pub map-Each : {X Y : Type 0} (R : X → Y → Type 0) (f : Y → X) (gives : (x : X) (y : Y) → R x y → f y ≡ x) → (xs : List X) (ys : List Y) → Each R xs ys → map f ys ≡ xs
map-Each R f gives [] [] h = refl
map-Each R f gives [] (y ∷ ys) h = absurd h
map-Each R f gives (x ∷ xs) [] h = absurd h
map-Each R f gives (x ∷ xs) (y ∷ ys) h = let here = gives x y h.0 in let rest = map-Each R f gives xs ys h.1 in cc

-- one that gives a list of it alone
pub flat_map-Each : {X Y : Type 0} (R : X → Y → Type 0) (f : Y → List X) (gives : (x : X) (y : Y) → R x y → f y ≡ x ∷ []) → (xs : List X) (ys : List Y) → Each R xs ys → flat_map f ys ≡ xs
flat_map-Each R f gives [] [] h = refl
flat_map-Each R f gives [] (y ∷ ys) h = absurd h
flat_map-Each R f gives (x ∷ xs) [] h = absurd h
flat_map-Each R f gives (x ∷ xs) (y ∷ ys) h = let here = gives x y h.0 in let rest = flat_map-Each R f gives xs ys h.1 in rw (here, rest) refl

-- one that gives nothing
pub none-Each : {X Y A : Type 0} (R : X → Y → Type 0) (f : Y → List A) (gives : (x : X) (y : Y) → R x y → f y ≡ []) → (xs : List X) (ys : List Y) → Each R xs ys → flat_map f ys ≡ []
none-Each R f gives [] [] h = refl
none-Each R f gives [] (y ∷ ys) h = absurd h
none-Each R f gives (x ∷ xs) [] h = absurd h
none-Each R f gives (x ∷ xs) (y ∷ ys) h = let here = gives x y h.0 in let rest = none-Each R f gives xs ys h.1 in rw (here, rest) refl

-- one that gives only such as P holds of
pub all-Each : {X Y A : Type 0} (R : X → Y → Type 0) (P : A → Type 0) (f : Y → List A) (gives : (x : X) (y : Y) → R x y → AllByRecursion P (f y)) → (xs : List X) (ys : List Y) → Each R xs ys → AllByRecursion P (flat_map f ys)
all-Each R P f gives [] [] h = tt
all-Each R P f gives [] (y ∷ ys) h = absurd h
all-Each R P f gives (x ∷ xs) [] h = absurd h
all-Each R P f gives (x ∷ xs) (y ∷ ys) h = AllByRecursion-append P (f y) (flat_map f ys) (gives x y h.0) (all-Each R P f gives xs ys h.1)
