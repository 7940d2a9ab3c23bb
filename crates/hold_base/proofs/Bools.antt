-- Bools, and what is chosen by one (cond). std has and_parts, or_parts, or_from and or-false (proofs.lemmas.Bool, proofs.Math.Bool).
use Rattle.std.proofs.Common.{◌≡◌, Bool, true, false, not, cond, refl, sym, ap, ◌∙◌, ◌⊎◌, inl, inr, List, [], ◌∷◌, map}
use Rattle.std.specs.Prelude.{Option, None, Some, ◌&&◌}

pub and-true : (a b : Bool) → a ≡ true → b ≡ true → (a && b) ≡ true
and-true true b h g = g
and-true false b h g = cc

pub not-false : (a : Bool) → not a ≡ false → a ≡ true
not-false true h = refl
not-false false h = cc

-- a test whose truth never holds is false
pub false-never : (a : Bool) (P : Type 0) → (a ≡ true → P) → (P → ⊥) → a ≡ false
false-never true P holds never = absurd (never (holds refl))
false-never false P holds never = refl

pub cond-true : {X : Type 0} (b : Bool) (z x y : X) → b ≡ true → z ≡ x → z ≡ cond b x y
cond-true b z x y h e = e ∙ ap (λ (c : Bool). cond c x y) (sym h)

pub cond-false : {X : Type 0} (b : Bool) (z x y : X) → b ≡ false → z ≡ y → z ≡ cond b x y
cond-false b z x y h e = e ∙ ap (λ (c : Bool). cond c x y) (sym h)

-- either the test is true and the first is taken, or it is false and the second is
pub cond-cases : {X : Type 0} (b : Bool) (x y z : X) → cond b x y ≡ z → ((b ≡ true) × (x ≡ z)) ⊎ ((b ≡ false) × (y ≡ z))
cond-cases true x y z h = inl (refl, h)
cond-cases false x y z h = inr (refl, h)

pub cond-same : {X : Type 0} (b : Bool) (x u y v : X) → x ≡ u → y ≡ v → cond b x y ≡ cond b u v
cond-same true x u y v e f = e
cond-same false x u y v e f = f

-- the first counts only where the test is true
pub cond-same_first : {X : Type 0} (b : Bool) (x y z : X) → (b ≡ true → x ≡ y) → cond b x z ≡ cond b y z
cond-same_first true x y z h = h refl
cond-same_first false x y z h = refl

pub cond-Some : {X : Type 0} (b : Bool) (o : Option X) (x : X) → cond b o None ≡ Some x → o ≡ Some x
cond-Some true o x h = h
cond-Some false o x h = cc

pub cond-None : {X : Type 0} (b : Bool) (x : X) (o : Option X) → cond b (Some x) o ≡ None → (b ≡ false) × (o ≡ None)
cond-None true x o h = absurd cc
cond-None false x o h = (refl, h)

pub cond-nil : {X : Type 0} (b : Bool) (x : X) (xs : List X) → cond b (x ∷ xs) xs ≡ [] → (b ≡ false) × (xs ≡ [])
cond-nil true x xs h = absurd cc
cond-nil false x xs h = (refl, h)

pub map-cond : {X Y : Type 0} (f : X → Y) (b : Bool) (xs ys : List X) → map f (cond b xs ys) ≡ cond b (map f xs) (map f ys)
map-cond f true xs ys = refl
map-cond f false xs ys = refl
