-- Options: when there is nothing, and what a mapped, chained or second one tells. std has none-some and
-- option_and_then_some (proofs.lemmas.Option).
use Rattle.std.proofs.Common.{◌≡◌, false, refl, is_some, is_none}
use Rattle.std.specs.Prelude.{Option, None, Some, IsSome, option_map, option_and_then}
use Rattle.std.specs.Option.{option_or}

pub none-is_some : {X : Type 0} (o : Option X) → is_some o ≡ false → o ≡ None
none-is_some None h = refl
none-is_some (Some x) h = cc

pub IsSome-never : {X : Type 0} (o : Option X) → (o ≡ None → ⊥) → IsSome o
IsSome-never None h = absurd (h refl)
IsSome-never (Some x) h = refl

pub option_map-None : {X Y : Type 0} (f : X → Y) (o : Option X) → option_map f o ≡ None → o ≡ None
option_map-None f None h = refl
option_map-None f (Some x) h = cc

pub option_map-Some : {X Y : Type 0} (f : X → Y) (o : Option X) (y : Y) → option_map f o ≡ Some y → (x : X) × (o ≡ Some x) × (f x ≡ y)
option_map-Some f None y h = cc
option_map-Some f (Some x) y h = (x, refl, cc)

pub option_and_then-Some : {X Y : Type 0} (f : X → Option Y) (o : Option X) (y : Y) → option_and_then f o ≡ Some y → (x : X) × (o ≡ Some x) × (f x ≡ Some y)
option_and_then-Some f None y h = cc
option_and_then-Some f (Some x) y h = (x, refl, h)

pub option_and_then-same : {X Y : Type 0} (f g : X → Option Y) (o : Option X) → ((x : X) → o ≡ Some x → f x ≡ g x) → option_and_then f o ≡ option_and_then g o
option_and_then-same f g None h = refl
option_and_then-same f g (Some x) h = h x refl

pub option_or-None : {X : Type 0} (a b : Option X) → option_or a b ≡ None → (a ≡ None) × (b ≡ None)
option_or-None None b h = (refl, h)
option_or-None (Some x) b h = absurd cc

pub option_or-none_right : {X : Type 0} (o : Option X) → option_or o None ≡ o
option_or-none_right None = refl
option_or-none_right (Some x) = refl

pub option_or-some_left : {X : Type 0} (a b : Option X) → is_none a ≡ false → option_or a b ≡ a
option_or-some_left None b h = cc
option_or-some_left (Some x) b h = refl
