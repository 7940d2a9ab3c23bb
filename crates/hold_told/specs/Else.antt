-- HoldsOfNothing P: P holds of nothing.
-- OrElse P Q x: P holds of x or, where P holds of nothing, Q does. So Q counts only where P gives nothing at all.
use Rattle.std.specs.Prelude.{◌⊎◌}

abbrev pub HoldsOfNothing : {X : Type 0} → (X → Type 0) → Type 0
HoldsOfNothing {X} P = (x : X) → P x → ⊥

abbrev pub OrElse : {X : Type 0} → (X → Type 0) → (X → Type 0) → X → Type 0
OrElse P Q x = P x ⊎ (HoldsOfNothing P × Q x)
