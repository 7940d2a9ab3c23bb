-- names_of pairs: their names.
-- pairs_of entries: the pairs of entries whose keys are vectors of bytes.
use Rattle.std.specs.Prelude.{ℕ, List, map, Vec}
use Rattle.std.specs.declared.alloc.Global.{Global}

abbrev pub names_of : List (List ℕ × ℕ) → List (List ℕ)
names_of pairs = map (λ p. p.0) pairs

-- The pairs of entries whose keys are vectors.
abbrev pub pairs_of : List (Vec ℕ Global × ℕ) → List (List ℕ × ℕ)
pairs_of entries = map (λ e. (e.0.items, e.1)) entries
