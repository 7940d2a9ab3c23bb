-- each_after_comma texts: the texts, each with a comma and a space in front.
use Rattle.std.specs.Prelude.{ℕ, List, [], ◌∷◌, ◌++◌, codes}

abbrev pub each_after_comma : List (List ℕ) → List ℕ
each_after_comma [] = []
each_after_comma (t ∷ ts) = codes ", " ++ t ++ each_after_comma ts
