-- index n: the number in brackets, in decimal digits without leading zeros.
-- IsNoOpen b: the byte is no opening bracket. IsLastOpen text at: the last opening bracket of the text stands there; none where it has none.
use Rattle.std.specs.Prelude.{◌≡◌, ℕ, ◌+◌, List, ◌++◌, drop, Option, Some, None, slice_get, codes, decimal}
use Rattle.std.specs.List.{AllByRecursion}

abbrev pub index : ℕ → List ℕ
index n = codes "[" ++ decimal n ++ codes "]"

abbrev pub IsNoOpen : ℕ → Type 0
IsNoOpen b = b ≡ 91 → ⊥

pub record IsOpenAt (text : List ℕ) (at : ℕ) : Type 0 where
  pub is : slice_get text at ≡ Some 91
  pub last : AllByRecursion IsNoOpen (drop (at + 1) text)

abbrev pub IsLastOpen : List ℕ → Option ℕ → Type 0
IsLastOpen text None = AllByRecursion IsNoOpen text
IsLastOpen text (Some at) = IsOpenAt text at
