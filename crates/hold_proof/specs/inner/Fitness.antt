-- A term of a leaf is the number of a listed path or of a site, and how often that is taken.
--
-- left_behind weight least count number times: what is left of a weight behind a term, None where its number isn't from `least` on
--   and below `count`, or where it takes nothing or more than there is.
-- left_of number count least weight terms: what is left behind all these terms, where their numbers rise. All of it behind no terms.
-- AreOrderlyFrom number least count terms: the terms' numbers rise from `least` on and are below `count`, and each multiplier is at
--   least 1. True of no terms.
-- AreOrderlyTerms number count terms: the terms' numbers rise, each is below `count`, and each multiplier is at least 1.
use Rattle.std.specs.Prelude.{ℕ, ◌+◌, ◌-◌, ◌<◌, ◌≤◌, ◌&&◌, if◌then◌else◌, nat_le, nat_lt, List, [], ◌∷◌, map, Option, Some, None, option_and_then, All}
use Rattle.std.specs.List.Sorted.{IsStrictlyIncreasing}

abbrev pub left_behind : ℕ → ℕ → ℕ → ℕ → ℕ → Option ℕ
left_behind weight least count number times =
    if nat_le least number && nat_lt number count && nat_le 1 times && nat_le times weight then Some (weight - times) else None

abbrev pub left_of : {X : Type 0} → (X → ℕ) → ℕ → ℕ → ℕ → List (X × ℕ) → Option ℕ
left_of number count least weight [] = Some weight
left_of number count least weight (term ∷ terms) =
    option_and_then (λ left. left_of number count (number term.0 + 1) left terms) (left_behind weight least count (number term.0) term.1)

abbrev pub AreOrderlyFrom : {X : Type 0} → (X → ℕ) → ℕ → ℕ → List (X × ℕ) → Type 0
AreOrderlyFrom number least count [] = Unit {0}
AreOrderlyFrom number least count (term ∷ terms) =
    (least ≤ number term.0) × (number term.0 < count) × (1 ≤ term.1) × AreOrderlyFrom number (number term.0 + 1) count terms

pub record AreOrderlyTerms {X : Type 0} (number : X → ℕ) (count : ℕ) (terms : List (X × ℕ)) : Type 0 where
  pub rise : IsStrictlyIncreasing (map (λ (term : X × ℕ). number term.0) terms)
  pub there : All (λ (term : X × ℕ). number term.0 < count) terms
  pub times : All (λ (term : X × ℕ). 1 ≤ term.1) terms
