-- A table of numbers is seen as the different numbers that it was given, in the order in which they came. The place of
-- a number among them, from 0, is its class.
-- MayAdd old n new: new is old, or old with n behind it.
-- numbers_of pairs: the numbers that the names of pairs write, as decimal digits.
-- IsClassed pairs many: there are so many pairs, the name of each is the plain digits of a number, no number has two
--   names, and each name's number is its place.
use Rattle.std.specs.Prelude.{◌≡◌, ◌⊎◌, ◌++◌, ℕ, List, [], ◌∷◌, length, map}
use Rattle.std.specs.List.{AllByRecursion}
use Rattle.hold_base.specs.inner.Lists.{OneEach}
use Rattle.hold_netlist.specs.inner.NameTable.{names_of}
use Rattle.hold_base.specs.Digits.{number_of}
use Rattle.hold_vsyntax.specs.Number.{IsPlain}
use Rattle.hold_vparse.specs.inner.Index.{IsIndex}

abbrev pub MayAdd : List ℕ → ℕ → List ℕ → Type 0
MayAdd old n new = (new ≡ old) ⊎ (new ≡ old ++ n ∷ [])

abbrev pub numbers_of : List (List ℕ × ℕ) → List ℕ
numbers_of pairs = map number_of (names_of pairs)

pub record IsClassed (pairs : List (List ℕ × ℕ)) (many : ℕ) : Type 0 where
  pub count : many ≡ length pairs
  pub plain : AllByRecursion IsPlain (names_of pairs)
  pub places : IsIndex pairs (names_of pairs)
  pub one_each : OneEach (numbers_of pairs)
