-- Where a net bit has its root, by what drives each net bit (`drivers`).
--
-- IsAssigned drivers a b: an assignment gives net bit a the value of net bit b.
-- IsWalk drivers a bits: each of the bits is assigned to the one before it, and the first one to a. A walk may be empty.
-- last_of a bits: the last of these bits; a where there is none.
-- EndsAt drivers n root: net bit n itself has this root: a pin or a constant that drives it, or nothing where nothing drives it.
-- IsRoot drivers n root: the root of net bit n: a walk from n leads to a net bit that itself has this root.
-- IsRing drivers n: a walk of at least one assignment leads from net bit n back to it.
use Rattle.std.specs.Prelude.{◌≡◌, ℕ, List, [], ◌∷◌, Contains}
use Rattle.hold_roles.specs.declared.drivers.Driver.{Driver}
use Rattle.hold_roles.specs.declared.drivers.Driver.TheVariants.{Pin as ByPin, Net as ByNet, Zero as ByZero, One as ByOne}
use Rattle.hold_roles.specs.declared.roots.Root.{Root}
use Rattle.hold_roles.specs.declared.roots.Root.TheVariants.{Pin, Zero, One, Nothing}

abbrev pub IsAssigned : (ℕ → List Driver) → ℕ → ℕ → Type 0
IsAssigned drivers a b = Contains (drivers a) (ByNet (record { 0 = b }))

abbrev pub IsWalk : (ℕ → List Driver) → ℕ → List ℕ → Type 0
IsWalk drivers a [] = Unit {0}
IsWalk drivers a (b ∷ bs) = IsAssigned drivers a b × IsWalk drivers b bs

abbrev pub last_of : ℕ → List ℕ → ℕ
last_of a [] = a
last_of a (b ∷ bs) = last_of b bs

abbrev pub EndsAt : (ℕ → List Driver) → ℕ → Root → Type 0
EndsAt drivers n (Pin p) = Contains (drivers n) (ByPin p)
EndsAt drivers n Zero = Contains (drivers n) ByZero
EndsAt drivers n One = Contains (drivers n) ByOne
EndsAt drivers n Nothing = drivers n ≡ []

pub record IsRoot (drivers : ℕ → List Driver) (n : ℕ) (root : Root) : Type 0 where
  pub bits : List ℕ
  pub walk : IsWalk drivers n bits
  pub end : EndsAt drivers (last_of n bits) root

pub record IsRing (drivers : ℕ → List Driver) (n : ℕ) : Type 0 where
  pub first : ℕ
  pub rest : List ℕ
  pub walk : IsWalk drivers n (first ∷ rest)
  pub back : last_of first rest ≡ n
