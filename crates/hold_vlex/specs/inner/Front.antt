-- IsWithin len f: what f takes is at least one byte and at most len, and a bad byte stands before len.
use Rattle.std.specs.Prelude.{ℕ, ◌<◌, ◌≤◌}
use Rattle.hold_vlex.specs.Front.{Bad, Front, NoEnd, NoName, Nothing, Past, Read}

abbrev pub IsWithin : ℕ → Front → Type 0
IsWithin len Nothing = Unit {0}
IsWithin len (Past n) = (0 < n) × (n ≤ len)
IsWithin len (Read sort text n) = (0 < n) × (n ≤ len)
IsWithin len (Bad n) = n < len
IsWithin len NoEnd = Unit {0}
IsWithin len NoName = Unit {0}
