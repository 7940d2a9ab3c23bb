-- The range of the times in entries.
--
-- IsTimely t: the magnitude of t is at most the limit of times. IsSpan i: the ends of i are, and stand in order.
-- IsInRange e: the spans and the times of the entry are such, where it has any.
use Rattle.std.specs.Prelude.{◌≤◌, ℤ, unsigned_abs, IfSome}
use Rattle.hold_base.specs.declared.time.Interval.{Interval}
use Rattle.hold_base.specs.Interval.{IsOrdered}
use Rattle.hold_base.specs.Limits.{time_limit}
use Rattle.hold_sdf.specs.declared.entry.Entry.{Entry}
use Rattle.hold_sdf.specs.declared.entry.Entry.TheVariants.{Cell, Wire, Check}

abbrev pub IsTimely : ℤ → Type 0
IsTimely t = unsigned_abs t ≤ time_limit

pub record IsSpan (i : Interval) : Type 0 where
  pub ordered : IsOrdered i
  pub least : IsTimely i.least
  pub greatest : IsTimely i.greatest

abbrev pub IsInRange : Entry → Type 0
IsInRange (Cell at inst from to span) = IfSome span IsSpan
IsInRange (Wire at inst from to span) = IfSome span IsSpan
IsInRange (Check at inst pin clock setup hold) = IfSome setup IsTimely × IfSome hold IsTimely
