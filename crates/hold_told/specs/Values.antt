-- Values that several entries say together.
--
-- IsHullOf Said hull: the hull has every span that is said, and each end of it is an end of one. Of nothing said there is none.
-- IsGreatestOf Said time: the time is said, and no greater one.
-- HullIfAny Said o, GreatestIfAny Said o: the hull, the greatest time, of all that is said; none where nothing is.
use Rattle.std.specs.Prelude.{◌≡◌, ℤ, ◌≤ℤ◌, Option, Some, None}
use Rattle.hold_base.specs.declared.time.Interval.{Interval}
use Rattle.hold_told.specs.Else.{HoldsOfNothing}

pub record IsHullOf (Said : Interval → Type 0) (hull : Interval) : Type 0 where
  pub first : Interval
  pub first_said : Said first
  pub begins : hull.least ≡ first.least
  pub last : Interval
  pub last_said : Said last
  pub ends : hull.greatest ≡ last.greatest
  pub from_least : (span : Interval) → Said span → hull.least ≤ℤ span.least
  pub to_greatest : (span : Interval) → Said span → span.greatest ≤ℤ hull.greatest

pub record IsGreatestOf (Said : ℤ → Type 0) (time : ℤ) : Type 0 where
  pub said : Said time
  pub most : (other : ℤ) → Said other → other ≤ℤ time

abbrev pub HullIfAny : (Interval → Type 0) → Option Interval → Type 0
HullIfAny Said None = HoldsOfNothing Said
HullIfAny Said (Some hull) = IsHullOf Said hull

abbrev pub GreatestIfAny : (ℤ → Type 0) → Option ℤ → Type 0
GreatestIfAny Said None = HoldsOfNothing Said
GreatestIfAny Said (Some time) = IsGreatestOf Said time
