-- IsOrdered i: the least end of i is at most its greatest end, so i has at least one time.
-- hull a b: the least interval that has both of these.
-- hull_of spans: the least interval that has all of these. The hull of none is 0 to 0.
use Rattle.std.specs.Prelude.{◌≤ℤ◌, List, [], ◌∷◌, fold, pos}
use Rattle.std.specs.Int.{int_min, int_max}
use Rattle.hold_base.specs.declared.time.Interval.{Interval}

-- the ends stand in order
abbrev pub IsOrdered : Interval → Type 0
IsOrdered i = i.least ≤ℤ i.greatest

-- the least interval that has both
abbrev pub hull : Interval → Interval → Interval
hull a b = record { least = int_min a.least b.least; greatest = int_max a.greatest b.greatest }

-- the least interval that has all
abbrev pub hull_of : List Interval → Interval
hull_of [] = record { least = pos 0; greatest = pos 0 }
hull_of (span ∷ spans) = fold hull span spans
