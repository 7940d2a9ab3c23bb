-- Declared ranges with what is known of them. A number's class is its place among the different numbers of a table.
--
-- AreClasses numbers r c: the classes of the bounds of the range r, and of their distance.
-- HasClasses numbers m, HaveClasses numbers list: a range, or each of these ranges, has these classes.
-- Keeps old new: the new numbers have what the old ones have, in the same place.
-- measured_bounds m: the bounds of a range. seen_measured m: the same of one behind a reference, where there is one.
-- seen_reach reach: the range behind a reference, where there is a net, and where it has one.
use Rattle.std.specs.Prelude.{◌≡◌, ℕ, List, slice_get, Option, Some, None}
use Rattle.std.specs.Borrow.{Bor}
use Rattle.hold_vparse.specs.declared.measured.Classes.{Classes}
use Rattle.hold_vparse.specs.declared.measured.Measured.{Measured}
use Rattle.hold_vparse.specs.inner.Bounds.{distance_of}
use Rattle.hold_vparse.specs.Lines.{range_bounds}

pub record AreClasses (numbers : List ℕ) (r : ℕ × ℕ) (c : Classes) : Type 0 where
  pub left : slice_get numbers c.left ≡ Some r.0
  pub right : slice_get numbers c.right ≡ Some r.1
  pub distance : slice_get numbers c.distance ≡ Some (distance_of r)

abbrev pub measured_bounds : Measured → ℕ × ℕ
measured_bounds m = range_bounds m.range.now

abbrev pub HasClasses : List ℕ → Measured → Type 0
HasClasses numbers m = AreClasses numbers (measured_bounds m) m.classes

pub record HaveClasses (numbers : List ℕ) (list : List Measured) : Type 0 where
  pub each : (k : ℕ) (m : Measured) → slice_get list k ≡ Some m → HasClasses numbers m

pub record Keeps (old new : List ℕ) : Type 0 where
  pub each : (k n : ℕ) → slice_get old k ≡ Some n → slice_get new k ≡ Some n

abbrev pub seen_measured : Option (Bor Measured) → Option (ℕ × ℕ)
seen_measured None = None
seen_measured (Some m) = Some (measured_bounds m.now)

abbrev pub seen_reach : Option (Option (Bor Measured)) → Option (Option (ℕ × ℕ))
seen_reach None = None
seen_reach (Some m) = Some (seen_measured m)
