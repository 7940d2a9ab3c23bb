-- Ranges by their bounds, and the places in which the declared ones are kept.
--
-- distance_of r: how far the bounds of a range lie apart. Its width is one more.
-- is_falling r: whether the right bound is at most the left one; so also of a range of one bit.
-- Holds ranges place r: that place has the range r, whatever is put behind these ranges.
-- Hold ranges places rs: so it is place by place.
-- Grows old new: the new ranges are the old ones, and maybe some behind them.
use Rattle.std.specs.Prelude.{◌≡◌, ℕ, ◌+◌, ◌-◌, Bool, nat_le, List, ◌++◌, map, Option}
use Rattle.hold_vparse.specs.inner.Index.{at_place}

abbrev pub distance_of : ℕ × ℕ → ℕ
distance_of r = (r.0 - r.1) + (r.1 - r.0)

abbrev pub is_falling : ℕ × ℕ → Bool
is_falling r = nat_le r.1 r.0

pub record Holds (ranges : List (ℕ × ℕ)) (place : Option ℕ) (range : Option (ℕ × ℕ)) : Type 0 where
  pub behind : (more : List (ℕ × ℕ)) → at_place (ranges ++ more) place ≡ range

pub record Hold (ranges : List (ℕ × ℕ)) (places : List (Option ℕ)) (rs : List (Option (ℕ × ℕ))) : Type 0 where
  pub behind : (more : List (ℕ × ℕ)) → map (at_place (ranges ++ more)) places ≡ rs

pub record Grows (old new : List (ℕ × ℕ)) : Type 0 where
  pub more : List (ℕ × ℕ)
  pub behind : new ≡ old ++ more
