-- IsBox problem sites box: the box has a low and a high for each variable, each low at most its high, and that at most 16.
-- AreWithin lows highs counts: there are as many counts as lows and highs, and each is from its low to its high.
-- IsPoint box counts: the counts are a point of the box, one count for each variable.
-- root_box problem sites: the box of all counts, from 0 to the chain limit for each variable.
-- IsPlace var at box: the box has the variable, and may be split there: the place is at least its low and below its high.
-- lower_half var at box, upper_half var at box: the box with at most `at` of the variable, and with more. Each point of the box
--   is in one of them.
use Rattle.std.specs.Prelude.{◌≡◌, ℕ, ◌+◌, ◌*◌, ◌<◌, ◌≤◌, List, [], ◌∷◌, length, replicate, slice_index, slice_set, All}
use Rattle.std.specs.List.{AllZip}
use Rattle.hold_base.specs.Limits.{chain_limit}
use Rattle.hold_base.specs.declared.number.PinNo.{PinNo}
use Rattle.hold_base.specs.declared.number.VarNo.{VarNo}
use Rattle.hold_graph.specs.declared.problem.Problem.{Problem}
use Rattle.hold_graph.specs.declared.boxed.Boxed.{Boxed}

pub record IsBox (problem : Problem) (sites : List PinNo) (box : Boxed) : Type 0 where
  pub each : length box.low ≡ length sites * length problem.costs
  pub ordered : AllZip (λ low high. low ≤ high) box.low box.high
  pub most : All (λ high. high ≤ chain_limit) box.high

abbrev pub AreWithin : List ℕ → List ℕ → List ℕ → Type 0
AreWithin [] [] [] = Unit {0}
AreWithin [] [] (count ∷ counts) = ⊥
AreWithin [] (high ∷ highs) counts = ⊥
AreWithin (low ∷ lows) [] counts = ⊥
AreWithin (low ∷ lows) (high ∷ highs) [] = ⊥
AreWithin (low ∷ lows) (high ∷ highs) (count ∷ counts) = (low ≤ count) × (count ≤ high) × AreWithin lows highs counts

abbrev pub IsPoint : Boxed → List ℕ → Type 0
IsPoint box counts = AreWithin box.low box.high counts

abbrev pub root_box : Problem → List PinNo → Boxed
root_box problem sites = record {
  low = replicate (length sites * length problem.costs) 0;
  high = replicate (length sites * length problem.costs) problem.max_chain;
}

pub record IsPlace (var : VarNo) (at : ℕ) (box : Boxed) : Type 0 where
  pub there : var.0 < length box.low
  pub from_low : slice_index box.low var.0 ≤ at
  pub below_high : at < slice_index box.high var.0

abbrev pub lower_half : VarNo → ℕ → Boxed → Boxed
lower_half var at box = record { low = box.low; high = slice_set box.high var.0 at }

abbrev pub upper_half : VarNo → ℕ → Boxed → Boxed
upper_half var at box = record { low = slice_set box.low var.0 (at + 1); high = box.high }
