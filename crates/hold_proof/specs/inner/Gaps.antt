-- What factors add to a cost over a box.
--
-- least_times factor low high: the least of the factor times a count from low to high. It comes at the low count, and at the high
--   one where the factor is below 0.
-- step_of costs scale var: the scale times the cost of one buffer of the variable's kind.
-- gap step factor low high: how far the least of step and factor, taken together, is above the least of the step alone. Where the
--   factor is 0 that is 0.
-- gaps costs scale var factors lows highs: the gaps of all variables, of which the first is `var`, summed.
use Rattle.std.specs.Prelude.{ℕ, ◌+◌, ◌*◌, ◌%◌, List, [], ◌∷◌, length, slice_index, ℤ, pos, negsuc, ◌+ℤ◌, ◌-ℤ◌, ◌*ℤ◌}

abbrev pub least_times : ℤ → ℕ → ℕ → ℤ
least_times (pos n) low high = pos n *ℤ pos low
least_times (negsuc n) low high = negsuc n *ℤ pos high

abbrev pub step_of : List ℕ → ℕ → ℕ → ℕ
step_of costs scale var = scale * slice_index costs (var % length costs)

abbrev pub gap : ℕ → ℤ → ℕ → ℕ → ℤ
gap step factor low high = least_times (pos step +ℤ factor) low high -ℤ pos (step * low)

abbrev pub gaps : List ℕ → ℕ → ℕ → List ℤ → List ℕ → List ℕ → ℤ
gaps costs scale var [] lows highs = pos 0
gaps costs scale var (factor ∷ factors) [] highs = pos 0
gaps costs scale var (factor ∷ factors) (low ∷ lows) [] = pos 0
gaps costs scale var (factor ∷ factors) (low ∷ lows) (high ∷ highs) =
    gap (step_of costs scale var) factor low high +ℤ gaps costs scale (var + 1) factors lows highs
