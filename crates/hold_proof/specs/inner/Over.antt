-- IsOver vars over: the box has so many variables, each low at most its high and that at most 16, the costs are within the limit,
--   and so is the scale.
use Rattle.std.specs.Prelude.{◌≡◌, ℕ, ◌≤◌, length, All}
use Rattle.std.specs.List.{AllZip}
use Rattle.hold_base.specs.Limits.{chain_limit, cost_limit}
use Rattle.hold_proof.specs.declared.paths.Over.{Over}
use Rattle.hold_proof.specs.Closing.{weight_limit}

pub record IsOver (vars : ℕ) (over : Over) : Type 0 where
  pub low_each : length over.low.now ≡ vars
  pub high_each : length over.high.now ≡ vars
  pub ordered : AllZip (λ low high. low ≤ high) over.low.now over.high.now
  pub most : All (λ high. high ≤ chain_limit) over.high.now
  pub scale : over.scale ≤ weight_limit
  pub costs : All (λ cost. cost ≤ cost_limit) over.costs.now
