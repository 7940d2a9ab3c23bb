use Rattle.std.proofs.Common.{◌+◌}
use Rattle.hold_base.specs.Limits.{time_limit}
use Rattle.hold_decimal.proofs.Digits.{capped_all}
use Rattle.hold_decimal.proofs.rounding.floor_of.Goals as goal

pub returns : goal.returns
returns c = let all = capped_all c.args.whole.now c.args.part.now c.args.zeros (time_limit + 1) in cc
