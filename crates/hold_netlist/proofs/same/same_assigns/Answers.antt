use Rattle.std.proofs.Common.{rules, arith}
use Rattle.std.proofs.lemmas.Grind.{common_steps}
use Rattle.hold_base.proofs.Lists.{pointwise-same}
use Rattle.hold_netlist.proofs.same.same_assigns.Goals as goal

pub returns : goal.returns
returns c = rw c.eq.ensures (pointwise-same _ (λ x y. first_of (search rules, grind (arith, common_steps))) _ _)
