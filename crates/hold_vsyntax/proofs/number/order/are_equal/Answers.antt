use Rattle.std.proofs.Common.{◌∙◌}
use Rattle.hold_vsyntax.proofs.OrderLemmas.{double-eq}
use Rattle.hold_vsyntax.proofs.number.order.are_equal.Goals as goal

pub returns : goal.returns
returns c = c.has_same_sums.ensures ∙ double-eq c.args.a.now c.args.b.now
