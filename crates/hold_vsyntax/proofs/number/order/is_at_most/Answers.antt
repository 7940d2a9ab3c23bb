use Rattle.std.proofs.Common.{ap, ◌∙◌}
use Rattle.hold_vsyntax.specs.inner.NumberOrder.{is_not_greater}
use Rattle.hold_vsyntax.proofs.OrderLemmas.{is_below-nat_cmp}
use Rattle.hold_vsyntax.proofs.number.order.is_at_most.Goals as goal

pub returns : goal.returns
returns c = c.is_not_greater_order.ensures ∙ ap is_not_greater c.sum_order.ensures ∙ is_below-nat_cmp c.args.a.now c.args.b.now
