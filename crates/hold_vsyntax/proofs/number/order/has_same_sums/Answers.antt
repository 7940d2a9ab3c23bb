use Rattle.std.proofs.Common.{ap, ◌+◌, ◌∙◌}
use Rattle.hold_vsyntax.specs.inner.NumberOrder.{is_equal}
use Rattle.hold_vsyntax.proofs.OrderLemmas.{is_equal-nat_cmp}
use Rattle.hold_vsyntax.proofs.number.order.has_same_sums.Goals as goal

pub returns : goal.returns
returns c = c.is_equal_order.ensures ∙ ap is_equal c.sum_order.ensures ∙ is_equal-nat_cmp (c.args.a.now + c.args.b.now) (c.args.c.now + c.args.d.now)
