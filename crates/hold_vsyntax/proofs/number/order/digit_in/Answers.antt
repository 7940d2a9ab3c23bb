use Rattle.std.proofs.Common.{sym, ◌∙◌}
use Rattle.hold_vsyntax.proofs.OrderLemmas.{digit-map, digit-none}
use Rattle.hold_vsyntax.proofs.number.order.digit_in.Goals as goal

pub returns-then-behind-digits-clause-digit : goal.returns-then-behind-digits-clause-digit
returns-then-behind-digits-clause-digit c = c.from.ensures ∙ c.saturating_sub.ensures ∙ sym (digit-map c.args.behind c.args.digits.now c.if-behind-digits.true)

pub returns-else-behind-digits-clause-digit : goal.returns-else-behind-digits-clause-digit
returns-else-behind-digits-clause-digit c = digit-none c.args.behind c.args.digits.now c.if-behind-digits.false
