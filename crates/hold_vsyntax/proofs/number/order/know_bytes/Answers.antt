use Rattle.std.proofs.Common.{arith}
use Rattle.hold_vsyntax.proofs.OrderLemmas.{digits_small}
use Rattle.hold_vsyntax.proofs.number.order.know_bytes.Goals as goal

pub returns : goal.returns
returns c = digits_small c.args.digits.now (λ i. omega (arith, c.type_inv.digits i))
