use Rattle.std.proofs.Common.{length, ap, arith}
use Rattle.std.specs.Prelude.{List}
use Rattle.hold_base.specs.declared.number.PinNo.{PinNo}
use Rattle.hold_proof.proofs.SiteLemmas.{path-long}
use Rattle.hold_proof.proofs.weighing.pins_of.Goals as goal

pub returns-clause-few : goal.returns-clause-few
returns-clause-few c =
    let long = path-long c.args.graph.now c.order-order.result.now c.args.path.now.pins c.requires.names c.order-order.ensures c.requires.checked in
    let same = ap (λ (l : List PinNo). length l) c.as_slice.ensures in
    omega (arith, long, same)
