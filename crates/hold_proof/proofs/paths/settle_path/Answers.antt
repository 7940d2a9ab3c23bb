use Rattle.std.proofs.Common.{length, get_or, arith}
use Rattle.std.proofs.lemmas.Int.{ints}
use Rattle.std.proofs.lemmas.List.{get_or_default}
use Rattle.hold_proof.specs.inner.LeafTerms.{site_at, site_vars}
use Rattle.hold_proof.proofs.ChangeLemmas.{length-settled, settled-more, settled-same, settled-sum_size}
use Rattle.hold_proof.proofs.paths.settle_path.Goals as goal

pub settle_pin-sum-requires-clause-each : goal.settle_pin-sum-requires-clause-each
settle_pin-sum-requires-clause-each c =
    let long = length-settled _ _ _ _ _ _ _ _ c.loop-pin.invariant in
    omega (arith, long, c.requires.each)

pub settle_pin-sum-requires-clause-over : goal.settle_pin-sum-requires-clause-over
settle_pin-sum-requires-clause-over c =
    let long = length-settled _ _ _ _ _ _ _ _ c.loop-pin.invariant in
    rw long c.requires.over

pub overflow_add-sum : goal.overflow_add-sum
overflow_add-sum c =
    let pin = get_or c.args.pins.now c.loop-pin.pin-index (record { 0 = 0 }) in
    let next = settled-more c.args.over.now.costs.now c.args.over.now.scale c.args.over.now.low.now c.args.over.now.high.now (λ pin. site_vars (length c.args.over.now.costs.now) (site_at c.args.sites.now pin))
    c.args.pins.now c.loop-pin.pin-index pin _ _ _ _ _ c.loop-pin-test.true (get_or_default c.args.pins.now c.loop-pin.pin-index (record { 0 = 0 }) pin c.loop-pin-test.true) c.loop-pin.invariant c.settle_pin-sum.ensures in
    let size = settled-sum_size _ _ _ _ _ _ _ _ next in
    omega (arith, ints, size)

pub loop-pin-preserved : goal.loop-pin-preserved
loop-pin-preserved c =
    let pin = get_or c.args.pins.now c.loop-pin.pin-index (record { 0 = 0 }) in
    let next = settled-more c.args.over.now.costs.now c.args.over.now.scale c.args.over.now.low.now c.args.over.now.high.now (λ pin. site_vars (length c.args.over.now.costs.now) (site_at c.args.sites.now pin))
    c.args.pins.now c.loop-pin.pin-index pin _ _ _ _ _ c.loop-pin-test.true (get_or_default c.args.pins.now c.loop-pin.pin-index (record { 0 = 0 }) pin c.loop-pin-test.true) c.loop-pin.invariant c.settle_pin-sum.ensures in
    let size = settled-sum_size _ _ _ _ _ _ _ _ next in
    settled-same _ _ _ _ _ _ _ _ _ next (omega (arith, ints, size))
