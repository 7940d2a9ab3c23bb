use Rattle.std.proofs.Common.{length, get_or, arith}
use Rattle.std.proofs.lemmas.List.{get_or_default}
use Rattle.hold_proof.specs.inner.LeafTerms.{path_numbers, site_at, site_terms}
use Rattle.hold_proof.proofs.ChangeLemmas.{length-raised, raised-more}
use Rattle.hold_proof.proofs.paths.add_path.Goals as goal

pub add_pin-requires-clause-each : goal.add_pin-requires-clause-each
add_pin-requires-clause-each c =
    let long = length-raised _ _ _ _ c.loop-pin.invariant in
    omega (arith, long, c.requires.each)

pub loop-pin-preserved : goal.loop-pin-preserved
loop-pin-preserved c =
    let pin = get_or c.args.pins.now c.loop-pin.pin-index (record { 0 = 0 }) in
    raised-more (λ pin. site_terms (length c.args.kinds.now) (site_at c.args.sites.now pin) (path_numbers c.args.side c.args.times c.args.kinds.now)) c.args.pins.now c.loop-pin.pin-index pin
    _ _ _ _ _ _ c.loop-pin-test.true (get_or_default c.args.pins.now c.loop-pin.pin-index (record { 0 = 0 }) pin c.loop-pin-test.true) c.loop-pin.invariant c.add_pin.ensures (omega arith)
