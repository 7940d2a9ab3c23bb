use Rattle.std.proofs.Common.{length, get_or, rules, arith, FitsSigned}
use Rattle.std.proofs.lemmas.Int.{ints, to_z-of_z}
use Rattle.std.proofs.lemmas.List.{get_or_default}
use Rattle.std.proofs.Math.Nat.{mul-le-mul_left}
use mir.Syntax.{w128}
use Rattle.hold_proof.proofs.ChangeLemmas.{length-raised}
use Rattle.hold_proof.proofs.WeighLemmas.{total-room, chains_weighed-more}
use Rattle.hold_proof.proofs.weighing.add_chains.Goals as goal

pub add_chain-free-requires-clause-each : goal.add_chain-free-requires-clause-each
add_chain-free-requires-clause-each c =
    let long = length-raised _ _ _ _ c.loop-term.invariant.raised in
    omega (arith, long, c.requires.each)

pub add_chain-free-requires-clause-room : goal.add_chain-free-requires-clause-room
add_chain-free-requires-clause-room c =
    let term = get_or c.args.terms.now c.loop-term.term-index (record { 0 = record { 0 = 0 }; 1 = 0 }) in
    let room = total-room c.args.terms.now c.loop-term.term-index term c.loop-term-test.true (get_or_default c.args.terms.now c.loop-term.term-index _ term c.loop-term-test.true) in
    let grown = c.loop-term.invariant.raised.norm in
    omega (arith, room, grown, c.requires.room)

pub loop-term-preserved : goal.loop-term-preserved
loop-term-preserved c =
    let fits : FitsSigned w128 c.add_chain-free.result = search rules in
    let one = to_z-of_z w128 c.add_chain-free.result fits in
    let free = c.add_chain-free.ensures.free in
    let term = get_or c.args.terms.now c.loop-term.term-index (record { 0 = record { 0 = 0 }; 1 = 0 }) in
    let is = get_or_default c.args.terms.now c.loop-term.term-index _ term c.loop-term-test.true in
    let room = total-room c.args.terms.now c.loop-term.term-index term c.loop-term-test.true is in
    let few = c.requires.basis.valid.max_chain in
    let most = mul-le-mul_left term.1 few in
    let bottom = c.loop-term.invariant.size.low in
    let top = c.loop-term.invariant.size.high in
    chains_weighed-more (length c.args.basis.now.problem.now.costs) c.args.basis.now.problem.now.max_chain c.args.terms.now c.loop-term.term-index term _ _ _ _ c.add_chain-free.result _
    c.loop-term-test.true is few c.loop-term.invariant c.add_chain-free.ensures.raised free
    (omega (arith, ints, one, free, room, most, bottom, top, c.requires.weight))
