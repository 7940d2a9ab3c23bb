use Rattle.std.proofs.Common.{get_or, rules, arith, FitsSigned}
use Rattle.std.proofs.lemmas.Int.{ints, to_z-of_z}
use Rattle.std.proofs.lemmas.List.{get_or_default}
use mir.Syntax.{w128}
use Rattle.hold_proof.proofs.ChangeLemmas.{length-raised}
use Rattle.hold_proof.proofs.WeighLemmas.{total-room, weighed-more}
use Rattle.hold_proof.proofs.weighing.add_paths.Goals as goal

pub add_listed-free-requires-clause-each : goal.add_listed-free-requires-clause-each
add_listed-free-requires-clause-each c =
    let long = length-raised _ _ _ _ c.loop-term.invariant.raised in
    omega (arith, long, c.requires.each)

pub add_listed-free-requires-clause-room : goal.add_listed-free-requires-clause-room
add_listed-free-requires-clause-room c =
    let term = get_or c.args.terms.now c.loop-term.term-index (record { 0 = record { 0 = 0 }; 1 = 0 }) in
    let room = total-room c.args.terms.now c.loop-term.term-index term c.loop-term-test.true (get_or_default c.args.terms.now c.loop-term.term-index _ term c.loop-term-test.true) in
    let grown = c.loop-term.invariant.raised.norm in
    omega (arith, room, grown, c.requires.room)

pub overflow_add-free : goal.overflow_add-free
overflow_add-free c =
    let fits : FitsSigned w128 c.add_listed-free.result = search rules in
    let one = to_z-of_z w128 c.add_listed-free.result fits in
    let term = get_or c.args.terms.now c.loop-term.term-index (record { 0 = record { 0 = 0 }; 1 = 0 }) in
    let room = total-room c.args.terms.now c.loop-term.term-index term c.loop-term-test.true (get_or_default c.args.terms.now c.loop-term.term-index _ term c.loop-term-test.true) in
    let low = c.add_listed-free.ensures.size.low in
    let high = c.add_listed-free.ensures.size.high in
    let bottom = c.loop-term.invariant.size.low in
    let top = c.loop-term.invariant.size.high in
    omega (arith, ints, one, room, low, high, bottom, top, c.requires.weight)

pub loop-term-preserved : goal.loop-term-preserved
loop-term-preserved c =
    let fits : FitsSigned w128 c.add_listed-free.result = search rules in
    let one = to_z-of_z w128 c.add_listed-free.result fits in
    let term = get_or c.args.terms.now c.loop-term.term-index (record { 0 = record { 0 = 0 }; 1 = 0 }) in
    let is = get_or_default c.args.terms.now c.loop-term.term-index _ term c.loop-term-test.true in
    let room = total-room c.args.terms.now c.loop-term.term-index term c.loop-term-test.true is in
    let low = c.add_listed-free.ensures.size.low in
    let high = c.add_listed-free.ensures.size.high in
    let bottom = c.loop-term.invariant.size.low in
    let top = c.loop-term.invariant.size.high in
    weighed-more c.args.basis.now.problem.now c.args.basis.now.sites.now c.args.basis.now.paths.now c.args.terms.now c.loop-term.term-index term _ _ _ _ c.add_listed-free.result _
    c.loop-term-test.true is c.loop-term.invariant c.add_listed-free.ensures.raised c.add_listed-free.ensures.free c.add_listed-free.ensures.size
    (omega (arith, ints, one, room, low, high, bottom, top, c.requires.weight))
