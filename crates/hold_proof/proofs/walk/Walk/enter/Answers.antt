use Rattle.std.proofs.Common.{arith}
use Rattle.std.proofs.lemmas.List.{get_or_read}
use Rattle.hold_proof.proofs.WalkLemmas.{enter-boxes}
use Rattle.hold_proof.proofs.walk.Walk.enter.Goals as goal

pub returns-clause-boxes : goal.returns-clause-boxes
returns-clause-boxes c =
    let low_each = c.requires.walk.low_each in
    let high_each = c.requires.walk.high_each in
    enter-boxes c.args.self.now.low.items c.args.self.now.high.items c.args.self.now.turns.items c.push.new.self.items c.args.var c.args.at c.index-high.result.now c.args.self.now.ended
    c.requires.left c.in_ok-push.ensures.items
    (get_or_read c.args.self.now.high.items c.args.var.0 c.index-high.result.now (let there = c.requires.place.there in omega (arith, there, high_each)) c.index-high.ensures 0)
