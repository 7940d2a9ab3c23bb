use Rattle.std.proofs.Common.{◌++◌, [], ◌∷◌, length, ap, ◌∙◌, arith}
use Rattle.std.proofs.lemmas.List.{get_or_read}
use Rattle.hold_proof.proofs.WalkLemmas.{leave-boxes, last_turn-there}
use Rattle.hold_proof.proofs.walk.Walk.leave.Goals as goal

pub returns-in-Lower-clause-boxes : goal.returns-in-Lower-clause-boxes
returns-in-Lower-clause-boxes c =
    let popped = c.in-Some.ensures.items ∙ ap (λ t. c.pop.new.self.items ++ t ∷ []) c.in-Lower.is in
    let there = last_turn-there (length c.args.self.now.low.items) c.loop-turn.self.turns.items c.pop.new.self.items _ c.loop-turn.invariant.0.turns popped in
    let long = c.loop-turn.invariant.0.low_each in
    leave-boxes c.loop-turn.self.low.items c.loop-turn.self.high.items c.set_low.new.self.low.items c.set_low.new.self.high.items c.loop-turn.self.turns.items c.pop.new.self.items
    c.set_low.new.self.turns.items c.in-Lower.var c.in-Lower.low c.in-Lower.high c.index-old.result.now c.set_low.new.self.ended
    (c.set_low.ensures.ended ∙ c.loop-turn.invariant.1)
    popped
    (c.set_low.ensures.turns ∙ c.in_ok-push-in-Lower.ensures.items)
    (get_or_read c.loop-turn.self.low.items c.in-Lower.var.0 c.index-old.result.now (omega (arith, there, long)) c.index-old.ensures 0)
    c.set_low.ensures.low
    c.set_low.ensures.high
    ∙ c.loop-turn.invariant.2
