use Rattle.hold_roles.proofs.MarkLemmas.{settling-end, settling-next}
use Rattle.hold_roles.proofs.marks.settle.Goals as goal

pub loop-net-preserved : goal.loop-net-preserved
loop-net-preserved c = settling-next c.args.mark c.args.trail.now c.args.marks.now c.loop-net.marks c.settle_one.new.marks c.loop-net.net-index _
    c.requires.end c.loop-net-test.true c.settle_one.ensures c.loop-net.invariant

pub returns-clause-marked : goal.returns-clause-marked
returns-clause-marked c = settling-end c.args.mark c.args.trail.now c.args.marks.now c.loop-net.marks c.loop-net.net-index c.loop-net-test.false c.loop-net.invariant
