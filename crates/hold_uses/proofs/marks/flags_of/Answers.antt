use Rattle.hold_graph.proofs.Flags.{flags-more}
use Rattle.hold_uses.proofs.marks.flags_of.Goals as goal

pub loop-pin-preserved : goal.loop-pin-preserved
loop-pin-preserved c =
    flags-more c.args.pins c.args.listed.now c.loop-pin.pin-index _ c.loop-pin.flags.items c.loop-pin-test.true (c.requires c.loop-pin.pin-index _ c.loop-pin-test.true) c.loop-pin.invariant
