use Rattle.std.proofs.Common.{refl}
use Rattle.hold_base.proofs.Loops.{pushed-whole}
use Rattle.hold_vparse.proofs.NetlistLemmas.{tied_bits-step}
use Rattle.hold_vparse.proofs.assign_list.add_bits.Goals as goal

pub loop-bit-preserved : goal.loop-bit-preserved
loop-bit-preserved c =
    pushed-whole c.loop-bit.list.items c.push.new.self.items _ _ _ _ _ c.in_ok-push.ensures.items refl
    (tied_bits-step c.args.left.now.first c.args.right.now.first c.args.left.now.count c.loop-bit.bit c.loop-bit-test.true) c.loop-bit.invariant
