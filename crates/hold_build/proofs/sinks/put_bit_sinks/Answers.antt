use Rattle.std.proofs.Common.{◌+◌, ◌-◌, arith, refl, map}
use Rattle.std.specs.List.{range_with_len}
use Rattle.hold_base.proofs.Loops.{pushed-whole}
use Rattle.hold_build.specs.inner.Sinks.{bit_sink}
use Rattle.hold_build.proofs.SinkLemmas.{bits-next}
use Rattle.hold_build.proofs.sinks.put_bit_sinks.Goals as goal

pub loop-n-preserved : goal.loop-n-preserved
loop-n-preserved c =
    pushed-whole c.loop-n.out.items c.push.new.self.items (map (bit_sink c.args.first) (range_with_len (c.args.from + c.loop-n.n) (c.args.width - c.loop-n.n)))
    (map (bit_sink c.args.first) (range_with_len (c.args.from + (c.loop-n.n + 1)) (c.args.width - (c.loop-n.n + 1)))) _
    (bit_sink c.args.first (c.args.from + c.loop-n.n)) (bit_sink c.args.first (c.args.from + c.loop-n.n)) c.in_ok-push.ensures.items refl
    (bits-next c.args.first (c.args.from + c.loop-n.n) (c.args.from + (c.loop-n.n + 1)) (c.args.width - c.loop-n.n) (c.args.width - (c.loop-n.n + 1)) (omega arith) (omega arith))
    c.loop-n.invariant
