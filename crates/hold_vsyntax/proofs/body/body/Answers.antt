use Rattle.hold_vsyntax.specs.Pieces.{pieces}
use Rattle.hold_vsyntax.proofs.StepLemmas.{one_read}
use Rattle.hold_vsyntax.proofs.body.body.Goals as goal

pub loop-list-preserved : goal.loop-list-preserved
loop-list-preserved c =
    let step = rw c.in-Some.is at c.in_ok-item.ensures in
    one_read (pieces c.args.reader.now) (pieces c.loop-list.reader) (pieces c.step.new.reader) c.loop-list.list.items c.push.new.self.items c.in-Some.item
    c.loop-list.invariant step.0 c.in_ok-push.ensures.items
