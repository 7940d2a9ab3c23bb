use Rattle.hold_build.proofs.EntryLemmas.{flags-known, flags-set}
use Rattle.hold_build.proofs.entries.mark.Goals as goal

pub returns-in_ok-push-clause-flags : goal.returns-in_ok-push-clause-flags
returns-in_ok-push-clause-flags c =
    flags-set c.args.pins.now.items c.push.new.self.items c.args.flags.now.items c.args.pin c.requires.within c.in_ok-push.ensures.items c.requires.flags

pub returns-else-not-index-clause-pins : goal.returns-else-not-index-clause-pins
returns-else-not-index-clause-pins c =
    flags-known c.args.pins.now.items c.args.flags.now.items c.args.pin c.index.result.now c.requires.within c.index.ensures c.if-not-index.false c.requires.flags
