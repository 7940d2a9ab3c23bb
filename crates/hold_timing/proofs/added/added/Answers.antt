use Rattle.hold_timing.proofs.Pads.{added-no_site}
use Rattle.hold_timing.proofs.added.added.Goals as goal

pub returns-in-None-clause-value : goal.returns-in-None-clause-value
returns-in-None-clause-value c = added-no_site c.args.side c.args.kinds.now _ c.args.counts.now c.args.site c.in-None.is
