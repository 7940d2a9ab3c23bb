use Rattle.hold_build.proofs.FaultLemmas.{list-accepted, list-refused}
use Rattle.hold_build.proofs.lists.parts.Goals as goal

pub returns-clause-listed : goal.returns-clause-listed
returns-clause-listed c = list-accepted c.args.bound.now c.args.job.now c.listed.result c.listed.ensures.fault

pub returns-clause-refused : goal.returns-clause-refused
returns-clause-refused c = list-refused c.args.bound.now c.args.job.now c.listed.result c.listed.ensures.sound c.listed.ensures.fault
