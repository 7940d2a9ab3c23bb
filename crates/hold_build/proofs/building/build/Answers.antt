use Rattle.hold_build.proofs.FaultLemmas.{build-accepted, build-cyclic, build-refused}
use Rattle.hold_build.proofs.building.build.Goals as goal

pub returns-clause-built : goal.returns-clause-built
returns-clause-built c = build-accepted c.args.bound.now c.args.job.now c.built.result c.built.ensures.fault

pub returns-clause-refused : goal.returns-clause-refused
returns-clause-refused c = build-refused c.args.bound.now c.args.job.now c.built.result c.built.ensures.sound c.built.ensures.fault

pub returns-clause-cyclic : goal.returns-clause-cyclic
returns-clause-cyclic c = build-cyclic c.args.bound.now c.args.job.now c.built.result c.built.ensures.sound c.built.ensures.fault
