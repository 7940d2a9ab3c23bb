use Rattle.hold_build.proofs.FaultLemmas.{no_cycle}
use Rattle.hold_build.proofs.PinLemmas.{names-its-pins}
use Rattle.hold_build.proofs.building.built.Goals as goal

pub make-requires-clause-numbers : goal.make-requires-clause-numbers
make-requires-clause-numbers c = names-its-pins c.args.bound.now c.args.job.now c.in_ok-parts.parts c.in_ok-parts.ensures.made

pub returns-in-Ok-clause-sound : goal.returns-in-Ok-clause-sound
returns-in-Ok-clause-sound c = record {
  listed = c.in_ok-parts.ensures.sound;
  acyclic = no_cycle c.args.bound.now c.in_ok-parts.parts.arcs c.in_ok-parts.ensures.made.arcs c.in-Ok.ensures.no_cycle;
}
