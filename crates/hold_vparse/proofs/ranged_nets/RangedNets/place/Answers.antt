use Rattle.hold_vparse.proofs.LineLemmas.{reach-at}
use Rattle.hold_vparse.proofs.ranged_nets.RangedNets.place.Goals as goal

pub returns : goal.returns
returns c = reach-at c.args.name.now c.args.self.now.nets.now c.args.self.now.ranges.now.nets c.place.result c.args.self.now.same c.place.ensures
