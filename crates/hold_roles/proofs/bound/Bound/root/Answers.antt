use Rattle.hold_roles.proofs.BoundLemmas.{root-only}
use Rattle.hold_roles.proofs.bound.Bound.root.Goals as goal

pub returns-clause-one : goal.returns-clause-one
returns-clause-one c = root-only c.args.self.now c.self.inside.library c.self.inside.netlist c.self.inside.roots.items c.as_slice-roots.result.now c.args.net.0 _
    c.self.view_is c.self.invariant.0 c.self.invariant.2 c.requires c.as_slice-roots.ensures.value
