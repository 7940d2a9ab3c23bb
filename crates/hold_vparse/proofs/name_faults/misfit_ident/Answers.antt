use Rattle.hold_vparse.specs.inner.Flat.{targets, seen_instances}
use Rattle.hold_vparse.specs.inner.Found.{found_ident}
use Rattle.hold_vparse.proofs.FaultLemmas.{soonest-misfit}
use Rattle.hold_vparse.proofs.name_faults.misfit_ident.Goals as goal

pub returns : goal.returns
returns c =
    soonest-misfit c.args.parts.now.tree.now c.args.parts.now.nets.now (targets c.args.parts.now.assignments.now) (seen_instances c.args.parts.now.instances.now)
    (found_ident c.soonest_of.result) (found_ident c.misfit_in_assignments-assigned.result) (found_ident c.misfit_in_instances-connected.result)
    c.args.parts.now.all_nets c.args.parts.now.all_assignments c.args.parts.now.all_instances c.misfit_in_assignments-assigned.ensures c.misfit_in_instances-connected.ensures c.soonest_of.ensures
