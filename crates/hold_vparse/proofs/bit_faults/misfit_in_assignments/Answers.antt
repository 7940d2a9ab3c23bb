use Rattle.std.proofs.Common.{ap, sym, ◌∙◌}
use Rattle.std.specs.Prelude.{flat_map}
use Rattle.hold_base.proofs.Lists.{drop-here}
use Rattle.hold_vparse.specs.BitFaults.{misfit_assignment}
use Rattle.hold_vparse.specs.inner.Flat.{targets}
use Rattle.hold_vparse.specs.inner.Found.{merged, found_ident}
use Rattle.hold_vparse.specs.Soonest.{soonest}
use Rattle.hold_vparse.proofs.SoonestLemmas.{soonest-step}
use Rattle.hold_vparse.proofs.bit_faults.misfit_in_assignments.Goals as goal

pub loop-assignment-preserved : goal.loop-assignment-preserved
loop-assignment-preserved c =
    let here = drop-here c.args.assignments.now c.loop-assignment.assignment-index c.assignment-item.result c.loop-assignment-test.true c.assignment-item.is in
    soonest-step (found_ident c.loop-assignment.found) (found_ident c.soonest_of-found.result) _ (misfit_assignment c.args.nets.now.nets.now c.assignment-item.result.now) _
    (c.soonest_of-found.ensures ∙ ap (merged (found_ident c.loop-assignment.found)) c.misfit_of_assignment.ensures)
    (ap (λ l. merged (found_ident c.loop-assignment.found) (soonest (flat_map (misfit_assignment c.args.nets.now.nets.now) (targets l)))) (sym here) ∙ c.loop-assignment.invariant)
