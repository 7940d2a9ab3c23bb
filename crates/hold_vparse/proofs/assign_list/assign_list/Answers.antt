use Rattle.std.proofs.Common.{ap, sym, ◌∙◌}
use Rattle.std.specs.Prelude.{flat_map}
use Rattle.hold_base.proofs.Loops.{added-whole}
use Rattle.hold_base.proofs.Lists.{drop-here, append-nil_left, append-nil_right}
use Rattle.hold_vparse.specs.BitFaults.{misfit_assignment}
use Rattle.hold_vparse.specs.Declares.{assigned}
use Rattle.hold_vparse.specs.inner.Flat.{targets}
use Rattle.hold_vparse.proofs.assign_list.assign_list.Goals as goal

pub add_assigned-requires : goal.add_assigned-requires
add_assigned-requires c =
    let here = drop-here c.args.assignments.now c.loop-assignment.assignment-index c.assignment-item.result c.loop-assignment-test.true c.assignment-item.is in
    append-nil_left _ _ (ap (λ l. flat_map (misfit_assignment c.args.layout.now.wires.now) (targets l)) (sym here) ∙ c.loop-assignment.invariant.fit)

pub loop-assignment-preserved : goal.loop-assignment-preserved
loop-assignment-preserved c =
    let here = drop-here c.args.assignments.now c.loop-assignment.assignment-index c.assignment-item.result c.loop-assignment-test.true c.assignment-item.is in
    record {
      made = added-whole c.loop-assignment.list.items c.add_assigned.new.list.items _ _ (assigned c.args.layout.now.wires.now c.assignment-item.result.now) _ c.in_ok-add_assigned.ensures
          (ap (λ l. flat_map (assigned c.args.layout.now.wires.now) (targets l)) here) c.loop-assignment.invariant.made;
      fit = append-nil_right (misfit_assignment c.args.layout.now.wires.now c.assignment-item.result.now) _ (ap (λ l. flat_map (misfit_assignment c.args.layout.now.wires.now) (targets l)) (sym here) ∙ c.loop-assignment.invariant.fit);
    }
