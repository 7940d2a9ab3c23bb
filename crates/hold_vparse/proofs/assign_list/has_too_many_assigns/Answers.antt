use Rattle.std.proofs.Common.{◌+◌, ap, sym, ◌∙◌, length, drop, arith, length-append}
use Rattle.std.specs.Prelude.{flat_map}
use Rattle.hold_base.proofs.Lists.{drop-here, append-nil_left, append-nil_right}
use Rattle.hold_vparse.specs.BitFaults.{misfit_assignment}
use Rattle.hold_vparse.specs.Declares.{assigned}
use Rattle.hold_vparse.specs.inner.Flat.{targets}
use Rattle.hold_vparse.proofs.assign_list.has_too_many_assigns.Goals as goal

pub assigned_count-requires : goal.assigned_count-requires
assigned_count-requires c =
    let here = drop-here c.args.assignments.now c.loop-assignment.assignment-index c.assignment-item.result c.loop-assignment-test.true c.assignment-item.is in
    append-nil_left _ _ (ap (λ l. flat_map (misfit_assignment c.args.layout.now.wires.now) (targets l)) (sym here) ∙ c.loop-assignment.invariant.fit)

pub loop-assignment-preserved : goal.loop-assignment-preserved
loop-assignment-preserved c =
    let here = drop-here c.args.assignments.now c.loop-assignment.assignment-index c.assignment-item.result c.loop-assignment-test.true c.assignment-item.is in
    let split = ap (λ l. length (flat_map (assigned c.args.layout.now.wires.now) (targets l))) here
    ∙ length-append (assigned c.args.layout.now.wires.now c.assignment-item.result.now) (flat_map (assigned c.args.layout.now.wires.now) (targets (drop (c.loop-assignment.assignment-index + 1) c.args.assignments.now))) in
    record {
      counted = omega (arith, split, c.loop-assignment.invariant.counted, c.assigned_count.ensures.count, c.from-count.ensures);
      few = c.if-count-gt-ASSIGNS.false;
      fit = append-nil_right (misfit_assignment c.args.layout.now.wires.now c.assignment-item.result.now) _ (ap (λ l. flat_map (misfit_assignment c.args.layout.now.wires.now) (targets l)) (sym here) ∙ c.loop-assignment.invariant.fit);
    }
