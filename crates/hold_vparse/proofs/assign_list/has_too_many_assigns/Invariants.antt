use Rattle.std.proofs.Common.{◌≡◌, ◌+◌, ◌≤◌, [], length, drop}
use Rattle.std.specs.Prelude.{flat_map}
use Rattle.hold_base.specs.Limits.{assigns_limit}
use Rattle.hold_vparse.specs.BitFaults.{misfit_assignment}
use Rattle.hold_vparse.specs.Declares.{assigned}
use Rattle.hold_vparse.specs.inner.Flat.{targets}
use Rattle.hold_vparse.proofs.assign_list.has_too_many_assigns.Given as goal

abbrev pub invariant-loop-assignment : goal.invariant-loop-assignment
invariant-loop-assignment l = record {
  counted : l.count + length (flat_map (assigned l.layout.wires.now) (targets (drop l.assignment-index l.assignments))) ≡ length (flat_map (assigned l.layout.wires.now) (targets l.assignments));
  few : l.count ≤ assigns_limit;
  fit : flat_map (misfit_assignment l.layout.wires.now) (targets (drop l.assignment-index l.assignments)) ≡ [];
}
