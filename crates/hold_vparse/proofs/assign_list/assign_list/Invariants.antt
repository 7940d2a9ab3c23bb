use Rattle.std.proofs.Common.{◌≡◌, ◌++◌, [], drop}
use Rattle.std.specs.Prelude.{flat_map}
use Rattle.hold_vparse.specs.BitFaults.{misfit_assignment}
use Rattle.hold_vparse.specs.Declares.{assigned}
use Rattle.hold_vparse.specs.inner.Flat.{targets}
use Rattle.hold_vparse.proofs.assign_list.assign_list.Given as goal

abbrev pub invariant-loop-assignment : goal.invariant-loop-assignment
invariant-loop-assignment l = record {
  made : l.list.items ++ flat_map (assigned l.layout.wires.now) (targets (drop l.assignment-index l.assignments)) ≡ flat_map (assigned l.layout.wires.now) (targets l.assignments);
  fit : flat_map (misfit_assignment l.layout.wires.now) (targets (drop l.assignment-index l.assignments)) ≡ [];
}
