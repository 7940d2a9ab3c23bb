use Rattle.std.proofs.Common.{◌≡◌, drop}
use Rattle.std.specs.Prelude.{flat_map}
use Rattle.hold_vparse.specs.BitFaults.{misfit_assignment}
use Rattle.hold_vparse.specs.inner.Flat.{targets}
use Rattle.hold_vparse.specs.inner.Found.{merged, found_ident}
use Rattle.hold_vparse.specs.Soonest.{soonest}
use Rattle.hold_vparse.proofs.bit_faults.misfit_in_assignments.Given as goal

abbrev pub invariant-loop-assignment : goal.invariant-loop-assignment
invariant-loop-assignment l = merged (found_ident l.found) (soonest (flat_map (misfit_assignment l.nets.nets.now) (targets (drop l.assignment-index l.assignments)))) ≡ soonest (flat_map (misfit_assignment l.nets.nets.now) (targets l.assignments))
