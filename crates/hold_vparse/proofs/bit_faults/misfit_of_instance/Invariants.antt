use Rattle.std.proofs.Common.{◌≡◌, drop}
use Rattle.std.specs.Prelude.{flat_map}
use Rattle.hold_vsyntax.specs.declared.tree.Connection.{Connection}
use Rattle.hold_vparse.specs.BitFaults.{misfit_tied}
use Rattle.hold_vparse.specs.inner.Found.{merged, found_ident}
use Rattle.hold_vparse.specs.Soonest.{soonest}
use Rattle.hold_vparse.proofs.bit_faults.misfit_of_instance.Given as goal

abbrev pub invariant-loop-connection : goal.invariant-loop-connection
invariant-loop-connection l = merged (found_ident l.found) (soonest (flat_map (λ (c : Connection). misfit_tied l.nets.nets.now c.tied) (drop l.connection-index l.connections))) ≡ soonest (flat_map (λ (c : Connection). misfit_tied l.nets.nets.now c.tied) l.connections)
