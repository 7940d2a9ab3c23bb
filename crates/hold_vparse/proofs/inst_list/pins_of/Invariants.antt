use Rattle.std.proofs.Common.{◌≡◌, ◌++◌, [], drop, map}
use Rattle.std.specs.Prelude.{flat_map}
use Rattle.hold_vsyntax.specs.declared.tree.Connection.{Connection}
use Rattle.hold_vparse.specs.BitFaults.{misfit_tied}
use Rattle.hold_vparse.specs.Declares.{pin}
use Rattle.hold_vparse.proofs.inst_list.pins_of.Given as goal

abbrev pub invariant-loop-connection : goal.invariant-loop-connection
invariant-loop-connection l = record {
  made : l.list.items ++ map (pin l.layout.wires.now) (drop l.connection-index l.connections) ≡ map (pin l.layout.wires.now) l.connections;
  fit : flat_map (λ (c : Connection). misfit_tied l.layout.wires.now c.tied) (drop l.connection-index l.connections) ≡ [];
}
