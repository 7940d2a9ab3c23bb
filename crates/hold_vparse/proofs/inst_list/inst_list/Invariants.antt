use Rattle.std.proofs.Common.{◌≡◌, ◌++◌, [], drop, map}
use Rattle.std.specs.Prelude.{flat_map}
use Rattle.hold_vparse.specs.BitFaults.{misfit_named}
use Rattle.hold_vparse.specs.Declares.{inst}
use Rattle.hold_vparse.specs.inner.Flat.{seen_instances}
use Rattle.hold_vparse.proofs.inst_list.inst_list.Given as goal

abbrev pub invariant-loop-named : goal.invariant-loop-named
invariant-loop-named l = record {
  made : l.list.items ++ map (inst l.layout.wires.now) (seen_instances (drop l.named-index l.instances)) ≡ map (inst l.layout.wires.now) (seen_instances l.instances);
  fit : flat_map (misfit_named l.layout.wires.now) (seen_instances (drop l.named-index l.instances)) ≡ [];
}
