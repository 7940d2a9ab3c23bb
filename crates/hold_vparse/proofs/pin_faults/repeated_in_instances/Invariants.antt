use Rattle.std.proofs.Common.{◌≡◌, drop}
use Rattle.std.specs.Prelude.{flat_map}
use Rattle.hold_vparse.specs.DoubleNames.{repeated_in}
use Rattle.hold_vparse.specs.inner.Flat.{seen_instances}
use Rattle.hold_vparse.specs.inner.Found.{merged, found_ident}
use Rattle.hold_vparse.specs.Soonest.{soonest}
use Rattle.hold_vparse.proofs.pin_faults.repeated_in_instances.Given as goal

abbrev pub invariant-loop-named : goal.invariant-loop-named
invariant-loop-named l = merged (found_ident l.found) (soonest (flat_map repeated_in (seen_instances (drop l.named-index l.instances)))) ≡ soonest (flat_map repeated_in (seen_instances l.instances))
