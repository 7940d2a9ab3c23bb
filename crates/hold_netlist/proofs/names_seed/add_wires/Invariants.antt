use Rattle.std.proofs.Common.{◌≡◌, drop}
use Rattle.hold_netlist.specs.Names.{wire_names}
use Rattle.hold_netlist.specs.Seed.{start_of}
use Rattle.hold_netlist.specs.inner.Seed.{with_texts}
use Rattle.hold_netlist.proofs.names_seed.add_wires.Given as goal

-- what is left makes the seed of all
abbrev pub invariant-loop-wire : goal.invariant-loop-wire
invariant-loop-wire l = with_texts (start_of l.seed) (wire_names (drop l.wire-index l.wires)) ≡ with_texts (start_of l.initial.seed) (wire_names l.wires)
