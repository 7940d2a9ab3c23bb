use Rattle.std.proofs.Common.{◌≡◌, drop}
use Rattle.hold_netlist.specs.Names.{pin_names}
use Rattle.hold_netlist.specs.Seed.{start_of}
use Rattle.hold_netlist.specs.inner.Seed.{with_texts}
use Rattle.hold_netlist.proofs.names_seed.add_pins.Given as goal

-- what is left makes the seed of all
abbrev pub invariant-loop-pin : goal.invariant-loop-pin
invariant-loop-pin l = with_texts (start_of l.seed) (pin_names (drop l.pin-index l.pins)) ≡ with_texts (start_of l.initial.seed) (pin_names l.pins)
