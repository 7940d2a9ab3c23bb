use Rattle.std.proofs.Common.{◌≡◌, [], drop}
use Rattle.hold_netlist.specs.Doubles.{first_repeat}
use Rattle.hold_netlist.specs.Names.{pin_names}
use Rattle.hold_netlist.specs.inner.NameTable.{names_of}
use Rattle.hold_netlist.proofs.doubles.see_pins.Given as goal

-- what is left has the first double name of the whole
abbrev pub invariant-loop-pin : goal.invariant-loop-pin
invariant-loop-pin l = first_repeat (names_of l.seen) (pin_names (drop l.pin-index l.pins)) ≡ first_repeat [] (pin_names l.pins)
