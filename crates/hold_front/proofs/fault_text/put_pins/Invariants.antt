use Rattle.std.proofs.Common.{◌≡◌, ◌++◌, drop}
use Rattle.std.specs.Prelude.{codes, flat_map}
use Rattle.hold_front.proofs.fault_text.put_pins.Given as goal

abbrev pub invariant-loop-pin : goal.invariant-loop-pin
invariant-loop-pin l = l.out.items ++ flat_map (λ pin. codes " " ++ pin) (drop l.pin-index l.pins) ≡ l.fn.out.items ++ flat_map (λ pin. codes " " ++ pin) l.pins
