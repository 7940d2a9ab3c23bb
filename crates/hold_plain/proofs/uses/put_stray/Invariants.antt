use Rattle.std.proofs.Common.{◌≡◌, ◌++◌, drop, map}
use Rattle.hold_plain.specs.PinUses.{stray_use}
use Rattle.hold_plain.proofs.uses.put_stray.Given as goal

abbrev pub invariant-loop-pin : goal.invariant-loop-pin
invariant-loop-pin l = l.uses.items ++ map (stray_use l.inst) (drop l.pin-index l.pins) ≡ l.initial.uses.items ++ map (stray_use l.inst) l.pins
