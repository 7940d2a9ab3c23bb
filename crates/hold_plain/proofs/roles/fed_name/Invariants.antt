use Rattle.std.proofs.Common.{◌≡◌, drop}
use Rattle.hold_plain.specs.PinUses.{fed_name}
use Rattle.hold_plain.proofs.roles.fed_name.Given as goal

abbrev pub invariant-loop-pin : goal.invariant-loop-pin
invariant-loop-pin l = fed_name l.cell (drop l.pin-index l.pins) ≡ fed_name l.cell l.pins
