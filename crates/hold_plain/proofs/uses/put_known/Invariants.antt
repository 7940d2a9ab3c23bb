use Rattle.std.proofs.Common.{◌≡◌, ◌++◌, drop, map}
use Rattle.hold_plain.specs.PinUses.{fed_name, use_of}
use Rattle.hold_plain.proofs.uses.put_known.Given as goal

abbrev pub invariant-loop-pin : goal.invariant-loop-pin
invariant-loop-pin l =
    l.uses.items ++ map (use_of l.cell l.arrival l.inst (fed_name l.cell l.pins)) (drop l.pin-index l.pins)
    ≡ l.initial.uses.items ++ map (use_of l.cell l.arrival l.inst (fed_name l.cell l.pins)) l.pins
