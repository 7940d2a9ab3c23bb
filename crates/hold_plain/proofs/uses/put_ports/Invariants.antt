use Rattle.std.proofs.Common.{◌≡◌, ◌++◌, drop}
use Rattle.hold_plain.specs.PinUses.{ports_uses}
use Rattle.hold_plain.proofs.uses.put_ports.Given as goal

abbrev pub invariant-loop-net : goal.invariant-loop-net
invariant-loop-net l = l.uses.items ++ ports_uses l.net (drop l.net l.ports) ≡ l.initial.uses.items ++ ports_uses 0 l.ports
