use Rattle.std.proofs.Common.{◌≡◌, ◌++◌, drop}
use Rattle.hold_plain.specs.inner.RegisterPins.{is_of}
use Rattle.hold_plain.specs.Problem.{pins_from}
use Rattle.hold_plain.proofs.registers.pins_of.Given as goal

abbrev pub invariant-loop-place : goal.invariant-loop-place
invariant-loop-place l = l.pins.items ++ pins_from (is_of l.kind) l.place (drop l.place l.uses) ≡ pins_from (is_of l.kind) 0 l.uses
