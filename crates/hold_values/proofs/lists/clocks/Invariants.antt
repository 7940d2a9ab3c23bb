use Rattle.std.proofs.Common.{take}
use Rattle.std.specs.List.{AllZip}
use Rattle.hold_values.specs.Given.{IfAny, IsGivenClock}
use Rattle.hold_values.proofs.lists.clocks.Given as goal

abbrev pub invariant-loop-pin : goal.invariant-loop-pin
invariant-loop-pin l = AllZip (λ pin span. IfAny (IsGivenClock l.bound l.job l.corner.0 pin) span) (take l.pin-index l.pins) l.clocks.items
