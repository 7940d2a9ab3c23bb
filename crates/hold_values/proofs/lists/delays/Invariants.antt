use Rattle.std.proofs.Common.{List, take}
use Rattle.std.specs.List.{AllZip}
use Rattle.hold_sdf.specs.declared.entry.Entry.{Entry}
use Rattle.hold_told.specs.Told.{AreTold}
use Rattle.hold_values.specs.Given.{IfAny, IsGivenDelay}
use Rattle.hold_values.proofs.lists.delays.Given as goal

abbrev pub invariant-loop-pin : goal.invariant-loop-pin
invariant-loop-pin l =
    (entries : List Entry) → AreTold l.fn.bound l.fn.graph entries l.fn.told → AllZip (λ pin value. IfAny (IsGivenDelay l.fn.bound l.fn.job l.fn.corner.0 entries pin) value) (take l.pin-index l.pins) l.delays.items
