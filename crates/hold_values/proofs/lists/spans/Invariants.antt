use Rattle.std.proofs.Common.{List, take}
use Rattle.std.specs.List.{AllZip}
use Rattle.hold_sdf.specs.declared.entry.Entry.{Entry}
use Rattle.hold_told.specs.Told.{AreTold}
use Rattle.hold_values.specs.Given.{IfAny, IsGivenSpan}
use Rattle.hold_values.proofs.lists.spans.Given as goal

abbrev pub invariant-loop-place : goal.invariant-loop-place
invariant-loop-place l =
    (entries : List Entry) → AreTold l.fn.bound l.fn.graph entries l.fn.told → AllZip (λ arc span. IfAny (IsGivenSpan l.fn.bound l.fn.job l.fn.corner.0 entries arc) span) (take l.place l.arcs) l.spans.items
