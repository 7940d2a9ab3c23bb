use Rattle.std.proofs.Common.{take}
use Rattle.std.specs.List.{AllByRecursion}
use Rattle.hold_told.specs.Entries.{IsPlaced}
use Rattle.hold_told.specs.Told.{AreTold}
use Rattle.hold_told.proofs.telling.tell.Given as goal

abbrev pub invariant-loop-entry : goal.invariant-loop-entry
invariant-loop-entry l = record {
  told : AreTold l.bound l.graph (take l.entry-index l.entries) l.told;
  placed : AllByRecursion (IsPlaced l.bound) (take l.entry-index l.entries);
}
