use Rattle.std.proofs.Common.{take}
use Rattle.hold_told.specs.inner.Indexed.{IsLastOpen}
use Rattle.hold_told.proofs.indexed.last_open.Given as goal

abbrev pub invariant-loop-at : goal.invariant-loop-at
invariant-loop-at l = IsLastOpen (take l.at l.text) l.last
