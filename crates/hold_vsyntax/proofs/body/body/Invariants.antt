use Rattle.std.proofs.Common.{length}
use Rattle.hold_vsyntax.specs.inner.Body.{HasRead}
use Rattle.hold_vsyntax.specs.Pieces.{pieces}
use Rattle.hold_vsyntax.proofs.body.body.Given as goal

abbrev pub invariant-loop-list : goal.invariant-loop-list
invariant-loop-list l = HasRead (pieces l.fn.reader) l.list.items (pieces l.reader)

abbrev pub decreases-loop-list : goal.decreases-loop-list
decreases-loop-list l = length l.reader
