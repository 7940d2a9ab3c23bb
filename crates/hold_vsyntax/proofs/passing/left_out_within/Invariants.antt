use Rattle.std.proofs.Common.{◌≡◌, length}
use Rattle.hold_vsyntax.specs.inner.Passing.{first_within}
use Rattle.hold_vsyntax.specs.Text.{first_left_out}
use Rattle.hold_vsyntax.proofs.passing.left_out_within.Given as goal

abbrev pub invariant-loop-token : goal.invariant-loop-token
invariant-loop-token l = first_left_out (first_within l.reader) ≡ first_left_out (first_within l.fn.reader)

abbrev pub decreases-loop-token : goal.decreases-loop-token
decreases-loop-token l = length l.reader
