use Rattle.std.proofs.Common.{◌≡◌, length}
use Rattle.hold_vsyntax.specs.inner.Passing.{rest_within}
use Rattle.hold_vsyntax.proofs.passing.pass_within.Given as goal

abbrev pub invariant-loop-at_end : goal.invariant-loop-at_end
invariant-loop-at_end l = rest_within l.reader ≡ rest_within l.fn.reader

abbrev pub decreases-loop-at_end : goal.decreases-loop-at_end
decreases-loop-at_end l = length l.reader
