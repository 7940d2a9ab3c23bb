use Rattle.std.proofs.Common.{◌≡◌, length}
use Rattle.hold_sdf.specs.inner.Steps.{spec_in}
use Rattle.hold_sdf.proofs.pin.spec_in.Given as goal

abbrev pub invariant-loop-inner : goal.invariant-loop-inner
invariant-loop-inner l = spec_in l.inner ≡ spec_in l.fn.inner

abbrev pub decreases-loop-inner : goal.decreases-loop-inner
decreases-loop-inner l = length l.inner
