use Rattle.std.proofs.Common.{take, length}
use Rattle.hold_proof.specs.inner.LeafTerms.{pins_vars}
use Rattle.hold_proof.specs.inner.Changes.{IsSettled}
use Rattle.hold_proof.proofs.paths.settle_path.Given as goal

abbrev pub invariant-loop-pin : goal.invariant-loop-pin
invariant-loop-pin l =
    IsSettled l.over.costs.now l.over.scale l.over.low.now l.over.high.now (pins_vars (length l.over.costs.now) l.sites (take l.pin-index l.pins)) l.fn.factors.items l.factors.items l.sum
