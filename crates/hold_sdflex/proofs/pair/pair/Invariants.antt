use Rattle.hold_sdflex.proofs.Pairing.{ArePairedFrom}
use Rattle.hold_sdflex.proofs.pair.pair.Given as goal

abbrev pub invariant-loop-place : goal.invariant-loop-place
invariant-loop-place l = ArePairedFrom l.fn.pieces l.pieces l.closings.items l.place
