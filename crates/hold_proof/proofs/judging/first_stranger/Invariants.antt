use Rattle.std.proofs.Common.{take}
use Rattle.std.specs.Prelude.{All}
use Rattle.hold_proof.specs.Closing.{IsOfProblem}
use Rattle.hold_proof.proofs.judging.first_stranger.Given as goal

abbrev pub invariant-loop-number : goal.invariant-loop-number
invariant-loop-number l = All (IsOfProblem l.problem) (take l.number l.paths)
