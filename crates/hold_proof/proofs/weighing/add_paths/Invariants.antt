use Rattle.std.proofs.Common.{take}
use Rattle.hold_proof.proofs.WeighLemmas.{IsWeighed}
use Rattle.hold_proof.proofs.weighing.add_paths.Given as goal

abbrev pub invariant-loop-term : goal.invariant-loop-term
invariant-loop-term l = IsWeighed l.basis.problem.now l.basis.sites.now l.basis.paths.now (take l.term-index l.terms) l.fn.factors.items l.factors.items l.free
