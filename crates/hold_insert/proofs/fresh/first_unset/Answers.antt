use Rattle.std.proofs.Common.{arith}
use Rattle.hold_insert.proofs.UsedLemmas.{all-set}
use Rattle.hold_insert.proofs.fresh.first_unset.Goals as goal

pub returns-clause-there : goal.returns-clause-there
returns-clause-there c =
    let full = all-set c.args.used.now (λ k lt. c.loop-n.invariant k (omega (arith, lt, c.loop-n-test.false))) in
    omega (arith, full, c.requires)

pub returns-clause-unset : goal.returns-clause-unset
returns-clause-unset c =
    let full = all-set c.args.used.now (λ k lt. c.loop-n.invariant k (omega (arith, lt, c.loop-n-test.false))) in
    absurd (omega (arith, full, c.requires))
