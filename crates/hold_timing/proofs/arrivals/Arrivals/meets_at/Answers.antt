use Rattle.std.proofs.Common.{◌≡◌, false, arith, rules}
use Rattle.std.specs.Prelude.{ℤ, pos, ◌<ℤ◌}
use Rattle.std.proofs.lemmas.Int.{ints}
use Rattle.hold_timing.proofs.WorstEnds.{worst_end-missed}
use Rattle.hold_timing.proofs.arrivals.Arrivals.meets_at.Goals as goal

pub returns-in-Some-clause-missed : goal.returns-in-Some-clause-missed
returns-in-Some-clause-missed c = λ e spans sites at are.
    worst_end-missed c.args.side c.args.problem.now spans _ c.worst.result c.in-Some.end (c.worst.ensures.worst spans sites at are) c.in-Some.is (search rules)
