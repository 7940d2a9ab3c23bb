use Rattle.hold_timing_tests.proofs.PathEnds.{path_ends}
use Rattle.hold_timing_tests.proofs.counts.worst_path.Goals as goal

pub path_to-requires-clause-ends : goal.path_to-requires-clause-ends
path_to-requires-clause-ends c =
    path_ends c.args.side c.args.problem.now c.args.arrivals.now.counts c.args.corner.0 c.sites-sites.result.now c.worst.result c.in-Some.end c.requires.corner c.sites-sites.ensures c.worst.ensures.worst c.in-Some.is
