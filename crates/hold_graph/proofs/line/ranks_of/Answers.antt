use Rattle.std.proofs.Common.{rules}
use Rattle.std.proofs.lemmas.Option.{slice_get-get_or}
use Rattle.hold_graph.proofs.Ranks.{ranks-more, ranks-all}
use Rattle.hold_graph.proofs.line.ranks_of.Goals as goal

pub loop-place-preserved : goal.loop-place-preserved
loop-place-preserved c = record {
  len = search rules;
  ranks = ranks-more c.args.order.now c.loop-place.place _ c.loop-place.ranks.items c.requires.different (slice_get-get_or c.args.order.now c.loop-place.place _ c.loop-place-test.true)
      (search rules) c.loop-place.invariant.ranks;
}

pub returns-clause-ranks : goal.returns-clause-ranks
returns-clause-ranks c = ranks-all c.args.order.now c.loop-place.place c.loop-place.ranks.items c.loop-place-test.false c.loop-place.invariant.ranks
