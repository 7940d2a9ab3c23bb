use Rattle.std.proofs.Common.{arith, rules}
use Rattle.std.proofs.lemmas.Option.{slice_get-get_or}
use Rattle.hold_graph.proofs.SiteLists.{rising-few, table-more, table-all}
use Rattle.hold_graph.proofs.site.site_table.Goals as goal

pub overflow_cast-place : goal.overflow_cast-place
overflow_cast-place c =
    let few = rising-few c.args.pins c.args.sites.now c.requires.rising c.requires.below in
    omega (arith, few, c.loop-place-test.true, c.ranges.pins)

pub loop-place-preserved : goal.loop-place-preserved
loop-place-preserved c = record {
  count = search rules;
  tells = table-more c.args.sites.now c.requires.rising c.loop-place.place _ c.loop-place.table.items (slice_get-get_or c.args.sites.now c.loop-place.place _ c.loop-place-test.true)
      (search rules) c.loop-place.invariant.tells;
}

pub returns-clause-tells : goal.returns-clause-tells
returns-clause-tells c = table-all c.args.sites.now c.loop-place.place c.loop-place.table.items c.loop-place-test.false c.loop-place.invariant.tells
