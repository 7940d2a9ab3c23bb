use Rattle.std.proofs.Common.{◌*◌, length, ap, ◌∙◌, arith}
use Rattle.hold_insert.proofs.GrownLemmas.{drop-one, next-chain}
use Rattle.hold_insert.proofs.puts.puts_of.Goals as goal

pub loop-site-preserved : goal.loop-site-preserved
loop-site-preserved c = record {
  items =
      next-chain c.args.kinds.now c.args.sites.now c.args.counts.now _ _ c.loop-site.site-index c.loop-site.first _ c.requires.rising c.loop-site-test.true c.loop-site.invariant.first c.in_ok-put_chain.ensures
      ∙ c.loop-site.invariant.items;
  first = omega (arith, c.loop-site.invariant.first);
  left = omega (arith, c.loop-site.invariant.left, ap (λ n. n * length c.args.kinds.now) (drop-one c.args.sites.now c.loop-site.site-index (record { 0 = 0 }) c.loop-site-test.true));
}
