use Rattle.std.proofs.Common.{◌≡◌, length}
use Rattle.hold_graph.proofs.SiteLists.{IsSiteTableUpTo}
use Rattle.hold_graph.proofs.site.site_table.Given as goal

abbrev pub invariant-loop-place : goal.invariant-loop-place
invariant-loop-place l = record {
  count : length l.table.items ≡ l.pins;
  tells : IsSiteTableUpTo l.sites l.place l.table.items;
}
