use Rattle.hold_graph.specs.inner.Sites.{AreSitesBelow}
use Rattle.hold_graph.proofs.site.sites_of.Given as goal

abbrev pub invariant-loop-pin : goal.invariant-loop-pin
invariant-loop-pin l = AreSitesBelow l.parts l.pin l.sites.items
