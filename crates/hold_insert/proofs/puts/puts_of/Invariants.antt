use Rattle.std.proofs.Common.{◌≡◌, ◌+◌, ◌*◌, ◌++◌, drop, length}
use Rattle.hold_graph.specs.Sites.{buffers_of}
use Rattle.hold_insert.specs.Chains.{insertions}
use Rattle.hold_insert.specs.inner.Grown.{insertions_of}
use Rattle.hold_insert.proofs.puts.puts_of.Given as goal

-- what is left makes the buffers of all, and its counts begin there
abbrev pub invariant-loop-site : goal.invariant-loop-site
invariant-loop-site l = record {
  items : insertions_of l.puts.items ++ insertions l.kinds (drop l.site-index l.sites) (buffers_of (length l.kinds) l.sites l.counts)
      ≡ insertions l.kinds l.sites (buffers_of (length l.kinds) l.sites l.counts);
  first : l.first ≡ l.site-index * length l.kinds;
  left : length l.counts ≡ l.first + length (drop l.site-index l.sites) * length l.kinds;
}
