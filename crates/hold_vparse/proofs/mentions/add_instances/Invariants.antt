use Rattle.std.proofs.Common.{◌≡◌, ◌++◌, ◌∷◌, drop}
use Rattle.std.specs.Prelude.{flat_map}
use Rattle.hold_vparse.specs.inner.Flat.{seen_mentions}
use Rattle.hold_vparse.specs.DoubleNames.{mentions_of_instance}
use Rattle.hold_vparse.proofs.mentions.add_instances.Given as goal

abbrev pub invariant-loop-instance : goal.invariant-loop-instance
invariant-loop-instance l = seen_mentions l.list.items ++ flat_map mentions_of_instance (drop l.instance-index l.rest) ≡ seen_mentions l.fn.list.items ++ flat_map mentions_of_instance (l.fn.first ∷ l.rest)
