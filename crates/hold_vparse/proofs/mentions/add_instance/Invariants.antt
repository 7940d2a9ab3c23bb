use Rattle.std.proofs.Common.{◌≡◌, ◌++◌, drop, map}
use Rattle.std.specs.Prelude.{flat_map}
use Rattle.hold_vsyntax.specs.declared.tree.Connection.{Connection}
use Rattle.hold_vparse.specs.inner.Flat.{seen_mentions}
use Rattle.hold_vparse.specs.Nets.{used_in_tied}
use Rattle.hold_vparse.specs.DoubleNames.{mention, UsesNet, mentions_of_instance}
use Rattle.hold_vparse.proofs.mentions.add_instance.Given as goal

abbrev pub invariant-loop-connection : goal.invariant-loop-connection
invariant-loop-connection l = seen_mentions l.list.items ++ map (mention UsesNet) (flat_map (λ (c : Connection). used_in_tied c.tied) (drop l.connection-index l.connection-items)) ≡ seen_mentions l.fn.list.items ++ mentions_of_instance l.instance
