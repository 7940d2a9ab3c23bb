use Rattle.std.proofs.Common.{◌≡◌, ◌++◌, drop, map}
use Rattle.hold_vparse.specs.inner.Flat.{seen_mentions}
use Rattle.hold_vparse.specs.inner.Roles.{seen_role}
use Rattle.hold_vparse.specs.DoubleNames.{mention}
use Rattle.hold_vparse.proofs.mentions.add_names.Given as goal

abbrev pub invariant-loop-name : goal.invariant-loop-name
invariant-loop-name l = seen_mentions l.list.items ++ map (mention (seen_role l.role)) (drop l.name-index l.names) ≡ seen_mentions l.fn.list.items ++ map (mention (seen_role l.role)) l.names
