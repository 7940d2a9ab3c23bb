use Rattle.std.proofs.Common.{◌≡◌, ◌++◌, drop}
use Rattle.std.specs.Prelude.{flat_map}
use Rattle.hold_vparse.specs.inner.Flat.{seen_mentions}
use Rattle.hold_vparse.specs.DoubleNames.{mentions_of_item}
use Rattle.hold_vparse.proofs.mentions.add_items.Given as goal

abbrev pub invariant-loop-item : goal.invariant-loop-item
invariant-loop-item l = seen_mentions l.list.items ++ flat_map mentions_of_item (drop l.item-index l.items) ≡ seen_mentions l.fn.list.items ++ flat_map mentions_of_item l.items
