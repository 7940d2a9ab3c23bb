use Rattle.std.proofs.Common.{◌≡◌, length}
use Rattle.std.specs.Prelude.{option_map}
use Rattle.hold_sdflex.specs.Items.{items_in}
use Rattle.hold_sdflex.specs.ItemsRead.{item_read}
use Rattle.hold_sdf.specs.Shapes.{last_behind, last_of}
use Rattle.hold_sdf.proofs.items.last_of.Given as goal

abbrev pub invariant-loop-item : goal.invariant-loop-item
invariant-loop-item l = last_behind (option_map item_read l.last) (items_in l.rest) ≡ last_of (items_in l.fn.inner)

abbrev pub decreases-loop-item : goal.decreases-loop-item
decreases-loop-item l = length l.rest
