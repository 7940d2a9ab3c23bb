use Rattle.std.proofs.Common.{◌≡◌, length}
use Rattle.hold_sdflex.specs.Items.{items_in, behind}
use Rattle.hold_sdf.specs.Entries.{each, check_entries}
use Rattle.hold_sdf.specs.inner.Adds.{after}
use Rattle.hold_sdf.specs.inner.Shown.{shown_scene}
use Rattle.hold_sdf.proofs.timing.checks.Given as goal

abbrev pub invariant-loop-inner : goal.invariant-loop-inner
invariant-loop-inner l =
    after l.entries.items (each (check_entries (shown_scene l.scene)) (items_in l.rest)) ≡ after l.fn.entries.items (each (check_entries (shown_scene l.fn.scene)) (behind (items_in l.fn.group.inner)))

abbrev pub decreases-loop-inner : goal.decreases-loop-inner
decreases-loop-inner l = length l.rest
