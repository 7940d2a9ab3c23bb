use Rattle.std.proofs.Common.{◌≡◌, length}
use Rattle.hold_sdflex.specs.Items.{items_in}
use Rattle.hold_sdf.specs.Entries.{each, timing_entries}
use Rattle.hold_sdf.specs.inner.Adds.{after}
use Rattle.hold_sdf.specs.inner.Shown.{shown_scene}
use Rattle.hold_sdf.proofs.timing.timings.Given as goal

abbrev pub invariant-loop-group : goal.invariant-loop-group
invariant-loop-group l =
    after l.entries.items (each (timing_entries (shown_scene l.scene)) (items_in l.rest)) ≡ after l.fn.entries.items (each (timing_entries (shown_scene l.fn.scene)) (items_in l.fn.groups))

abbrev pub decreases-loop-group : goal.decreases-loop-group
decreases-loop-group l = length l.rest
