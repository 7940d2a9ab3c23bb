use Rattle.std.proofs.Common.{◌≡◌, length}
use Rattle.hold_sdflex.specs.Items.{items_in}
use Rattle.hold_sdf.specs.Entries.{each, cell_entries}
use Rattle.hold_sdf.specs.inner.Adds.{after}
use Rattle.hold_sdf.specs.inner.Shown.{shown_settings}
use Rattle.hold_sdf.proofs.file.cells.Given as goal

abbrev pub invariant-loop-group : goal.invariant-loop-group
invariant-loop-group l =
    after l.entries.items (each (cell_entries (shown_settings l.settings)) (items_in l.rest)) ≡ after l.fn.entries.items (each (cell_entries (shown_settings l.fn.settings)) (items_in l.fn.groups))

abbrev pub decreases-loop-group : goal.decreases-loop-group
decreases-loop-group l = length l.rest
