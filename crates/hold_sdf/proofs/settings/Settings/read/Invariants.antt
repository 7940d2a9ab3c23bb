use Rattle.std.proofs.Common.{◌≡◌, length}
use Rattle.hold_sdflex.specs.Items.{items_in}
use Rattle.hold_sdf.specs.Settings.{settings_of, nothing_set}
use Rattle.hold_sdf.specs.inner.Shown.{shown_settings}
use Rattle.hold_sdf.proofs.settings.Settings.read.Given as goal

abbrev pub invariant-loop-header : goal.invariant-loop-header
invariant-loop-header l = settings_of (shown_settings l.settings) (items_in l.rest) ≡ settings_of nothing_set (items_in l.fn.rest)

abbrev pub decreases-loop-header : goal.decreases-loop-header
decreases-loop-header l = length l.rest
