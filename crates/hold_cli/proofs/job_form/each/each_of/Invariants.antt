use Rattle.std.proofs.Common.{◌≡◌, drop}
use Rattle.toml.specs.View.{items_view}
use Rattle.hold_cli.specs.JobFormKeys.{each_of}
use Rattle.hold_cli.proofs.JobFormEach.{after}
use Rattle.hold_cli.proofs.job_form.each.each_of.Given as goal

-- what was read, and what the rest gives, is what the whole gives
abbrev pub invariant-loop-item : goal.invariant-loop-item
invariant-loop-item g l = after l.read.items (each_of g.T.FromValue.given_by (items_view (drop l.item-index l.items.items))) ≡ each_of g.T.FromValue.given_by (items_view l.items.items)
