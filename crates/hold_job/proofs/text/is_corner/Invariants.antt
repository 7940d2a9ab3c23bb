use Rattle.std.proofs.Common.{◌≡◌, drop}
use Rattle.hold_netlist.specs.Names.{is_among}
use Rattle.hold_job.specs.inner.Forms.{corner_names}
use Rattle.hold_job.proofs.text.is_corner.Given as goal

-- one of those that are left has the name where one of all does
abbrev pub invariant-loop-corner : goal.invariant-loop-corner
invariant-loop-corner l = is_among l.name (corner_names (drop l.corner-index l.corners)) ≡ is_among l.name (corner_names l.corners)
