use Rattle.std.proofs.Common.{◌≡◌, drop}
use Rattle.hold_netlist.specs.Names.{is_among}
use Rattle.hold_job.specs.FileNames.{sdf_names}
use Rattle.hold_job.proofs.files.is_sdf_name.Given as goal

-- the file of one of those that are left has the name where that of one of all does
abbrev pub invariant-loop-corner : goal.invariant-loop-corner
invariant-loop-corner l = is_among l.name (sdf_names (drop l.corner-index l.corners)) ≡ is_among l.name (sdf_names l.corners)
