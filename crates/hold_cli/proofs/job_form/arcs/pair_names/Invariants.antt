use Rattle.std.proofs.Common.{◌≡◌, ◌++◌, map, drop}
use Rattle.hold_cli.specs.JobFormCells.{pair_name}
use Rattle.hold_cli.proofs.job_form.arcs.pair_names.Given as goal

-- the pairs so far, and those of the arcs that are left, are those of all
abbrev pub invariant-loop-arc : goal.invariant-loop-arc
invariant-loop-arc l = l.pairs.items ++ map pair_name (drop l.arc-index l.arcs) ≡ map pair_name l.arcs
