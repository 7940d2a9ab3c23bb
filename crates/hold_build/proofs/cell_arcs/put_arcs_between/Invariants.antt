use Rattle.std.proofs.Common.{◌≡◌, ◌++◌, drop}
use Rattle.hold_build.specs.inner.CellArcs.{arcs_between}
use Rattle.hold_build.proofs.cell_arcs.put_arcs_between.Given as goal

-- what is left makes the list of all
abbrev pub invariant-loop-to : goal.invariant-loop-to
invariant-loop-to l = l.arcs.items ++ arcs_between l.froms (drop l.to-index l.tos) ≡ l.fn.arcs.items ++ arcs_between l.froms l.tos
