use Rattle.std.proofs.Common.{◌≡◌, ◌++◌, drop}
use Rattle.hold_build.specs.inner.CellArcs.{arcs_to}
use Rattle.hold_build.proofs.cell_arcs.put_arcs_to.Given as goal

-- what is left makes the list of all
abbrev pub invariant-loop-from : goal.invariant-loop-from
invariant-loop-from l = l.arcs.items ++ arcs_to (drop l.from-index l.froms) l.fn.to ≡ l.fn.arcs.items ++ arcs_to l.froms l.fn.to
