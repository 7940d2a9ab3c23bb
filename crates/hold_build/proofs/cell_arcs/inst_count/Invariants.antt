use Rattle.std.proofs.Common.{◌≡◌, ◌+◌, ◌≤◌, drop}
use Rattle.hold_build.specs.inner.CellArcs.{over_count}
use Rattle.hold_build.proofs.cell_arcs.inst_count.Given as goal

-- what is left makes the number of all
abbrev pub invariant-loop-place : goal.invariant-loop-place
invariant-loop-place l = record {
  rest : l.count + over_count l.bound.types (drop l.place l.bound.netlist.insts) ≡ over_count l.bound.types l.bound.netlist.insts;
  few : l.count ≤ l.room;
}
