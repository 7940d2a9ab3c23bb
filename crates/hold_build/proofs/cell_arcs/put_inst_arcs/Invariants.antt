use Rattle.std.proofs.Common.{◌≡◌, ◌+◌, ◌≤◌, ◌++◌, drop}
use Rattle.hold_base.specs.Limits.{pins_limit}
use Rattle.hold_netlist.specs.Pins.{connection_count}
use Rattle.hold_build.specs.inner.Insts.{over_insts}
use Rattle.hold_build.specs.inner.CellArcs.{cell_arcs}
use Rattle.hold_build.proofs.cell_arcs.put_inst_arcs.Given as goal

-- what is left makes the list of all
abbrev pub invariant-loop-place : goal.invariant-loop-place
invariant-loop-place l = record {
  rest : l.arcs.items ++ over_insts cell_arcs l.bound.types l.first (drop l.place l.bound.netlist.insts) ≡ l.fn.arcs.items ++ over_insts cell_arcs l.bound.types 0 l.bound.netlist.insts;
  few : l.first + connection_count (drop l.place l.bound.netlist.insts) ≤ pins_limit;
}
