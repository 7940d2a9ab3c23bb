use Rattle.std.proofs.Common.{◌≡◌, ◌++◌, drop}
use Rattle.std.specs.Prelude.{flat_map}
use Rattle.hold_netlist.specs.CanonicalText.{assign_line}
use Rattle.hold_vwrite.proofs.lines.put_assign_lines.Given as goal

abbrev pub invariant-loop-assign : goal.invariant-loop-assign
invariant-loop-assign l = l.out.items ++ flat_map (assign_line l.netlist.wires) (drop l.assign-index l.assigns) ≡ l.fn.out.items ++ flat_map (assign_line l.netlist.wires) l.assigns
